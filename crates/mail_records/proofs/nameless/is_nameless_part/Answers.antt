use Rattle.std.proofs.Common.{Bool, ◌&&◌, not, sym, ap, ◌∙◌}
use Rattle.std.specs.Prelude.{codes}
use Rattle.mailparse.specs.Mail.{root}
use Rattle.mailparse.specs.Views.{tree_of}
use Rattle.mail_records.specs.Nameless.{lacks_name}
use Rattle.mail_records.proofs.nameless.is_nameless_part.Goals as goal

pub returns-then-is_none : goal.returns-then-is_none
returns-then-is_none c =
    c.lacks_name.ensures
    ∙ ap (λ (t : Bool). t && lacks_name (codes "Content-Type") (root (tree_of c.args.part.now))) (sym (c.requires (c.is_none.ensures ∙ ap not c.if-is_none.true)))
