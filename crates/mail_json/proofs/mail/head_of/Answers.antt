use Rattle.std.proofs.Common.{◌++◌, List, ℕ, ap, ◌∙◌}
use Rattle.mailparse.specs.Views.{tree_of}
use Rattle.mail_json.specs.Origin.{origin_of}
use Rattle.mail_json_text.specs.Printed.{begun}
use Rattle.mail_json.specs.Values.{head_members}
use Rattle.mail_json.proofs.mail.head_of.Goals as goal

pub returns-in-Ok-clause-written : goal.returns-in-Ok-clause-written
returns-in-Ok-clause-written g c =
    let members = head_members (g.K.KnownCharsets.known c.args.known.now) c.args.options.decodes_bodies (origin_of c.args.origin.now) (tree_of c.args.mail.now) in
    c.in-Ok.ensures.text ∙ ap (λ (bytes : List ℕ). bytes ++ begun members) c.in_ok-line.ensures
