use Rattle.std.proofs.Common.{sym, ◌∙◌, rules, tests}
use Rattle.std.specs.Str.{bytes_eq}
use Rattle.std.proofs.lemmas.Iterator.{YieldsList-from_slice}
use Rattle.std.proofs.lemmas.Iterator.Search.{any_from_yields_List}
use Rattle.mail_data.proofs.lemmas.Separator.{is_name-referred}
use Rattle.mail_data.proofs.mailbox.separator.is_name.Goals as goal

pub returns : goal.returns
returns c =
    any_from_yields_List (λ x. bytes_eq c.args.text.now x.now) _ _ _ c.any.ensures.ran (YieldsList-from_slice c.args.names.now cc) (λ x b q k. search (rules, tests))
    ∙ sym (is_name-referred c.args.names.now c.args.text.now)
