use Rattle.std.proofs.Common.{◌∙◌, ◌-◌, ℕ, Option, ap, rules, tests}
use Rattle.std.specs.Option.{unwrap_or}
use Rattle.std.proofs.lemmas.Iterator.{YieldsList-from_slice}
use Rattle.std.proofs.lemmas.Iterator.Search.{position_from_yields_List}
use Rattle.mail_check.specs.private.Delimiters.{is_other}
use Rattle.mail_check.proofs.lemmas.Bytes.{position_place}
use Rattle.mail_check.proofs.multipart.lead.Goals as goal

pub returns-clause-value : goal.returns-clause-value
returns-clause-value c =
    let place =
    position_from_yields_List is_other _ _ c.position.result c.position.ensures.ran (YieldsList-from_slice _ c.iter.ensures.rest) (λ x b q k. search (rules, tests))
    ∙ position_place is_other c.args.dash.now in
    c.saturating_sub.ensures ∙ ap (λ (n : ℕ). n - 1) (c.unwrap_or.ensures ∙ ap (λ (o : Option ℕ). unwrap_or o 0) place)
