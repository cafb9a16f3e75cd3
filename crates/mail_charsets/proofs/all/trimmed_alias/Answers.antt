use Rattle.std.proofs.Common.{◌∙◌, None, Some, ap, sym, option_map, rules, tests}
use Rattle.std.proofs.lemmas.Iterator.{YieldsList-from_slice}
use Rattle.std.proofs.lemmas.Iterator.Search.{find_from_yields_List}
use Rattle.mail_charsets.proofs.lemmas.Labels.{has, row_found}
use Rattle.mail_charsets.proofs.all.trimmed_alias.Goals as goal

pub returns-in-Some : goal.returns-in-Some
returns-in-Some c =
    let yields = YieldsList-from_slice _ c.iter.ensures.rest in
    row_found (λ e. e.now) c.args.name.now yields (Some c.in-Some.row)
    (ap (option_map (λ x. x.now)) (sym c.in-Some.is) ∙ find_from_yields_List (has c.args.name.now) _ _ c.find.result c.find.ensures.ran yields (λ x b q k. search (rules, tests)))

pub returns-in-None : goal.returns-in-None
returns-in-None c =
    let yields = YieldsList-from_slice _ c.iter.ensures.rest in
    row_found (λ e. e.now) c.args.name.now yields None
    (ap (option_map (λ x. x.now)) (sym c.in-None.is) ∙ find_from_yields_List (has c.args.name.now) _ _ c.find.result c.find.ensures.ran yields (λ x b q k. search (rules, tests)))
