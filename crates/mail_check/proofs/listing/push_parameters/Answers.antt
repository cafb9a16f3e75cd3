use Rattle.std.proofs.Common.{◌≡◌, ◌++◌, ◌∙◌, List, Option, ap, map, subst, sym}
use Rattle.std.specs.Prelude.{OnOk, option_map}
use Rattle.mail_check.specs.FindingViews.{finding_view, spot_view}
use Rattle.mail_check.specs.Findings.{Finding}
use Rattle.mail_check.specs.LineViews.{line_view}
use Rattle.mail_check.specs.declared.parameter_names.StrictValue.{StrictValue}
use Rattle.mail_check.specs.private.StrictValues.{strict_view}
use Rattle.mail_check.proofs.lemmas.Parameters.{strict_is_listed}
use Rattle.mail_check.proofs.listing.push_parameters.Goals as goal

pub returns-in-Some : goal.returns-in-Some
returns-in-Some c =
    let read = ap (λ (v : Option StrictValue). option_map strict_view v) (sym c.in-Some.is) ∙ c.in_ok-value.ensures in
    let same = strict_is_listed (spot_view c.args.spot.now) (line_view c.args.line.now) (strict_view c.in-Some.value) read in
    subst (λ (more : List Finding). OnOk c.push_strict.result (map finding_view c.push_strict.new.found.items ≡ map finding_view c.args.found.now.items ++ more))
    same c.push_strict.ensures
