use Rattle.std.proofs.Common.{◌≡◌, ◌++◌, ◌∙◌, ℕ, Bool, List, [], Option, ap, map, subst, sym}
use Rattle.std.specs.Prelude.{OnOk, is_some, not, if◌then◌else◌}
use Rattle.mail_check.specs.FindingViews.{finding_view, spot_view}
use Rattle.mail_check.specs.Findings.{Finding, word_findings}
use Rattle.mail_check.specs.LineViews.{line_view}
use Rattle.mail_check.specs.Words.{pieces}
use Rattle.mail_check.proofs.lemmas.Wordless.{wordless}
use Rattle.mail_check.proofs.listing.push_worded.Goals as goal

pub returns-then-is_none : goal.returns-then-is_none
returns-then-is_none g c =
    let known = g.K.KnownCharsets.known c.args.known.now in
    let spot = spot_view c.args.spot.now in
    let line = line_view c.args.line.now in
    let old = map finding_view c.args.found.now.items in
    let new = map finding_view c.push_wordless.new.found.items in
    let lacks = ap (λ (o : Option ℕ). is_some o) (sym c.find_byte.ensures) ∙ (c.is_none.ensures ∙ ap not c.if-is_none.true) in
    let worded = sym c.is_worded.ensures ∙ c.if-not-is_worded.false in
    let same = ap (λ (is : Bool). if is then word_findings known spot line (pieces line.value) else []) worded ∙ wordless known spot line lacks in
    subst (λ (more : List Finding). OnOk c.push_wordless.result (new ≡ old ++ more)) (sym same) c.push_wordless.ensures
