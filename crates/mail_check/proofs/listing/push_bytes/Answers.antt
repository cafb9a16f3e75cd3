use Rattle.std.proofs.Common.{List, ◌++◌, ◌∙◌, ap, map, sym}
use Rattle.std.specs.Prelude.{is_some, not}
use Rattle.std.proofs.lemmas.List.{append-nil}
use Rattle.mail_check.specs.Bytes.{first_offset, is_nul}
use Rattle.mail_check.specs.FindingViews.{finding_view, spot_view}
use Rattle.mail_check.specs.Findings.{Finding, listed}
use Rattle.mail_check.specs.declared.names.Name.TheVariants as name
use Rattle.mail_check.proofs.lemmas.Findings.{no_byte_findings, no_end_findings}
use Rattle.mail_check.proofs.listing.push_bytes.Goals as goal

pub returns-then-is_none : goal.returns-then-is_none
returns-then-is_none c =
    let old = map finding_view c.args.found.now.items in
    sym (append-nil old)
    ∙ ap (λ (found : List Finding). old ++ found)
    (no_byte_findings (spot_view c.args.spot.now) c.args.bytes.now (ap is_some (sym c.find_either.ensures) ∙ c.is_none.ensures ∙ ap not c.if-is_none.true))

pub returns-then-has_even_ends : goal.returns-then-has_even_ends
returns-then-has_even_ends c =
    let old = map finding_view c.args.found.now.items in
    let spot = spot_view c.args.spot.now in
    let bytes = c.args.bytes.now in
    let nul = listed spot name.Nul (first_offset (is_nul bytes) bytes) in
    c.in_ok-push_at.ensures
    ∙ ap (λ (found : List Finding). old ++ found)
    (ap (listed spot name.Nul) c.first_match.ensures.value
    ∙ sym (append-nil nul)
    ∙ ap (λ (found : List Finding). nul ++ found) (no_end_findings spot bytes (sym c.has_even_ends.ensures ∙ c.if-has_even_ends.true)))
