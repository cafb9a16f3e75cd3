use Rattle.std.proofs.Common.{◌≡◌, ◌++◌, ◌∙◌, List, ℕ, ap, arith, length}
use Rattle.mail_check.specs.FindingViews.{finding_view}
use Rattle.mail_records.proofs.lemmas.Findings.{next_finding}
use Rattle.mail_records.proofs.findings.push_finding.Goals as goal

pub returns : goal.returns
returns c =
    let s0 = c.args.found.now.strings in
    let s1 = c.extend_from_slice.new.self in
    let s2 = c.extend_from_slice-2.new.self in
    let s3 = c.extend_from_slice-3.new.self in
    let at : c.len-name.result ≡ length s0.items = omega (arith, c.len-name.ensures, s0.ok.0) in
    let at1 : c.len-path.result ≡ length s1.items = omega (arith, c.len-path.ensures, s1.ok.0) in
    let at2 : c.len-sentence.result ≡ length s2.items = omega (arith, c.len-sentence.ensures, s2.ok.0) in
    let at3 : c.len.result ≡ length s3.items = omega (arith, c.len.ensures, s3.ok.0) in
    let name = ap (λ (t : List ℕ). s0.items ++ t) (c.as_bytes.ensures.value ∙ c.text.ensures) in
    let path = ap (λ (t : List ℕ). s1.items ++ t) c.as_bytes-2.ensures.value in
    let sentence = ap (λ (t : List ℕ). s2.items ++ t) (c.as_bytes-3.ensures.value ∙ c.sentence.ensures) in λ findings are.
    next_finding c.args.found.now findings (finding_view c.args.finding.now) _ _ _ _ _ _ _ _ _ c.class_number.ensures
    at (c.in_ok-extend_from_slice.ensures.items ∙ name) at1 (c.in_ok-extend_from_slice-2.ensures.items ∙ path)
    at2 (c.in_ok-extend_from_slice-3.ensures.items ∙ sentence) at3 c.in_ok-push.ensures.items are
