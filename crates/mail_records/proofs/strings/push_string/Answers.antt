use Rattle.std.proofs.Common.{◌≡◌, ◌+◌, ℕ, List, ◌++◌, length, ap, ◌∙◌, arith, length-append}
use Rattle.mail_records.specs.Strings.{end_from, own}
use Rattle.mail_records.proofs.lemmas.Rows.{row-appended}
use Rattle.mail_records.proofs.strings.push_string.Goals as goal

pub returns : goal.returns
returns c = λ texts are.
    let old = c.args.strings.now in
    let text = c.args.text.now in
    let written = c.in_ok-extend_from_slice.ensures.items ∙ ap (λ (t : List ℕ). old.strings.items ++ t) c.as_bytes.ensures.value in
    let size = ap (λ (t : List ℕ). length t) written ∙ length-append old.strings.items text in
    let end : c.len.result ≡ length old.strings.items + length text = omega (arith, c.len.ensures, c.extend_from_slice.new.self.ok.0, size) in
    row-appended end_from own old texts text _ _ _ end c.in_ok-push.ensures.items written are
