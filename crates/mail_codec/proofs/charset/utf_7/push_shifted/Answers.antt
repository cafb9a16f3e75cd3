use Rattle.std.proofs.Common.{◌≡◌, ◌∙◌, ◌+◌, ◌++◌, ap, arith, encode_utf8_all, string_bytes, true, false}
use Rattle.mail_codec.specs.Front.{Taken}
use Rattle.mail_codec.specs.Utf7.{shifted}
use Rattle.mail_codec.proofs.lemmas.Utf7.{shifted_is}
use Rattle.mail_codec.proofs.charset.utf_7.push_shifted.Goals as goal

pub returns-then-is_closed-clause-pushed : goal.returns-then-is_closed-clause-pushed
returns-then-is_closed-clause-pushed c =
    c.in_ok-push_letters_or_plus.ensures
    ∙ ap (λ (t : Taken). string_bytes c.args.text.now ++ encode_utf8_all t.0)
    (shifted_is c.args.bytes.now c.letters_length-count.result c.is_minus-is_closed.result c.letters_length-count.ensures.value c.is_minus-is_closed.ensures.value)

pub returns-then-is_closed-clause-taken : goal.returns-then-is_closed-clause-taken
returns-then-is_closed-clause-taken c =
    let taken : 1 + c.letters_length-count.result + 1 ≡ (shifted c.args.bytes.now).1 =
    ap (λ (t : Taken). t.1) (shifted_is c.args.bytes.now c.letters_length-count.result true c.letters_length-count.ensures.value c.if-is_closed.ensures.value) in
    omega arith

pub returns-else-is_closed-clause-pushed : goal.returns-else-is_closed-clause-pushed
returns-else-is_closed-clause-pushed c =
    c.in_ok-push_letters_or_plus.ensures
    ∙ ap (λ (t : Taken). string_bytes c.args.text.now ++ encode_utf8_all t.0)
    (shifted_is c.args.bytes.now c.letters_length-count.result c.is_minus-is_closed.result c.letters_length-count.ensures.value c.is_minus-is_closed.ensures.value)

pub returns-else-is_closed-clause-taken : goal.returns-else-is_closed-clause-taken
returns-else-is_closed-clause-taken c =
    let taken : 1 + c.letters_length-count.result + 0 ≡ (shifted c.args.bytes.now).1 =
    ap (λ (t : Taken). t.1) (shifted_is c.args.bytes.now c.letters_length-count.result false c.letters_length-count.ensures.value c.if-is_closed.ensures.value) in
    omega arith
