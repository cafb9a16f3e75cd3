use Rattle.std.proofs.Common.{◌∙◌, ◌+◌, ◌++◌, ap, encode_utf8_all, drop, map, string_bytes}
use Rattle.std.specs.Prelude.{encode_utf8}
use Rattle.mail_charsets.specs.Encoding.{x_user_defined_char}
use Rattle.mail_charsets.proofs.lemmas.XUserDefined.{char_pushed, chars_done}
use Rattle.mail_charsets.proofs.x_user_defined.decode_x_user_defined.Goals as goal

pub loop-byte-init : goal.loop-byte-init
loop-byte-init c = ap (λ made. made ++ encode_utf8_all (map x_user_defined_char c.args.bytes.now)) c.in_ok-text.ensures.bytes

pub loop-byte-preserved : goal.loop-byte-preserved
loop-byte-preserved c =
    ap (λ made. made ++ encode_utf8_all (map x_user_defined_char (drop (c.loop-byte.byte-index + 1) c.args.bytes.now)))
    (c.in_ok-push.ensures.bytes ∙ ap (λ x. string_bytes c.loop-byte.text ++ encode_utf8 x) c.character.ensures)
    ∙ char_pushed x_user_defined_char c.args.bytes.now _ _ c.loop-byte.byte-index c.loop-byte-test.true c.loop-byte.invariant

pub returns : goal.returns
returns c = chars_done x_user_defined_char c.args.bytes.now _ _ c.loop-byte.byte-index c.loop-byte-test.false c.loop-byte.invariant
