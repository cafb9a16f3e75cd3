use Rattle.std.proofs.Common.{length-drop, arith}
use Rattle.std.proofs.lemmas.List.{take_rest}
use Rattle.std.proofs.lemmas.Str.{IsUtf8-append, IsUtf8-encode}
use Rattle.mail_codec.specs.private.Utf16.{unit_of}
use Rattle.mail_codec.proofs.lemmas.CharsetUtf16.{chars_written}
use Rattle.mail_codec.proofs.charset.utf16.encode_front.Goals as goal

pub loop-taken-preserved : goal.loop-taken-preserved
loop-taken-preserved c = record {
  taken_within = let within = simp (take_rest, length-drop) at c.first_char-character.ensures.bounds in omega arith;
  at_within = omega arith;
  few = omega arith;
  text = chars_written (unit_of c.args.order) c.args.bytes.now _ _ _ c.loop-taken.taken c.first_char-character.result.1 c.first_char-character.result.0 c.loop-taken.invariant.text c.put_char-at.ensures.written (rw take_rest at c.first_char-character.ensures.chars);
  utf8 = rw c.put_char-at.ensures.written (IsUtf8-append _ _ c.loop-taken.invariant.utf8 (IsUtf8-encode _ c.put_char-at.ensures.scalar));
}
