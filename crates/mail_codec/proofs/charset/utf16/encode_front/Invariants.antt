use Rattle.std.proofs.Common.{◌≡◌, ◌-◌, ◌*◌, ◌≤◌, ◌++◌, length, take, drop, encode_utf8_all, IsUtf8}
use Rattle.mail_codec.specs.Charset.{utf_16_chars}
use Rattle.mail_codec.specs.private.Utf16.{unit_of}
use Rattle.mail_codec.proofs.charset.utf16.encode_front.Given as goal

-- the text in the buffer, and then that of the other bytes, is the whole text
abbrev pub invariant-loop-taken : goal.invariant-loop-taken
invariant-loop-taken l = record {
  taken_within : l.taken ≤ length l.bytes;
  at_within : l.at ≤ length l.buffer;
  few : l.at ≤ 4 * l.taken;
  text : encode_utf8_all (utf_16_chars (unit_of l.order) l.bytes) ≡ take l.at l.buffer ++ encode_utf8_all (utf_16_chars (unit_of l.order) (drop l.taken l.bytes));
  utf8 : IsUtf8 (take l.at l.buffer);
}

abbrev pub decreases-loop-taken : goal.decreases-loop-taken
decreases-loop-taken l = length l.bytes - l.taken
