use Rattle.std.proofs.Common.{◌≡◌, ◌*◌, ◌≤◌, ◌-◌, length, take, IsUtf8}
use Rattle.mail_codec.proofs.lemmas.CharsetSingleByte.{spelled}
use Rattle.mail_codec.proofs.charset.single_byte.encode_block.Given as goal

-- the text of the bytes so far is at the front of the buffer
abbrev pub invariant-characters : goal.invariant-characters
invariant-characters l = record {
  below : l.from ≤ length l.bytes;
  within : l.at ≤ 4 * l.from;
  text : take l.at l.buffer ≡ spelled l.high (take l.from l.bytes);
  utf8 : IsUtf8 (take l.at l.buffer);
}

abbrev pub decreases-characters : goal.decreases-characters
decreases-characters l = length l.bytes - l.from
