use Rattle.std.proofs.Common.{◌≡◌, ◌-◌, ◌*◌, ◌≤◌, ◌++◌, length, take, drop, IsUtf8}
use Rattle.mail_charsets.specs.Iso2022Jp.{jp_text_from}
use Rattle.mail_charsets.proofs.iso_2022_jp.encode_steps.Given as goal

-- the text in the buffer, and then that of the other bytes, is the whole text
abbrev pub invariant-steps : goal.invariant-steps
invariant-steps l = record {
  taken_within : l.taken ≤ length l.bytes;
  at_within : l.at ≤ length l.buffer;
  few : l.at ≤ 8 * l.taken;
  text : jp_text_from l.index l.fn.state l.bytes ≡ take l.at l.buffer ++ jp_text_from l.index l.state (drop l.taken l.bytes);
  utf8 : IsUtf8 (take l.at l.buffer);
}

abbrev pub decreases-steps : goal.decreases-steps
decreases-steps l = length l.bytes - l.taken
