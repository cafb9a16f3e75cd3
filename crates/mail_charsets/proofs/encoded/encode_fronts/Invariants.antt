use Rattle.std.proofs.Common.{◌≡◌, ◌-◌, ◌*◌, ◌≤◌, ◌++◌, length, take, drop, IsUtf8}
use Rattle.mail_codec.specs.Front.{text_by}
use Rattle.mail_charsets.specs.Front.{front_by}
use Rattle.mail_charsets.proofs.encoded.encode_fronts.Given as goal

-- the text in the buffer, and then that of the other bytes, is the whole text
abbrev pub invariant-fronts : goal.invariant-fronts
invariant-fronts g l =
    let front = front_by (g.E.Encoded.long l.encoding) (g.E.Encoded.single l.encoding) (g.E.Encoded.pairs l.encoding) in record {
      taken_within : l.taken ≤ length l.bytes;
      at_within : l.at ≤ length l.buffer;
      few : l.at ≤ 8 * l.taken;
      text : text_by front l.bytes ≡ take l.at l.buffer ++ text_by front (drop l.taken l.bytes);
      utf8 : IsUtf8 (take l.at l.buffer);
    }

abbrev pub decreases-fronts : goal.decreases-fronts
decreases-fronts g l = length l.bytes - l.taken
