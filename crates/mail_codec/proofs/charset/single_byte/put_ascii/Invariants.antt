use Rattle.std.proofs.Common.{◌≡◌, ◌≤◌, ◌-◌, length, take, IsAscii}
use Rattle.mail_codec.proofs.charset.single_byte.put_ascii.Given as goal

-- the bytes so far are ASCII, and are written
abbrev pub invariant-vectors : goal.invariant-vectors
invariant-vectors l = record {
  within : l.at ≤ length l.bytes;
  ascii : IsAscii (take l.at l.bytes);
  written : take l.at l.output ≡ take l.at l.bytes;
}

abbrev pub decreases-vectors : goal.decreases-vectors
decreases-vectors l = length l.bytes - l.at
