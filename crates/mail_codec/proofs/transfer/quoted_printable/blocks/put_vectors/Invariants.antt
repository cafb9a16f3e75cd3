use Rattle.std.proofs.Common.{◌≡◌, ◌≤◌, ◌+◌, ◌-◌, take}
use Rattle.mail_codec.proofs.transfer.quoted_printable.blocks.put_vectors.Given as goal

-- the bytes so far are written
abbrev pub invariant-vectors : goal.invariant-vectors
invariant-vectors l = record {
  few : l.at ≤ l.len + 32;
  written : take l.at l.output ≡ take l.at l.bytes;
}

abbrev pub decreases-vectors : goal.decreases-vectors
decreases-vectors l = l.len + 32 - l.at
