use Rattle.std.proofs.Common.{◌≡◌, ◌≤◌, ◌-◌, ◌++◌, length, drop}
use Rattle.mail_codec.specs.private.Runs.{without_ends}
use Rattle.mail_codec.proofs.bytescan.runs.push_runs.Given as goal

-- the bytes appended, then those kept of the rest, are all
abbrev pub invariant-buffers : goal.invariant-buffers
invariant-buffers l = record {
  within : l.at ≤ length l.bytes;
  so_far : l.kept.items ++ without_ends l.end (drop l.at l.bytes) ≡ l.initial.kept.items ++ without_ends l.end l.bytes;
}

abbrev pub decreases-buffers : goal.decreases-buffers
decreases-buffers l = length l.bytes - l.at
