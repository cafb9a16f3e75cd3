use Rattle.std.proofs.Common.{◌≡◌, ◌<◌, ◌≤◌, ◌+◌, ◌++◌, length, take, drop}
use Rattle.mail_codec.specs.private.Runs.{without_ends}
use Rattle.mail_codec.proofs.transfer.base_64.groups.next_four.Given as goal

-- the bytes found, then those of the rest, are those from the start onwards
abbrev pub invariant-bytes : goal.invariant-bytes
invariant-bytes l = record {
  long : length l.four ≡ 4;
  few : l.found < 4;
  before : l.at + l.found ≤ l.place;
  so_far : without_ends l.absent (drop l.at l.text) ≡ take l.found l.four ++ without_ends l.absent (drop l.place l.text);
}
