-- What ends here ends where the search began.
use Rattle.std.proofs.Common.{◌≡◌, ◌≤◌, ◌-◌, true, drop, length}
use Rattle.mail_read.specs.private.Usual.{ends_value}
use Rattle.mail_read.proofs.lenient.usual.ends_usually.Given as goal

abbrev pub invariant-parameters : goal.invariant-parameters
invariant-parameters l = record {
  within : l.at ≤ length l.bytes;
  ends : ends_value (drop l.at l.bytes) ≡ true → ends_value (drop l.from l.bytes) ≡ true;
}

abbrev pub decreases-parameters : goal.decreases-parameters
decreases-parameters l = length l.bytes - l.at
