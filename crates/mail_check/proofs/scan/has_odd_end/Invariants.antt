-- No odd end begins before the offset that the search has reached.
use Rattle.std.proofs.Common.{◌-◌, ◌≤◌, length}
use Rattle.mail_check.specs.private.Patterns.{is_odd_end}
use Rattle.mail_check.proofs.lemmas.Bytes.{NoneBefore}
use Rattle.mail_check.proofs.scan.has_odd_end.Given as goal

abbrev pub invariant-bytes : goal.invariant-bytes
invariant-bytes l = record {
  within : l.at ≤ length l.bytes;
  none : NoneBefore (is_odd_end l.bytes) l.at;
}

abbrev pub decreases-bytes : goal.decreases-bytes
decreases-bytes l = length l.bytes - l.at
