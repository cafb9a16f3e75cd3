-- The text does not occur before the offset that the search has reached.
use Rattle.std.proofs.Common.{◌≤◌, ◌-◌, length}
use Rattle.mail_check.specs.private.Patterns.{is_begin}
use Rattle.mail_check.proofs.lemmas.Bytes.{NoneBefore}
use Rattle.mail_check.proofs.line_tests.has_begin.Given as goal

abbrev pub invariant-pairs : goal.invariant-pairs
invariant-pairs l = record {
  within : l.from ≤ length l.bytes;
  none : NoneBefore (is_begin l.bytes) l.from;
}

abbrev pub decreases-pairs : goal.decreases-pairs
decreases-pairs l = length l.bytes - l.from
