-- The pattern does not occur before the offset that the search has reached.
use Rattle.std.proofs.Common.{◌≤◌, ◌-◌, length}
use Rattle.mail_check.specs.private.Patterns.{matches_at}
use Rattle.mail_check.proofs.lemmas.Bytes.{NoneBefore}
use Rattle.mail_check.proofs.scan.first_match.Given as goal

abbrev pub invariant-places : goal.invariant-places
invariant-places l = record {
  within : l.from ≤ length l.bytes;
  none : NoneBefore (matches_at l.pattern l.bytes) l.from;
}

abbrev pub decreases-places : goal.decreases-places
decreases-places l = length l.bytes - l.from
