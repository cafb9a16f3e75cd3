-- The bytes that are left decide.
use Rattle.std.proofs.Common.{◌≡◌, ◌≤◌, length}
use Rattle.mail_records.specs.Nameless.{has_am_after}
use Rattle.mail_records.proofs.nameless.has_am.Given as goal

abbrev pub invariant-letters : goal.invariant-letters
invariant-letters l = record {
  shorter : length l.rest ≤ length l.text;
  same : has_am_after 0 l.rest ≡ has_am_after 0 l.text;
}

abbrev pub decreases-letters : goal.decreases-letters
decreases-letters l = length l.rest
