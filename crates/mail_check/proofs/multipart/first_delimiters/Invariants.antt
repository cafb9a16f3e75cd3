-- The offsets so far are the first ones below the offset that the search has reached.
use Rattle.std.proofs.Common.{◌≤◌, ◌-◌, length}
use Rattle.mail_check.proofs.lemmas.Delimiters.{AreBelow}
use Rattle.mail_check.proofs.multipart.first_delimiters.Given as goal

abbrev pub invariant-places : goal.invariant-places
invariant-places l = record {
  within : l.from ≤ length l.text;
  below : AreBelow l.dash l.text l.found l.from;
}

abbrev pub decreases-places : goal.decreases-places
decreases-places l = length l.text - l.from
