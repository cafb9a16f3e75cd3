-- The dash-boundary does not occur before the offset that the search has reached.
use Rattle.std.proofs.Common.{◌≤◌, ◌-◌, length}
use Rattle.mail_check.specs.Multiparts.{has_dash}
use Rattle.mail_check.proofs.lemmas.Bytes.{NoneBefore}
use Rattle.mail_check.proofs.multipart.find_dash.Given as goal

abbrev pub invariant-pairs : goal.invariant-pairs
invariant-pairs l = record {
  within : l.from ≤ length l.rest;
  none : NoneBefore (has_dash l.dash l.text) l.from;
}

abbrev pub decreases-pairs : goal.decreases-pairs
decreases-pairs l = length l.rest - l.from
