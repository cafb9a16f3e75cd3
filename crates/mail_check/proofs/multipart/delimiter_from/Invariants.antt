-- No delimiter is between the start and the offset that the search has reached.
use Rattle.std.proofs.Common.{◌≤◌, ◌-◌, length}
use Rattle.mail_check.specs.Multiparts.{is_from}
use Rattle.mail_check.proofs.lemmas.Bytes.{NoneBefore}
use Rattle.mail_check.proofs.multipart.delimiter_from.Given as goal

abbrev pub invariant-places : goal.invariant-places
invariant-places l = record {
  after : l.start ≤ l.from;
  within : l.from ≤ length l.text;
  none : NoneBefore (is_from l.dash l.text l.start) l.from;
}

abbrev pub decreases-places : goal.decreases-places
decreases-places l = length l.text - l.from
