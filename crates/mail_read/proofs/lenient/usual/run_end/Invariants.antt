-- The end of the run is sought from here on.
use Rattle.std.proofs.Common.{◌≡◌, ◌≤◌, ◌-◌, length}
use Rattle.mail_codec.specs.Places.{begins, place_from}
use Rattle.mail_read.specs.private.Usual.{ends_run}
use Rattle.mail_read.proofs.lenient.usual.run_end.Given as goal

abbrev pub invariant-loop-at : goal.invariant-loop-at
invariant-loop-at l = record {
  within : l.at ≤ length l.bytes;
  same : place_from (begins ends_run) l.bytes l.at ≡ place_from (begins ends_run) l.bytes l.from;
}

abbrev pub decreases-loop-at : goal.decreases-loop-at
decreases-loop-at l = length l.bytes - l.at
