-- The first LF is sought from here on.
use Rattle.std.proofs.Common.{◌≡◌, ◌≤◌, ◌-◌, length}
use Rattle.mail_codec.specs.Places.{begins, place_from}
use Rattle.mailparse.specs.Header.{is_line_feed}
use Rattle.mail_records.proofs.places.line_feed_from.Given as goal

abbrev pub invariant-loop-at : goal.invariant-loop-at
invariant-loop-at l = record {
  within : l.at ≤ length l.raw;
  same : place_from (begins is_line_feed) l.raw l.at ≡ place_from (begins is_line_feed) l.raw l.from;
}

abbrev pub decreases-loop-at : goal.decreases-loop-at
decreases-loop-at l = length l.raw - l.at
