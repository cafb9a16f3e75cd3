-- The first byte that is no blank is sought from here on.
use Rattle.std.proofs.Common.{◌≡◌, ◌≤◌, ◌-◌, not, length}
use Rattle.mail_codec.specs.Ascii.{is_blank}
use Rattle.mail_codec.specs.Places.{begins, place_from}
use Rattle.mail_records.proofs.places.after_blanks.Given as goal

abbrev pub invariant-loop-at : goal.invariant-loop-at
invariant-loop-at l = record {
  within : l.at ≤ length l.raw;
  same : place_from (begins (λ b. not (is_blank b))) l.raw l.at ≡ place_from (begins (λ b. not (is_blank b))) l.raw l.from;
}

abbrev pub decreases-loop-at : goal.decreases-loop-at
decreases-loop-at l = length l.raw - l.at
