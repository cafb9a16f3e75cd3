-- Each place has that of its last candidate among the names so far.
use Rattle.std.proofs.Common.{◌≡◌, ◌≤◌, ◌<◌, ◌-◌, ℕ, length}
use Rattle.std.specs.List.{slice_index_or}
use Rattle.mailparse.specs.private.CharsetSources.{AreInOrder, source_place}
use Rattle.mailparse.specs.private.ExtendedValues.{names_of}
use Rattle.mailparse.proofs.parameters.extended_values.charset_sources.charset_sources.Given as goal

abbrev pub invariant-loop-place : goal.invariant-loop-place
invariant-loop-place g l = record {
  bound : l.place ≤ length l.extended;
  long : length l.places.items ≡ length l.extended;
  source_place : AreInOrder (names_of l.extended) → (k : ℕ) → k < length l.extended → slice_index_or l.places.items k 0 ≡ source_place (names_of l.extended) l.place k;
}

abbrev pub decreases-loop-place : goal.decreases-loop-place
decreases-loop-place g l = length l.extended - l.place
