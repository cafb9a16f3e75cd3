-- Each index so far is its own entry.
use Rattle.std.proofs.Common.{◌≡◌, ◌≤◌, ◌<◌, ◌-◌, ℕ, length}
use Rattle.std.specs.List.{slice_index_or}
use Rattle.mailparse.proofs.parameters.extended_values.charset_sources.own_places.Given as goal

abbrev pub invariant-loop-place : goal.invariant-loop-place
invariant-loop-place l = record {
  bound : l.place ≤ l.count;
  long : length l.places.items ≡ l.place;
  own : (k : ℕ) → k < l.place → slice_index_or l.places.items k 0 ≡ k;
}

abbrev pub decreases-loop-place : goal.decreases-loop-place
decreases-loop-place l = l.count - l.place
