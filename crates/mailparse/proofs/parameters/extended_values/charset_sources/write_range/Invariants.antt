-- The entries so far are `place`, and the others are unchanged.
use Rattle.std.proofs.Common.{◌≡◌, ◌≤◌, ◌<◌, ◌-◌, ℕ, length}
use Rattle.std.specs.List.{slice_index_or}
use Rattle.mailparse.proofs.parameters.extended_values.charset_sources.write_range.Given as goal

abbrev pub invariant-loop-at : goal.invariant-loop-at
invariant-loop-at l = record {
  from : l.first ≤ l.at;
  until : l.at ≤ l.end;
  long : length l.places.items ≡ length l.initial.places.items;
  before : (k : ℕ) → k < l.first → slice_index_or l.places.items k 0 ≡ slice_index_or l.initial.places.items k 0;
  inside : (k : ℕ) → l.first ≤ k → k < l.at → slice_index_or l.places.items k 0 ≡ l.place;
  after : (k : ℕ) → l.at ≤ k → slice_index_or l.places.items k 0 ≡ slice_index_or l.initial.places.items k 0;
}

abbrev pub decreases-loop-at : goal.decreases-loop-at
decreases-loop-at l = l.end - l.at
