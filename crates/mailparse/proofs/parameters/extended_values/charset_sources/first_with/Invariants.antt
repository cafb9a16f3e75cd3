-- All lengths from the place so far on, up to the one that was asked for, are at least so much.
use Rattle.std.proofs.Common.{◌≤◌, ◌<◌, ℕ}
use Rattle.std.specs.List.{slice_index_or}
use Rattle.mailparse.proofs.parameters.extended_values.charset_sources.first_with.Given as goal

abbrev pub invariant-loop-first : goal.invariant-loop-first
invariant-loop-first l = record {
  bound : l.first ≤ l.place;
  all : (k : ℕ) → l.first ≤ k → k < l.place → l.len ≤ slice_index_or l.shared k 0;
}

abbrev pub decreases-loop-first : goal.decreases-loop-first
decreases-loop-first l = l.first
