-- All lengths from the place that was asked for on, up to the place so far, are at least so much.
use Rattle.std.proofs.Common.{◌≤◌, ◌<◌, ◌-◌, ℕ, length}
use Rattle.std.specs.List.{slice_index_or}
use Rattle.mailparse.proofs.parameters.extended_values.charset_sources.last_with.Given as goal

abbrev pub invariant-loop-last : goal.invariant-loop-last
invariant-loop-last l = record {
  from : l.place ≤ l.last;
  within : l.last ≤ length l.shared;
  all : (k : ℕ) → l.place ≤ k → k < l.last → l.len ≤ slice_index_or l.shared k 0;
}

abbrev pub decreases-loop-last : goal.decreases-loop-last
decreases-loop-last l = length l.shared - l.last
