-- The bytes before `at` come before the first segment from there on.
use Rattle.std.proofs.Common.{◌≤◌, ◌-◌, length}
use Rattle.mailparse.specs.private.Segments.{quote_state}
use Rattle.mailparse.proofs.lemmas.Segments.{Reaches}
use Rattle.mailparse.proofs.parameters.segments.cut_segment.Given as goal

abbrev pub invariant-loop-at : goal.invariant-loop-at
invariant-loop-at l = record { in_text : l.at ≤ length l.text; reaches : Reaches l.text l.at (quote_state l.state) }

abbrev pub decreases-loop-at : goal.decreases-loop-at
decreases-loop-at l = length l.text - l.at
