-- The tokens of the line are those appended so far, and then those of any ranges that fit the line from `start` onwards.
use Rattle.std.proofs.Common.{◌≤◌, ◌-◌, ◌+◌, length}
use Rattle.std.specs.Str.{IsCharBoundary}
use Rattle.mailparse.specs.private.Cuts.{KeepsClosing}
use Rattle.mailparse.proofs.lemmas.Unfolded.{Completes}
use Rattle.mailparse.proofs.header.tokens.push_line.Given as goal

abbrev pub invariant-loop-open : goal.invariant-loop-open
invariant-loop-open g l = record {
  in_line : l.start ≤ length l.line;
  boundary : IsCharBoundary l.line l.start;
  completes : Completes (g.K.KnownCharsets.known l.known) l.line l.start l.fn.unfolded l.unfolded;
  keeps : KeepsClosing l.line (l.start + 2) l.close;
}

abbrev pub decreases-loop-open : goal.decreases-loop-open
decreases-loop-open g l = length l.line - l.start
