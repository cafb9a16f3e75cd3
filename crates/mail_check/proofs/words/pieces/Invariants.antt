-- The pieces so far, and then those of the rest, are the pieces of the value.
use Rattle.std.proofs.Common.{◌≡◌, ◌≤◌, ◌++◌, length, map}
use Rattle.mail_check.specs.Words.{pieces}
use Rattle.mail_check.proofs.words.pieces.Given as goal

abbrev pub invariant-gaps : goal.invariant-gaps
invariant-gaps l = record {
  shorter : length l.rest ≤ length l.value;
  all : map (λ piece. piece.now) l.found.items ++ pieces l.rest ≡ pieces l.value;
}

abbrev pub decreases-gaps : goal.decreases-gaps
decreases-gaps l = length l.rest
