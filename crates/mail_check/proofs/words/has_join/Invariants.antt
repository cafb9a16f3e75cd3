-- A piece that is left begins as the one before it exactly if one of all does.
use Rattle.std.proofs.Common.{◌≡◌, drop, map, []}
use Rattle.mail_check.specs.Words.{has_join}
use Rattle.mail_check.proofs.words.has_join.Given as goal

abbrev pub invariant-loop-piece : goal.invariant-loop-piece
invariant-loop-piece l = has_join l.before (map (λ piece. piece.now) (drop l.piece-index l.found)) ≡ has_join [] (map (λ piece. piece.now) l.found)
