-- A piece that is left is such exactly if one of all is.
use Rattle.std.proofs.Common.{◌≡◌, drop, map}
use Rattle.std.specs.List.{list_any}
use Rattle.mail_check.specs.Words.{is_bad_piece}
use Rattle.mail_check.proofs.words.has_bad_piece.Given as goal

abbrev pub invariant-loop-piece : goal.invariant-loop-piece
invariant-loop-piece l = list_any is_bad_piece (map (λ piece. piece.now) (drop l.piece-index l.found)) ≡ list_any is_bad_piece (map (λ piece. piece.now) l.found)
