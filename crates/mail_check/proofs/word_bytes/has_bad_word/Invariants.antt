-- A piece that is left is such exactly if one of all is.
use Rattle.std.proofs.Common.{◌≡◌, drop, map}
use Rattle.std.specs.List.{list_any}
use Rattle.mail_check.specs.WordBytes.{has_bad_octets}
use Rattle.mail_check.proofs.word_bytes.has_bad_word.Given as goal

abbrev pub invariant-loop-piece : goal.invariant-loop-piece
invariant-loop-piece g l =
    let is_bad = has_bad_octets (g.K.KnownCharsets.known l.known) in
    list_any is_bad (map (λ piece. piece.now) (drop l.piece-index l.found)) ≡ list_any is_bad (map (λ piece. piece.now) l.found)
