-- The text so far is the pieces so far, joined by spaces.
use Rattle.std.proofs.Common.{◌≡◌, map, length, eqb}
use Rattle.std.specs.List.{join_with_byte}
use Rattle.std.specs.String.{string_bytes}
use Rattle.mailparse.proofs.header.encoded_word.with_spaces.Given as goal

abbrev pub invariant-loop-piece : goal.invariant-loop-piece
invariant-loop-piece l = record {
  first : l.is_first ≡ eqb (length l.yielded) 0;
  joined : string_bytes l.text ≡ join_with_byte 32 (map (λ piece. piece.now) l.yielded);
}
