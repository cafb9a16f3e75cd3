-- Lemmas on the pieces of values.
use Rattle.std.proofs.Common.{◌≡◌, ◌∙◌, ◌+◌, ◌<◌, ℕ, List, [], ◌∷◌, ◌++◌, length, map, take, drop, refl, sym, ap, Bool, Some, None, inl, inr, arith}
use Rattle.std.specs.Borrow.{Bor}
use Rattle.std.specs.List.{slice_split}
use Rattle.std.proofs.lemmas.List.{append_assoc, map_push}
use Rattle.std.specs.Option.{unwrap_or}
use Rattle.std.proofs.lemmas.Bool.{cases_Bool, cases_lt, le-ltb, lt-ltb}
use Rattle.std.proofs.lemmas.List.Splits.{slice_split_first}
use Rattle.mail_codec.specs.Places.{begins, first_place, place}
use Rattle.mail_check.specs.Bytes.{first_byte}
use Rattle.mail_check.specs.Words.{is_gap, pieces}
use Rattle.mail_codec.proofs.lemmas.Places.{first_place-begins, first_place-≤}
use Rattle.mail_codec.proofs.lemmas.PlacesSearches.{place_none, place_some}

-- the place that was found, or the length
pub place_unwrapped : (test : List ℕ → Bool) (bytes : List ℕ) → unwrap_or (place test bytes) (length bytes) ≡ first_place test bytes
place_unwrapped test bytes = elim (cases_lt (first_place test bytes) (length bytes)) [
  | inl l ↦ rw (lt-ltb (first_place test bytes) (length bytes) l) refl
  | inr g ↦ let le = first_place-≤ test bytes in rw (le-ltb (first_place test bytes) (length bytes) g) (omega (arith, le, g))
]

-- the first piece, if a gap was found
piece_first : (test : ℕ → Bool) (bytes : List ℕ) (n : ℕ) → Some n ≡ place (begins test) bytes → slice_split test bytes ≡ take n bytes ∷ slice_split test (drop (n + 1) bytes)
piece_first test bytes n h =
    let p = place_some (begins test) bytes n h in
    let same = first_place-begins test bytes in
    slice_split_first test bytes 0 (omega (arith, p.1, same))
    ∙ ap (λ (k : ℕ). take k bytes ∷ slice_split test (drop (k + 1) bytes)) (sym (p.0 ∙ same))

-- if none was
whole_piece : (test : ℕ → Bool) (bytes : List ℕ) → first_place (begins test) bytes ≡ length bytes → slice_split test bytes ≡ bytes ∷ []
whole_piece test [] h = refl
whole_piece test (b ∷ bytes) h = elim (cases_Bool (test b)) [
  | inl e ↦ let s = rw e at h in absurd (omega (arith, s))
  | inr e ↦ let s = rw e at h in rw (e, whole_piece test bytes (omega (arith, s))) refl
]

-- the same of the pieces of a value
pub pieces_next : (bytes : List ℕ) (n : ℕ) → Some n ≡ first_byte is_gap bytes → pieces bytes ≡ take n bytes ∷ pieces (drop (n + 1) bytes)
pieces_next bytes n h = piece_first is_gap bytes n h

pub pieces_end : (bytes : List ℕ) → None ≡ first_byte is_gap bytes → pieces bytes ≡ bytes ∷ []
pieces_end bytes h = whole_piece is_gap bytes (place_none (begins is_gap) bytes h)

-- one more piece
pub pieces_pushed : (new old : List (Bor (List ℕ))) (x : Bor (List ℕ)) (rest next value : List ℕ) (n : ℕ) → new ≡ old ++ x ∷ [] → x.now ≡ take n rest → next ≡ drop (n + 1) rest
    → Some n ≡ first_byte is_gap rest → map (λ piece. piece.now) old ++ pieces rest ≡ pieces value → map (λ piece. piece.now) new ++ pieces next ≡ pieces value
pieces_pushed new old x rest next value n push at after h before =
    let tail : x.now ∷ pieces next ≡ pieces rest =
    ap (λ (t : List ℕ). t ∷ pieces next) at ∙ ap (λ (t : List ℕ). take n rest ∷ pieces t) after ∙ sym (pieces_next rest n h) in
    ap (λ (xs : List (Bor (List ℕ))). map (λ piece. piece.now) xs ++ pieces next) push
    ∙ ap (λ (xs : List (List ℕ)). xs ++ pieces next) (map_push (λ (piece : Bor (List ℕ)). piece.now) old x)
    ∙ append_assoc (map (λ piece. piece.now) old) (x.now ∷ []) (pieces next)
    ∙ ap (λ (t : List (List ℕ)). map (λ piece. piece.now) old ++ t) tail
    ∙ before

-- the last piece
pub pieces_last : (new old : List (Bor (List ℕ))) (x : Bor (List ℕ)) (value : List ℕ) → new ≡ old ++ x ∷ [] → None ≡ first_byte is_gap x.now
    → map (λ piece. piece.now) old ++ pieces x.now ≡ pieces value → map (λ piece. piece.now) new ≡ pieces value
pieces_last new old x value push h before =
    ap (λ (xs : List (Bor (List ℕ))). map (λ piece. piece.now) xs) push
    ∙ map_push (λ (piece : Bor (List ℕ)). piece.now) old x
    ∙ ap (λ (t : List (List ℕ)). map (λ piece. piece.now) old ++ t) (sym (pieces_end x.now h))
    ∙ before

-- a gap is within the bytes
pub gap_within : (bytes : List ℕ) (n : ℕ) → Some n ≡ first_byte is_gap bytes → n < length bytes
gap_within bytes n h = let p = place_some (begins is_gap) bytes n h in omega (arith, p.0, p.1)
