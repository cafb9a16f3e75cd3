-- Blocks of two vectors of 64 bytes, whose masks are put together.
use Rattle.std.proofs.Common.{◌≡◌, ℕ, ◌+◌, ◌-◌, ◌≤◌, Bool, ◌==◌, bit_or, List, length, take, drop, inl, inr, refl, sym, ap, ◌∙◌, arith}
use Rattle.std.proofs.lemmas.Bool.{cases_eq, ne_eqb, cases_lt}
use Rattle.std.proofs.lemmas.List.{length-drop, length-take-le, drop-drop, drop-take, take-take}
use Rattle.mail_codec.specs.Places.{first_place, begins}
use Rattle.mail_codec.specs.private.Vectors.{lane_mask}
use Rattle.mail_codec.proofs.lemmas.Places.{PassedTo, first_place-≤}
use Rattle.mail_codec.proofs.lemmas.Vectors.{no_match, free_mask}
use Rattle.mail_codec.proofs.lemmas.PlacesSearches.{PassedTo-chunk, PassedTo-found, both_zero}

-- a part of a list from a place onwards lies within a longer one
inside : (k m n : ℕ) (xs : List ℕ) → k + m ≤ n → take m (drop k (take n xs)) ≡ take m (drop k xs)
inside k m n xs h =
    ap (λ (j : ℕ). take m (drop k (take j xs))) {x = n} {y = k + (n - k)} (omega arith)
    ∙ ap (take m) (drop-take k (n - k) xs)
    ∙ take-take m (n - k) (drop k xs) (omega arith)

-- ---- two vectors of 64 bytes

module _ (test : ℕ → Bool) (bytes : List ℕ) (at : ℕ) (fits : at + 128 ≤ length bytes) where
  abbrev pub block : List ℕ
  block = take 128 (drop at bytes)

  long : length block ≡ 128
  long = length-take-le 128 (drop at bytes) (omega (arith, length-drop at bytes))

  -- the vector at a place of the block
  abbrev pub vector : ℕ → List ℕ
  vector k = take 64 (drop (at + k) bytes)

  there : (k : ℕ) → k + 64 ≤ 128 → vector k ≡ take 64 (drop k block)
  there k h = ap (take 64) (sym (drop-drop k at bytes)) ∙ sym (inside k 64 128 (drop at bytes) h)

  wide : (k : ℕ) → k + 64 ≤ 128 → length (vector k) ≡ 64
  wide k h = length-take-le 64 (drop (at + k) bytes) (omega (arith, length-drop (at + k) bytes, fits))

  -- the search has come to a place of the block
  abbrev pub Come : ℕ → Type 0
  Come k = PassedTo (begins test) block (first_place (begins test) block) k

  on : (k : ℕ) → k + 64 ≤ 128 → Come k → lane_mask test (vector k) ≡ 0 → Come (k + 64)
  on k h come none =
      PassedTo-chunk test block (vector k) _ k 64 come (omega (arith, long, h)) (there k h) (sym (no_match test (vector k) (lane_mask test (vector k)) refl none) ∙ wide k h)

  free : (k : ℕ) → k + 64 ≤ 128 → Come k → first_place (begins test) block ≡ 128 → lane_mask test (vector k) ≡ 0
  free k h come none = elim (cases_lt (first_place (begins test) (vector k)) 64) [
    | inl low ↦
        let found = PassedTo-found test block (vector k) _ k 64 come (omega (arith, long, h)) (there k h) low in
        absurd (omega arith)
    | inr high ↦ free_mask test (vector k) (omega (arith, first_place-≤ (begins test) (vector k), wide k h))
  ]

  start : Come 0
  start = record { within = omega arith; later = omega arith }

  module _ (a b : ℕ) (is_a : a ≡ lane_mask test (take 64 (drop at bytes))) (is_b : b ≡ lane_mask test (vector 64)) where
    is_first : a ≡ lane_mask test (vector 0)
    is_first = is_a ∙ ap (λ (j : ℕ). lane_mask test (take 64 (drop j bytes))) {x = at} {y = at + 0} (omega arith)

    none_there : bit_or a b ≡ 0 → first_place (begins test) block ≡ 128
    none_there none =
        let two = both_zero a b none in
        let p1 = on 0 (omega arith) start (sym is_first ∙ two.0) in
        let p2 = on 64 (omega arith) p1 (sym is_b ∙ two.1) in
        let later = p2.later in
        omega (arith, later, long, first_place-≤ (begins test) block)

    none_matches : first_place (begins test) block ≡ 128 → bit_or a b ≡ 0
    none_matches none =
        let n1 = free 0 (omega arith) start none in
        let n2 = free 64 (omega arith) (on 0 (omega arith) start n1) none in
        rw (is_first ∙ n1, is_b ∙ n2) refl

    pub free_block : (bit_or a b == 0) ≡ (first_place (begins test) block == 128)
    free_block = elim (cases_eq (first_place (begins test) block) 128) [
      | inl e ↦ ap (λ m. m == 0) (none_matches e) ∙ sym (ap (λ p. p == 128) e)
      | inr n ↦ ne_eqb (bit_or a b) 0 (λ z. n (none_there z)) ∙ sym (ne_eqb (first_place (begins test) block) 128 n)
    ]
