-- Vectors of bytes, lane by lane.
use Rattle.std.proofs.Common.{◌≡◌, ℕ, zero, suc, ◌+◌, ◌*◌, ◌/◌, ◌^◌, ◌%◌, ◌<◌, ◌≤◌, ◌-◌, Bool, true, false, cond, ◌==◌, ◌||◌, bit_or, List, [], ◌∷◌, map, length, take, drop, get_or, replicate, Fits, w8, refl, sym, ap, inl, inr, ◌∙◌, arith}
use Rattle.std.proofs.lemmas.List.{get_or-map, get_or-take, length-map, map-id, drop-map, ext_get_or}
use Rattle.std.proofs.lemmas.Bool.{cases_lt, agree_below, agree_below_at, eqb-true}
use Rattle.std.proofs.lemmas.Simd.{Each1-from_get_or, swz_l, SwzOk, SwzOk-from_below, length-swz_l, get_or-swz_l_below, map-map, bitmask_splat, mask_l-mod, zip2_splat, zip2_splat_left, zip2_of_maps, leading_from_mask_l, trailing_mask_l}
use Rattle.std.specs.Prelude.{nat_le}
use Rattle.std.specs.Char.{is_ascii_whitespace}
use Rattle.mail_codec.specs.private.Vectors.{whitespace_of_half}
use Rattle.mail_codec.specs.Places.{begins, first_place}
use Rattle.mail_codec.proofs.lemmas.Places.{first_place-≤, first_place-begins}
use Rattle.std.specs.Int.{w64, trailing_zeros}
use mir.Val.{bits, hbits}
use native.Mathlib.Nat.{pow-suc, mul_comm, zero-div, div-one, div-div-eq-div-mul}
use lib.Lanes.{Each1, zip2, mask_l, top, sel_l, put_chunk}

pub lane_fits : (v : List ℕ) (i : ℕ) → Each1 (Fits w8) v → get_or v i 0 < 256
lane_fits [] i h = omega arith
lane_fits (x ∷ xs) zero h = h.0.fits
lane_fits (x ∷ xs) (suc i) h = lane_fits xs i h.1

-- ---- look-ups

-- a table that is repeated for each sixteen of n lanes, read at indexes that are computed lane by
-- lane
module _ (b n : ℕ) (whole : n ≡ b * 16) (g : ℕ → ℕ) (v js : List ℕ) (fits : (length v ≡ n) × Each1 (Fits w8) v) (e : js ≡ map g v) (small : (x : ℕ) → x < 256 → g x < 16) where
  long : length js ≡ n
  long = ap length e ∙ length-map v g ∙ fits.0

  at : (i : ℕ) → i < n → (get_or js i 0 ≡ g (get_or v i 0)) × (get_or js i 0 < 16)
  at i h =
      let is : get_or js i 0 ≡ g (get_or v i 0) = ap (λ l. get_or l i 0) e ∙ get_or-map g v i 0 0 (omega (arith, fits.0)) in
      (is, omega (arith, is, small (get_or v i 0) (lane_fits v i fits.1)))

  pub places_ok : SwzOk w8 16 n 0 js
  places_ok = SwzOk-from_below w8 16 b n 0 js whole (omega (arith, long)) (Each1-from_get_or (λ j. j < 16) js 0 (λ i h. (at i (omega (arith, long))).1))

  pub looked_up : (m : ℕ) → n ≤ m → (t s : List ℕ) → agree_below (λ i. get_or t i 0 == get_or s (i % 16) 0) (λ _. true) m ≡ true
      → swz_l w8 16 (take n t) 0 js ≡ map (λ x. get_or s (g x) 0) v
  looked_up m wide t s all =
      ext_get_or 0 _ _ (length-swz_l w8 16 (take n t) 0 js ∙ long ∙ sym (length-map v (λ x. get_or s (g x) 0) ∙ fits.0)) (λ i h.
      let lt : i < n = omega (arith, length-swz_l w8 16 (take n t) 0 js, long) in
      let is = at i lt in
      let within : 16 * ((0 + i) / 16) + get_or js i 0 < n = omega (arith, is.1, lt, whole) in
      get_or-swz_l_below w8 16 (take n t) 0 js i (omega (arith, long)) is.1
      ∙ get_or-take n t (16 * ((0 + i) / 16) + get_or js i 0) 0 within
      ∙ eqb-true _ _ (agree_below_at (λ j. get_or t j 0 == get_or s (j % 16) 0) (λ _. true) m (16 * ((0 + i) / 16) + get_or js i 0) all (omega (arith, within, wide)))
      ∙ ap (λ k. get_or s k 0) {x = (16 * ((0 + i) / 16) + get_or js i 0) % 16} {y = get_or js i 0} (omega (arith, is.1))
      ∙ ap (λ k. get_or s k 0) is.0 ∙ sym (get_or-map (λ x. get_or s (g x) 0) v i 0 0 (omega (arith, fits.0))))

-- ---- the mask of a comparison

-- the mask of a comparison of computed lanes with one number
pub mask_of : (n : ℕ) → n ≤ 64 → (t : ℕ → ℕ → Bool) (f : ℕ → ℕ) (y : ℕ) (v fs : List ℕ) → length v ≡ n → fs ≡ map f v
    → mask_l (map (top (hbits w8)) (zip2 (λ a b. cond (t a b) (2 ^ bits w8 - 1) 0) fs (replicate n y))) % 2 ^ 64 ≡ mask_l (map (λ x. t (f x) y) v)
mask_of n few t f y v fs long is =
    bitmask_splat w8 t fs n y (ap length is ∙ length-map v f ∙ long) few
    ∙ ap (λ l. mask_l (map (λ x. t x y) l)) is
    ∙ ap mask_l (map-map (λ x. t x y) f v)

-- one of two numbers in each lane
pub chosen : (p : ℕ → Bool) (x y n : ℕ) (v : List ℕ) → length v ≡ n → sel_l (map p v) (replicate n x) (replicate n y) ≡ map (λ b. cond (p b) x y) v
chosen p x y zero [] h = refl
chosen p x y zero (b ∷ v) h = absurd (omega arith)
chosen p x y (suc n) [] h = absurd (omega arith)
chosen p x y (suc n) (b ∷ v) h = ap (λ r. cond (p b) x y ∷ r) (chosen p x y n v (omega arith))

-- ---- a store

pub stored_before : (i : ℕ) (xs ys : List ℕ) → take i (put_chunk i xs ys) ≡ take i xs
stored_before zero xs ys = refl
stored_before (suc i) [] ys = refl
stored_before (suc i) (x ∷ xs) ys = ap (λ r. x ∷ r) (stored_before i xs ys)

pub stored_at : (i m : ℕ) (xs ys : List ℕ) → i + length ys ≤ length xs → m ≤ length ys → take m (drop i (put_chunk i xs ys)) ≡ take m ys
stored_at zero zero xs ys h g = refl
stored_at zero (suc m) xs [] h g = absurd (omega arith)
stored_at zero (suc m) [] (y ∷ ys) h g = absurd (omega arith)
stored_at zero (suc m) (x ∷ xs) (y ∷ ys) h g = ap (λ r. y ∷ r) (stored_at zero m xs ys (omega arith) (omega arith))
stored_at (suc i) m [] ys h g = absurd (omega arith)
stored_at (suc i) m (x ∷ xs) ys h g = stored_at i m xs ys (omega arith) g

-- ---- masks

flag : (t : Bool) → top 7 (cond t 255 0) ≡ t
flag true = refl
flag false = refl

flag_or : (s t : Bool) → top 7 (bit_or (cond s 255 0) (cond t 255 0)) ≡ s || t
flag_or true true = refl
flag_or true false = refl
flag_or false true = refl
flag_or false false = refl

-- the mask of computed lanes
lanes_mask : (f : ℕ → ℕ) (p : ℕ → Bool) (v z : List ℕ) → length v ≤ 64 → z ≡ map f v → ((x : ℕ) → top 7 (f x) ≡ p x)
    → mask_l (map (top 7) z) % 2 ^ 64 ≡ mask_l (map p v)
lanes_mask f p v z few is same =
    ap (λ l. mask_l (map (top 7) l) % 2 ^ 64) is
    ∙ ap (λ l. mask_l l % 2 ^ 64) (map-map (top 7) f v)
    ∙ mask_l-mod (map (λ x. top 7 (f x)) v) 64 (omega (arith, length-map v (λ x. top 7 (f x)), few))
    ∙ (λ i. mask_l (map (λ x. same x i) v))

pub equal_mask : (n a : ℕ) (v : List ℕ) → n ≤ 64 → length v ≡ n
    → mask_l (map (top 7) (zip2 (λ x y. cond (x == y) 255 0) v (replicate n a))) % 2 ^ 64 ≡ mask_l (map (λ b. b == a) v)
equal_mask n a v few long = lanes_mask (λ x. cond (x == a) 255 0) (λ b. b == a) v _ (omega (arith, few, long)) (zip2_splat (λ x y. cond (x == y) 255 0) v n a long) (λ x. flag (x == a))

pub either_mask : (n a c : ℕ) (v : List ℕ) → n ≤ 64 → length v ≡ n
    → mask_l (map (top 7) (zip2 bit_or (zip2 (λ x y. cond (x == y) 255 0) v (replicate n a)) (zip2 (λ x y. cond (x == y) 255 0) v (replicate n c)))) % 2 ^ 64
    ≡ mask_l (map (λ b. b == a || b == c) v)
either_mask n a c v few long =
    lanes_mask (λ x. bit_or (cond (x == a) 255 0) (cond (x == c) 255 0)) (λ b. b == a || b == c) v _ (omega (arith, few, long))
    (zip2_of_maps bit_or _ _ v (zip2_splat (λ x y. cond (x == y) 255 0) v n a long) (zip2_splat (λ x y. cond (x == y) 255 0) v n c long))
    (λ x. flag_or (x == a) (x == c))

pub from_mask : (a : ℕ) (v : List ℕ) → length v ≡ 16
    → mask_l (map (top 7) (zip2 (λ x y. cond (nat_le x y) 255 0) (replicate 16 a) v)) % 2 ^ 64 ≡ mask_l (map (λ b. nat_le a b) v)
from_mask a v long = lanes_mask (λ x. cond (nat_le a x) 255 0) (λ b. nat_le a b) v _ (omega (arith, long)) (zip2_splat_left (λ x y. cond (nat_le x y) 255 0) a 16 v long) (λ x. flag (nat_le a x))

-- two tests that agree on all bytes
pub map_same : (p q : ℕ → Bool) → agree_below p q 256 ≡ true → (v : List ℕ) → Each1 (Fits w8) v → map p v ≡ map q v
map_same p q all [] h = refl
map_same p q all (x ∷ v) h = rw (agree_below_at p q 256 x all h.0.fits, map_same p q all v h.1) refl

-- a byte is whitespace exactly where it is the one with its lower half
pub whitespace_mask : (v like : List ℕ) → (length v ≡ 16) × Each1 (Fits w8) v → like ≡ map whitespace_of_half v
    → mask_l (map (top 7) (zip2 (λ x y. cond (x == y) 255 0) v like)) % 2 ^ 64 ≡ mask_l (map is_ascii_whitespace v)
whitespace_mask v like fits is =
    lanes_mask (λ b. cond (b == whitespace_of_half b) 255 0) (λ b. b == whitespace_of_half b) v _ (omega (arith, fits.0))
    (zip2_of_maps (λ x y. cond (x == y) 255 0) (λ b. b) whitespace_of_half v (sym (map-id v)) is) (λ b. flag (b == whitespace_of_half b))
    ∙ ap mask_l (map_same (λ b. b == whitespace_of_half b) is_ascii_whitespace refl v fits.1)

-- the meaning of a mask: no lane passes, or the first that does
pub no_match : (test : ℕ → Bool) (v : List ℕ) (mask : ℕ) → mask ≡ mask_l (map test v) → mask ≡ 0 → length v ≡ first_place (begins test) v
no_match test v mask is none = sym (leading_from_mask_l test v (sym is ∙ none)) ∙ sym (first_place-begins test v)

pub lowest_match : (test : ℕ → Bool) (v : List ℕ) (mask : ℕ) → length v ≤ 64 → mask ≡ mask_l (map test v) → ((mask ≡ 0) → ⊥)
    → trailing_zeros w64 mask ≡ first_place (begins test) v
lowest_match test v mask few is some =
    ap (trailing_zeros w64) is ∙ trailing_mask_l test 64 v (omega (arith, few)) (omega (arith, is, some)) ∙ sym (first_place-begins test v)

-- the same for sixteen lanes of which none passes
pub first_lane_none : (test : ℕ → Bool) (v : List ℕ) (mask : ℕ) → length v ≡ 16 → mask ≡ mask_l (map test v) → mask ≡ 0 → 16 ≡ first_place (begins test) v
first_lane_none test v mask long is none = sym long ∙ no_match test v mask is none

-- ---- the rest of a mask

halved : (b : Bool) (n : ℕ) → (cond b 1 0 + 2 * n) / 2 ≡ n
halved true n = omega arith
halved false n = omega arith

shifted : (ms : List Bool) (k : ℕ) → mask_l ms / 2 ^ k ≡ mask_l (drop k ms)
shifted [] zero = zero-div (2 ^ 0)
shifted [] (suc k) = zero-div (2 ^ suc k)
shifted (m ∷ ms) zero = div-one (mask_l (m ∷ ms))
shifted (m ∷ ms) (suc k) =
    ap (λ n. mask_l (m ∷ ms) / n) (pow-suc 2 k ∙ mul_comm (2 ^ k) 2)
    ∙ sym (div-div-eq-div-mul (mask_l (m ∷ ms)) 2 (2 ^ k))
    ∙ ap (λ n. n / 2 ^ k) (halved m (mask_l ms))
    ∙ shifted ms k

-- a shift removes the bits of the first lanes
pub mask_shifted : (test : ℕ → Bool) (v : List ℕ) (mask k : ℕ) → mask ≡ mask_l (map test v) → mask / 2 ^ k ≡ mask_l (map test (drop k v))
mask_shifted test v mask k is = ap (λ m. m / 2 ^ k) is ∙ shifted (map test v) k ∙ ap mask_l (drop-map test k v)

unmatched : (b : Bool) (n m l : ℕ) → cond b 0 (suc m) ≡ suc l → (m ≡ l → n ≡ 0) → cond b 1 0 + 2 * n ≡ 0
unmatched true n m l e f = absurd (omega arith)
unmatched false n m l e f = let z = f (omega arith) in omega arith

-- a mask is 0 if no lane passes
pub free_mask : (test : ℕ → Bool) (v : List ℕ) → first_place (begins test) v ≡ length v → mask_l (map test v) ≡ 0
free_mask test [] e = refl
free_mask test (x ∷ v) e = unmatched (test x) (mask_l (map test v)) (first_place (begins test) v) (length v) e (free_mask test v)

-- a set bit is that of a lane
pub match_within : (test : ℕ → Bool) (v : List ℕ) (mask : ℕ) → mask ≡ mask_l (map test v) → ((mask ≡ 0) → ⊥) → first_place (begins test) v < length v
match_within test v mask is some = elim (cases_lt (first_place (begins test) v) (length v)) [
  | inl lt ↦ lt
  | inr ge ↦ absurd (some (is ∙ free_mask test v (omega (arith, ge, first_place-≤ (begins test) v))))
]
