-- Two bytes, one right after the other, in vectors.
use Rattle.std.proofs.Common.{◌≡◌, ℕ, zero, suc, ◌+◌, ◌<◌, ◌≤◌, ◌≢◌, ◌^◌, ◌%◌, Bool, true, false, cond, ◌==◌, ◌&&◌, bit_and, List, [], ◌∷◌, map, length, take, drop, replicate, inl, inr, refl, sym, ap, ◌∙◌, arith}
use Rattle.std.proofs.lemmas.Bool.{cases_eq, cases_lt, ne_eqb}
use Rattle.std.proofs.lemmas.List.{drop-drop, length-drop, length-map, length-take-le}
use Rattle.std.proofs.lemmas.Simd.{length-zip2, mask_l-mod, zip2_splat}
use Rattle.mail_codec.specs.Places.{first_place, begins, has_prefix}
use Rattle.mail_codec.specs.private.Vectors.{is_set, lane_mask, pair_flags}
use Rattle.std.specs.Int.{w64, trailing_zeros}
use Rattle.mail_codec.proofs.lemmas.Places.{PassedTo, first_place-≤, first_place-drop}
use Rattle.mail_codec.proofs.lemmas.Vectors.{no_match, lowest_match, free_mask}
use lib.Lanes.{zip2, mask_l, top}

-- ---- the mask of the flags

both : (s t : Bool) → top 7 (bit_and (cond s 255 0) (cond t 255 0)) ≡ is_set (cond (s && t) 1 0)
both true true = refl
both true false = refl
both false true = refl
both false false = refl

flags_mask : (a c : ℕ) (v w : List ℕ)
    → map (top 7) (zip2 bit_and (map (λ x. cond (x == a) 255 0) v) (map (λ y. cond (y == c) 255 0) w)) ≡ map is_set (pair_flags a c v w)
flags_mask a c [] w = refl
flags_mask a c (x ∷ v) [] = refl
flags_mask a c (x ∷ v) (y ∷ w) = (λ i. both (x == a) (y == c) i ∷ flags_mask a c v w i)

pub pair_mask : (a c : ℕ) (v w : List ℕ) → length v ≡ 64 → length w ≡ 64
    → mask_l (map (top 7) (zip2 bit_and (zip2 (λ x y. cond (x == y) 255 0) v (replicate 64 a)) (zip2 (λ x y. cond (x == y) 255 0) w (replicate 64 c)))) % 2 ^ 64
    ≡ lane_mask is_set (pair_flags a c v w)
pair_mask a c v w long wide =
    (λ i. mask_l (map (top 7) (zip2 bit_and (zip2_splat (λ x y. cond (x == y) 255 0) v 64 a long i) (zip2_splat (λ x y. cond (x == y) 255 0) w 64 c wide i))) % 2 ^ 64)
    ∙ ap (λ l. mask_l l % 2 ^ 64) (flags_mask a c v w)
    ∙ mask_l-mod (map is_set (pair_flags a c v w)) 64 (omega (arith, length-map (pair_flags a c v w) is_set, length-zip2 {C = ℕ} (λ b d. cond (b == a && d == c) 1 0) v w (long ∙ sym wide), long))

-- ---- the flags of n bytes and of those one byte later

swapped : (a b : ℕ) → (a == b) ≡ (b == a)
swapped a b = elim (cases_eq a b) [
  | inl e ↦ ap (λ x. x == b) e ∙ ap (λ x. b == x) (sym e)
  | inr n ↦ ne_eqb a b n ∙ sym (ne_eqb b a (λ e. n (sym e)))
]

last_and : (s t : Bool) → s && (t && true) ≡ s && t
last_and true true = refl
last_and true false = refl
last_and false t = refl

-- the pair is at the front of two bytes
has_prefix_pair : (a c x y : ℕ) (rest : List ℕ) → has_prefix (a ∷ c ∷ []) (x ∷ y ∷ rest) ≡ (x == a && y == c)
has_prefix_pair a c x y rest = last_and (a == x) (c == y) ∙ (λ i. swapped a x i && swapped c y i)

-- the flags at the front of bytes
abbrev pub flags : ℕ → ℕ → ℕ → List ℕ → List ℕ
flags a c n bytes = pair_flags a c (take n bytes) (take n (drop 1 bytes))

set_cond : (t : Bool) → is_set (cond t 1 0) ≡ t
set_cond true = refl
set_cond false = refl

-- if none of them is set, the search goes on after them
free_flags : (a c n : ℕ) (bytes : List ℕ) → n + 1 ≤ length bytes → first_place (begins is_set) (flags a c n bytes) ≡ n
    → first_place (has_prefix (a ∷ c ∷ [])) bytes ≡ n + first_place (has_prefix (a ∷ c ∷ [])) (drop n bytes)
free_flags a c zero bytes h e = omega arith
free_flags a c (suc n) [] h e = absurd (omega arith)
free_flags a c (suc n) (x ∷ []) h e = absurd (omega arith)
free_flags a c (suc n) (x ∷ y ∷ rest) h e = go (x == a && y == c) (has_prefix_pair a c x y rest) (sym (ap (λ t. cond t 0 (suc (first_place (begins is_set) (flags a c n (y ∷ rest))))) (set_cond (x == a && y == c))) ∙ e) (free_flags a c n (y ∷ rest) (omega arith))
  where
    go : (v : Bool) → has_prefix (a ∷ c ∷ []) (x ∷ y ∷ rest) ≡ v → cond v 0 (suc (first_place (begins is_set) (flags a c n (y ∷ rest)))) ≡ suc n
        → (first_place (begins is_set) (flags a c n (y ∷ rest)) ≡ n → first_place (has_prefix (a ∷ c ∷ [])) (y ∷ rest) ≡ n + first_place (has_prefix (a ∷ c ∷ [])) (drop n (y ∷ rest)))
        → first_place (has_prefix (a ∷ c ∷ [])) (x ∷ y ∷ rest) ≡ suc n + first_place (has_prefix (a ∷ c ∷ [])) (drop n (y ∷ rest))
    go true t e more = absurd (omega arith)
    go false t e more = rw t (let r = more (omega arith) in omega arith)

-- if one is set, the first is the place
found_flags : (a c n : ℕ) (bytes : List ℕ) → n + 1 ≤ length bytes → first_place (begins is_set) (flags a c n bytes) < n
    → first_place (has_prefix (a ∷ c ∷ [])) bytes ≡ first_place (begins is_set) (flags a c n bytes)
found_flags a c zero bytes h e = absurd (omega arith)
found_flags a c (suc n) [] h e = absurd (omega arith)
found_flags a c (suc n) (x ∷ []) h e = absurd (omega arith)
found_flags a c (suc n) (x ∷ y ∷ rest) h e =
    let same : first_place (begins is_set) (flags a c (suc n) (x ∷ y ∷ rest)) ≡ cond (x == a && y == c) 0 (suc (first_place (begins is_set) (flags a c n (y ∷ rest))))
    = ap (λ t. cond t 0 (suc (first_place (begins is_set) (flags a c n (y ∷ rest))))) (set_cond (x == a && y == c)) in
    go (x == a && y == c) (has_prefix_pair a c x y rest) (omega arith) (found_flags a c n (y ∷ rest) (omega arith)) ∙ sym same
  where
    go : (v : Bool) → has_prefix (a ∷ c ∷ []) (x ∷ y ∷ rest) ≡ v → cond v 0 (suc (first_place (begins is_set) (flags a c n (y ∷ rest)))) < suc n
        → (first_place (begins is_set) (flags a c n (y ∷ rest)) < n → first_place (has_prefix (a ∷ c ∷ [])) (y ∷ rest) ≡ first_place (begins is_set) (flags a c n (y ∷ rest)))
        → first_place (has_prefix (a ∷ c ∷ [])) (x ∷ y ∷ rest) ≡ cond v 0 (suc (first_place (begins is_set) (flags a c n (y ∷ rest))))
    go true t e more = rw t refl
    go false t e more = rw t (ap suc (more (omega arith)))

-- ---- steps of the search, whose vectors are 64 bytes from a place onwards and from the next

abbrev pub front : List ℕ → ℕ → List ℕ
front bytes at = take 64 (drop at bytes)

abbrev pub flags_at : ℕ → ℕ → List ℕ → ℕ → List ℕ
flags_at a c bytes at = pair_flags a c (front bytes at) (front bytes (at + 1))

flags_there : (a c : ℕ) (bytes : List ℕ) (at : ℕ) → flags_at a c bytes at ≡ flags a c 64 (drop at bytes)
flags_there a c bytes at = ap (λ r. pair_flags a c (take 64 (drop at bytes)) (take 64 r)) (sym (drop-drop 1 at bytes))

front_long : (bytes : List ℕ) (at : ℕ) → at + 64 ≤ length bytes → length (front bytes at) ≡ 64
front_long bytes at h = length-take-le 64 (drop at bytes) (omega (arith, length-drop at bytes))

flags_at_long : (a c : ℕ) (bytes : List ℕ) (at : ℕ) → at + 65 ≤ length bytes → length (flags_at a c bytes at) ≡ 64
flags_at_long a c bytes at h =
    length-zip2 {C = ℕ} (λ b d. cond (b == a && d == c) 1 0) (front bytes at) (front bytes (at + 1)) (front_long bytes at (omega arith) ∙ sym (front_long bytes (at + 1) (omega arith))) ∙ front_long bytes at (omega arith)

-- one byte has no pair
alone : (a c : ℕ) (rest : List ℕ) → length rest ≡ 1 → first_place (has_prefix (a ∷ c ∷ [])) rest ≡ 1
alone a c [] h = absurd (omega arith)
alone a c (x ∷ []) h = by_first (a == x)
  where
    by_first : (v : Bool) → ◌≡◌ {A = ℕ} (cond (v && false) 0 1) 1
    by_first true = refl
    by_first false = refl
alone a c (x ∷ y ∷ rest) h = absurd (omega arith)

-- the last 65 bytes, some of which were searched before
pub last_pairs : (a c : ℕ) (bytes : List ℕ) (at last : ℕ) → PassedTo (has_prefix (a ∷ c ∷ [])) bytes (first_place (has_prefix (a ∷ c ∷ [])) bytes) at
    → last + 65 ≡ length bytes → last ≤ at → PassedTo (has_prefix (a ∷ c ∷ [])) bytes (first_place (has_prefix (a ∷ c ∷ [])) bytes) last
last_pairs a c bytes at last h ends back =
    let later = h.later in
    let seen = first_place-drop (has_prefix (a ∷ c ∷ [])) bytes last (omega arith) in
    record { within = omega arith; later = omega arith }

-- the mask of the pairs at a place
module _ (a c : ℕ) (bytes : List ℕ) (at mask : ℕ) (fits : at + 65 ≤ length bytes) (matches : mask ≡ lane_mask is_set (flags_at a c bytes at)) where
  long : length (flags_at a c bytes at) ≡ 64
  long = flags_at_long a c bytes at fits

  same : first_place (begins is_set) (flags_at a c bytes at) ≡ first_place (begins is_set) (flags a c 64 (drop at bytes))
  same = ap (first_place (begins is_set)) (flags_there a c bytes at)

  -- the lowest bit is that of the first place
  first : mask ≢ 0 → (trailing_zeros w64 mask ≡ first_place (begins is_set) (flags_at a c bytes at)) × (trailing_zeros w64 mask < 64)
  first some =
      let is = lowest_match is_set (flags_at a c bytes at) mask (omega (arith, long)) matches some in (
        is,
        elim (cases_lt (first_place (begins is_set) (flags_at a c bytes at)) 64) [
          | inl low ↦ omega (arith, is, low)
          | inr high ↦ absurd (some (matches ∙ free_mask is_set (flags_at a c bytes at) (omega (arith, high, long, first_place-≤ (begins is_set) (flags_at a c bytes at)))))
        ],
      )

  pub pair_within : mask ≢ 0 → trailing_zeros w64 mask < 64
  pair_within some = (first some).1

  pub pair_found : (answer : ℕ) → PassedTo (has_prefix (a ∷ c ∷ [])) bytes answer at → mask ≢ 0 → at + trailing_zeros w64 mask ≡ answer
  pair_found answer h some =
      let is = first some in
      let here = found_flags a c 64 (drop at bytes) (omega (arith, fits, length-drop at bytes)) (omega (arith, same, is.0, is.1)) in
      let later = h.later in
      omega (arith, same, is.0, here, later)

  -- if there is none, the search goes on after 64
  pub pair_passed : (answer : ℕ) → PassedTo (has_prefix (a ∷ c ∷ [])) bytes answer at → mask ≡ 0 → PassedTo (has_prefix (a ∷ c ∷ [])) bytes answer (at + 64)
  pair_passed answer h none =
      let free = no_match is_set (flags_at a c bytes at) mask matches none in
      let on = free_flags a c 64 (drop at bytes) (omega (arith, fits, length-drop at bytes)) (sym same ∙ sym free ∙ long) in
      let later = h.later in
      let there = ap (first_place (has_prefix (a ∷ c ∷ []))) (drop-drop 64 at bytes) in
      record { within = omega (arith, fits); later = omega (arith, there, later, on) }

  -- no pair is left after the last 65 bytes
  pub pair_absent : PassedTo (has_prefix (a ∷ c ∷ [])) bytes (first_place (has_prefix (a ∷ c ∷ [])) bytes) at → at + 65 ≡ length bytes → mask ≡ 0
      → length bytes ≡ first_place (has_prefix (a ∷ c ∷ [])) bytes
  pair_absent h ends none =
      let on = pair_passed _ h none in
      let later = on.later in
      let one = alone a c (drop (at + 64) bytes) (omega (arith, ends, length-drop (at + 64) bytes)) in
      omega (arith, ends, later, one)
