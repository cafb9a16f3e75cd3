-- The control characters of a vector.
use Rattle.std.proofs.Common.{◌≡◌, ℕ, ◌^◌, ◌%◌, ◌≤◌, Bool, true, false, cond, ◌==◌, ◌||◌, bit_or, List, map, length, replicate, Fits, w8, refl, ap, ◌∙◌, arith}
use Rattle.std.specs.Prelude.{nat_le, nat_lt, ◌&&◌, bit_and}
use Rattle.std.proofs.lemmas.List.{length-map}
use Rattle.std.proofs.lemmas.Simd.{map-map, mask_l-mod, zip2_of_maps, zip2_splat, zip2_splat_left}
use Rattle.mail_codec.proofs.lemmas.Vectors.{map_same}
use Rattle.mail_check.specs.Bytes.{is_control}
use lib.Lanes.{Each1, zip2, mask_l, top}

-- 255 for each lane that passes a test, else 0
abbrev pub lanes : (ℕ → Bool) → List ℕ → List ℕ
lanes test v = map (λ x. cond (test x) 255 0) v

or_of : (s t : Bool) → bit_or (cond s 255 0) (cond t 255 0) ≡ cond (s || t) 255 0
or_of true true = refl
or_of true false = refl
or_of false true = refl
or_of false false = refl

and_of : (s t : Bool) → bit_and (cond s 255 0) (cond t 255 0) ≡ cond (s && t) 255 0
and_of true true = refl
and_of true false = refl
and_of false true = refl
and_of false false = refl

or_lanes : (p q : ℕ → Bool) (v xs ys : List ℕ) → xs ≡ lanes p v → ys ≡ lanes q v → zip2 bit_or xs ys ≡ lanes (λ x. p x || q x) v
or_lanes p q v xs ys e f = zip2_of_maps bit_or (λ x. cond (p x) 255 0) (λ x. cond (q x) 255 0) v e f ∙ (λ i. map (λ x. or_of (p x) (q x) i) v)

and_lanes : (p q : ℕ → Bool) (v xs ys : List ℕ) → xs ≡ lanes p v → ys ≡ lanes q v → zip2 bit_and xs ys ≡ lanes (λ x. p x && q x) v
and_lanes p q v xs ys e f = zip2_of_maps bit_and (λ x. cond (p x) 255 0) (λ x. cond (q x) 255 0) v e f ∙ (λ i. map (λ x. and_of (p x) (q x) i) v)

flag : (t : Bool) → top 7 (cond t 255 0) ≡ t
flag true = refl
flag false = refl

masked : (p : ℕ → Bool) (v z : List ℕ) → length v ≤ 64 → z ≡ lanes p v → mask_l (map (top 7) z) % 2 ^ 64 ≡ mask_l (map p v)
masked p v z few is =
    ap (λ l. mask_l (map (top 7) l) % 2 ^ 64) is
    ∙ ap (λ l. mask_l l % 2 ^ 64) (map-map (top 7) (λ x. cond (p x) 255 0) v ∙ (λ i. map (λ x. flag (p x) i) v))
    ∙ mask_l-mod (map p v) 64 (omega (arith, length-map v p, few))

-- the tests of `is_control` by comparisons
pub control_mask : (v : List ℕ) → (length v ≡ 16) × Each1 (Fits w8) v
    → mask_l (map (top 7) (zip2 bit_or
    (zip2 bit_or
    (zip2 bit_or (zip2 (λ x y. cond (nat_lt x y) 255 0) v (replicate 16 9)) (zip2 (λ x y. cond (x == y) 255 0) v (replicate 16 127)))
    (zip2 bit_or (zip2 (λ x y. cond (x == y) 255 0) v (replicate 16 11)) (zip2 (λ x y. cond (x == y) 255 0) v (replicate 16 12))))
    (zip2 bit_and (zip2 (λ x y. cond (nat_le x y) 255 0) (replicate 16 14) v) (zip2 (λ x y. cond (nat_lt x y) 255 0) v (replicate 16 32))))) % 2 ^ 64
    ≡ mask_l (map is_control v)
control_mask v fits =
    masked (λ x. ((nat_lt x 9 || x == 127) || (x == 11 || x == 12)) || (nat_le 14 x && nat_lt x 32)) v _ (omega (arith, fits.0))
    (or_lanes (λ x. (nat_lt x 9 || x == 127) || (x == 11 || x == 12)) (λ x. nat_le 14 x && nat_lt x 32) v _ _
    (or_lanes (λ x. nat_lt x 9 || x == 127) (λ x. x == 11 || x == 12) v _ _
    (or_lanes (λ x. nat_lt x 9) (λ x. x == 127) v _ _ (zip2_splat (λ x y. cond (nat_lt x y) 255 0) v 16 9 fits.0) (zip2_splat (λ x y. cond (x == y) 255 0) v 16 127 fits.0))
    (or_lanes (λ x. x == 11) (λ x. x == 12) v _ _ (zip2_splat (λ x y. cond (x == y) 255 0) v 16 11 fits.0) (zip2_splat (λ x y. cond (x == y) 255 0) v 16 12 fits.0)))
    (and_lanes (λ x. nat_le 14 x) (λ x. nat_lt x 32) v _ _ (zip2_splat_left (λ x y. cond (nat_le x y) 255 0) 14 16 v fits.0) (zip2_splat (λ x y. cond (nat_lt x y) 255 0) v 16 32 fits.0)))
    ∙ ap mask_l (map_same (λ x. ((nat_lt x 9 || x == 127) || (x == 11 || x == 12)) || (nat_le 14 x && nat_lt x 32)) is_control refl v fits.1)
