-- Lemmas on the first byte that passes a test, and on the first place where one of bytes does.
use Rattle.std.proofs.Common.{◌≡◌, ◌∙◌, ◌≤◌, ℕ, suc, Bool, true, false, not, cond, List, [], ◌∷◌, length, Some, None, refl, sym, ap, inl, inr, arith}
use Rattle.std.specs.Prelude.{◌||◌, nat_lt, is_some}
use Rattle.std.specs.List.{list_all}
use Rattle.std.proofs.lemmas.Bool.{cases_lt, le-ltb, lt-ltb}
use Rattle.mail_codec.specs.Places.{begins, first_place, place}
use Rattle.mail_codec.proofs.lemmas.Places.{first_place-here, first_place-past}
use Rattle.mail_check.specs.Bytes.{first_byte}
use Rattle.mail_check.proofs.lemmas.Booleans.{are_true, both_true, cases_Bool, is_not, neither, not_true}

pub none_first : (test : ℕ → Bool) (xs : List ℕ) → first_byte test xs ≡ None → list_all (λ b. not (test b)) xs ≡ true
none_first test xs h = elim (cases_lt (first_place (begins test) xs) (length xs)) [
  | inl l ↦ let e = lt-ltb (first_place (begins test) xs) (length xs) l in let s = rw e at h in absurd (cc)
  | inr g ↦ all_fail xs g
]
  where
    all_fail : (xs : List ℕ) → length xs ≤ first_place (begins test) xs → list_all (λ b. not (test b)) xs ≡ true
    all_fail [] g = refl
    all_fail (b ∷ xs) g = elim (cases_Bool (test b)) [
      | inl e ↦ let here = first_place-here (begins test) (b ∷ xs) e in absurd (omega (arith, g, here))
      | inr e ↦ let next = first_place-past (begins test) b xs e in are_true (not (test b)) _ (is_not (test b) e) (all_fail xs (omega (arith, g, next)))
    ]

pub first_none : (test : ℕ → Bool) (xs : List ℕ) → list_all (λ b. not (test b)) xs ≡ true → first_byte test xs ≡ None
first_none test xs h = let same = place_is xs h in rw (same, le-ltb (length xs) (length xs) (omega arith)) refl
  where
    place_is : (xs : List ℕ) → list_all (λ b. not (test b)) xs ≡ true → first_place (begins test) xs ≡ length xs
    place_is [] h = refl
    place_is (b ∷ xs) h =
        let both = both_true (not (test b)) (list_all (λ b. not (test b)) xs) h in
        first_place-past (begins test) b xs (not_true (test b) both.0) ∙ ap suc (place_is xs both.1)

pub below : (m n : ℕ) → nat_lt (suc m) (suc n) ≡ nat_lt m n
below m n = elim (cases_lt m n) [
  | inl l ↦ lt-ltb (suc m) (suc n) (omega (arith, l)) ∙ sym (lt-ltb m n l)
  | inr g ↦ le-ltb (suc m) (suc n) (omega (arith, g)) ∙ sym (le-ltb m n g)
]

-- a text occurs at the front or later
pub place_next : (test : List ℕ → Bool) (b : ℕ) (rest : List ℕ)
    → is_some (place test (b ∷ rest)) ≡ (test (b ∷ rest) || is_some (place test rest))
place_next test b rest = elim (cases_Bool (test (b ∷ rest))) [
  | inl e ↦
      let low = lt-ltb 0 (suc (length rest)) (omega arith) in
      rw e (ap (λ (t : Bool). is_some {T = ℕ} (cond t (Some 0) None)) low)
  | inr e ↦
      let p = first_place test rest in
      rw e (ap (λ (t : Bool). is_some {T = ℕ} (cond t (Some (suc p)) None)) (below p (length rest))
      ∙ later (nat_lt p (length rest)) p)
]
  where
    later : (t : Bool) (n : ℕ) → is_some (cond t (Some (suc n)) None) ≡ is_some (cond t (Some n) None)
    later true n = refl
    later false n = refl

-- the same of the first offset
pub no_offset : (test : ℕ → Bool) (bytes : List ℕ) → is_some (first_byte test bytes) ≡ false
    → list_all (λ b. not (test b)) bytes ≡ true
no_offset test [] h = refl
no_offset test (b ∷ rest) h =
    let both = neither (test b) (is_some (first_byte test rest)) (sym (place_next (begins test) b rest) ∙ h) in
    are_true (not (test b)) _ (is_not (test b) both.0) (no_offset test rest both.1)
