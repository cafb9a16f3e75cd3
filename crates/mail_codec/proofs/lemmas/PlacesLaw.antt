-- The least place at or after a start, and the results of the searches, in words of places.
use Rattle.std.proofs.Common.{◌≡◌, ◌≢◌, ◌⊎◌, ℕ, ◌+◌, ◌-◌, ◌<◌, ◌≤◌, ◌==◌, ◌||◌, get_or, Bool, true, false, List, [], ◌∷◌, length, take, drop, Option, Some, None, refl, sym, ap, ◌∙◌, subst, arith, inl, inr, ◌↔◌}
use Rattle.std.proofs.lemmas.Bool.{cases_lt, lt-ltb, le-ltb, eq-eqb, eqb-true, ne_eqb, or_cases, or_left, or_right}
use Rattle.std.proofs.lemmas.Bool.Decides.{Decides-eqb}
use Rattle.std.proofs.lemmas.Slice.Eq.{slice_eq-Decides}
use Rattle.std.proofs.Math.Seq.{take-nil}
use Rattle.std.proofs.lemmas.List.{drop-drop, length-drop, drop_all}
use Rattle.mail_codec.specs.Places.{first_place, place_from, begins, has_prefix, place, byte_place, either_place, text_place, HasByteAt, HasEitherAt, HasTextAt, IsFirstOf, IsFirstPlaceFrom}
use Rattle.mail_codec.proofs.lemmas.Places.{true_not_false, first_place-passes, first_place-before, begins-at, place_from_bounds}

-- ---- the least place at or after a start

pub place_from-is_first : (test : List ℕ → Bool) (bytes : List ℕ) (s : ℕ) → s ≤ length bytes → IsFirstPlaceFrom test bytes s (place_from test bytes s)
place_from-is_first test bytes s h =
    let bounds = place_from_bounds test bytes s h in
    let len = length-drop s bytes in
    record {
      after = bounds.0;
      within = bounds.1;
      passes = λ low. rw drop-drop at (first_place-passes test (drop s bytes) (omega arith));
      before = λ k from low.
          let e : (k - s) + s ≡ k = omega arith in
          subst (λ rest. test rest ≡ false) (drop-drop (k - s) s bytes ∙ ap (λ n. drop n bytes) (omega arith))
          (first_place-before test (drop s bytes) (k - s) (omega arith));
    }

IsFirstPlaceFrom-≤ : (test : List ℕ → Bool) (bytes : List ℕ) (s p q : ℕ) → IsFirstPlaceFrom test bytes s p → IsFirstPlaceFrom test bytes s q → p ≤ q
IsFirstPlaceFrom-≤ test bytes s p q h k = elim (cases_lt q p) [
  | inl below ↦ absurd (true_not_false (k.passes (let w = h.within in omega arith)) (h.before q k.after below))
  | inr above ↦ above
]

pub IsFirstPlaceFrom-only : (test : List ℕ → Bool) (bytes : List ℕ) (s p : ℕ) → IsFirstPlaceFrom test bytes s p → p ≡ place_from test bytes s
IsFirstPlaceFrom-only test bytes s p h =
    let least = place_from-is_first test bytes s (let a = h.after in let w = h.within in omega arith) in
    let low = IsFirstPlaceFrom-≤ test bytes s p (place_from test bytes s) h least in
    let high = IsFirstPlaceFrom-≤ test bytes s (place_from test bytes s) p least h in
    omega arith

-- ---- the first place of all that have something

-- the rest of the bytes at a place passes a test
abbrev Passes : (List ℕ → Bool) → List ℕ → ℕ → Type 0
Passes test bytes p = (p < length bytes) × (test (drop p bytes) ≡ true)

place-is_first : (test : List ℕ → Bool) (bytes : List ℕ) → IsFirstOf (Passes test bytes) (place test bytes)
place-is_first test bytes = elim (cases_lt (first_place test bytes) (length bytes)) [
  | inl low ↦
      let is : IsFirstOf (Passes test bytes) (Some (first_place test bytes)) =
      ((low, first_place-passes test bytes low), λ k lt has. true_not_false has.1 (first_place-before test bytes k lt)) in
      rw (lt-ltb (first_place test bytes) (length bytes) low) is
  | inr high ↦
      let is : IsFirstOf (Passes test bytes) None =
      λ k has. true_not_false has.1 (first_place-before test bytes k (let w = has.0 in omega arith)) in
      rw (le-ltb (first_place test bytes) (length bytes) high) is
]

first_once : (Has : ℕ → Type 0) (a b : Option ℕ) → IsFirstOf Has a → IsFirstOf Has b → a ≡ b
first_once Has None None h k = refl
first_once Has None (Some q) h k = absurd (h q k.0)
first_once Has (Some p) None h k = absurd (k p h.0)
first_once Has (Some p) (Some q) h k = elim (cases_lt p q) [
  | inl low ↦ absurd (k.1 p low h.0)
  | inr high ↦ elim (cases_lt q p) [
    | inl low ↦ absurd (h.1 q low k.0)
    | inr other ↦ let same : p ≡ q = omega arith in ap Some same
  ]
]

-- two properties of a place that are alike
first_alike : (Has Had : ℕ → Type 0) → ((p : ℕ) → Has p → Had p) → ((p : ℕ) → Had p → Has p) → (found : Option ℕ) → IsFirstOf Has found → IsFirstOf Had found
first_alike Has Had to from None h = λ k had. h k (from k had)
first_alike Has Had to from (Some p) h = (to p h.0, λ k low had. h.1 k low (from k had))

place_says : (Has : ℕ → Type 0) (test : List ℕ → Bool) (bytes : List ℕ) → ((p : ℕ) → Has p → Passes test bytes p) → ((p : ℕ) → Passes test bytes p → Has p)
    → (found : Option ℕ) → (found ≡ place test bytes) ↔ IsFirstOf Has found
place_says Has test bytes to from found =
    let is = first_alike (Passes test bytes) Has from to (place test bytes) (place-is_first test bytes) in (
      λ e. subst (IsFirstOf Has) (sym e) is,
      λ h. first_once Has found (place test bytes) h is,
    )

-- ---- a byte

pub byte_place-says : (bytes : List ℕ) (byte : ℕ) (found : Option ℕ) → (found ≡ byte_place bytes byte) ↔ IsFirstOf (HasByteAt bytes byte) found
byte_place-says bytes byte = place_says (HasByteAt bytes byte) (begins (λ b. b == byte)) bytes
    (λ p has. (has.0, begins-at (λ b. b == byte) bytes p has.0 ∙ eq-eqb _ byte has.1))
    (λ p has. (has.0, eqb-true _ byte (sym (begins-at (λ b. b == byte) bytes p has.0) ∙ has.1)))

-- ---- either of two bytes

pub either_place-says : (bytes : List ℕ) (first second : ℕ) (found : Option ℕ) → (found ≡ either_place bytes first second) ↔ IsFirstOf (HasEitherAt bytes first second) found
either_place-says bytes first second =
    let test : ℕ → Bool = λ b. b == first || b == second in
    place_says (HasEitherAt bytes first second) (begins test) bytes
    (λ p has. (has.0, begins-at test bytes p has.0 ∙ is_either (get_or bytes p 0) has.1))
    (λ p has. (has.0, either_is (get_or bytes p 0) (sym (begins-at test bytes p has.0) ∙ has.1)))
  where
    is_either : (b : ℕ) → (b ≡ first) ⊎ (b ≡ second) → (b == first || b == second) ≡ true
    is_either b (inl e) = or_left (b == first) (b == second) (eq-eqb b first e)
    is_either b (inr e) = or_right (b == first) (b == second) (eq-eqb b second e)

    either_is : (b : ℕ) → (b == first || b == second) ≡ true → (b ≡ first) ⊎ (b ≡ second)
    either_is b h = elim (or_cases (b == first) (b == second) h) [ inl e ↦ inl (eqb-true b first e) | inr e ↦ inr (eqb-true b second e) ]

-- ---- a text

has_prefix_says : (text bytes : List ℕ) → (has_prefix text bytes ≡ true → take (length text) bytes ≡ text) × (take (length text) bytes ≡ text → has_prefix text bytes ≡ true)
has_prefix_says text bytes =
    let decides = slice_eq-Decides Decides-eqb text (take (length text) bytes) (has_prefix text bytes) refl in
    (λ h. sym (decides.0 h), λ e. decides.1 (sym e))

-- a text occurs only at a place within the bytes
text_within : (bytes text : List ℕ) (p : ℕ) → text ≢ [] → take (length text) (drop p bytes) ≡ text → p < length bytes
text_within bytes text p some has = elim (cases_lt p (length bytes)) [
  | inl low ↦ low
  | inr high ↦
      let none : take (length text) (drop p bytes) ≡ [] = ap (take (length text)) (drop_all p bytes high) ∙ take-nil (length text) in
      absurd (some (sym has ∙ none))
]

pub text_place-says : (bytes text : List ℕ) (found : Option ℕ) → (found ≡ text_place bytes text) ↔ IsFirstOf (HasTextAt bytes text) found
text_place-says bytes [] found =
    let is : IsFirstOf (HasTextAt bytes []) None = λ k has. has.0 refl in (
      λ e. subst (IsFirstOf (HasTextAt bytes [])) (sym e) is,
      λ h. first_once (HasTextAt bytes []) found None h is,
    )
text_place-says bytes (b ∷ rest) found =
    let text : List ℕ = b ∷ rest in
    let some : text ≢ [] = λ e. cc e in
    let not_empty : (length text == 0) ≡ false = ne_eqb (length text) 0 (λ e. absurd (omega arith)) in
    rw not_empty (place_says (HasTextAt bytes text) (has_prefix text) bytes
    (λ p has. (text_within bytes text p some has.1, (has_prefix_says text (drop p bytes)).1 has.1))
    (λ p has. (some, (has_prefix_says text (drop p bytes)).0 has.1)) found)
