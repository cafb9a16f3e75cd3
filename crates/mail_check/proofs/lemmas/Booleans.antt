-- Lemmas on truth values, and on bytes that all pass a test.
use Rattle.std.proofs.Common.{◌≡◌, ℕ, Bool, true, false, not, List, ◌∷◌, refl, inl, inr}
use Rattle.std.specs.Prelude.{◌⊎◌, ◌&&◌, ◌||◌}
use Rattle.std.specs.List.{list_all}

pub cases_Bool : (t : Bool) → (t ≡ true) ⊎ (t ≡ false)
cases_Bool true = inl refl
cases_Bool false = inr refl

pub both_true : (s t : Bool) → (s && t) ≡ true → (s ≡ true) × (t ≡ true)
both_true true t h = (refl, h)
both_true false t h = absurd (cc)

pub are_true : (s t : Bool) → s ≡ true → t ≡ true → (s && t) ≡ true
are_true true t h e = e
are_true false t h e = absurd (cc)

pub left_false : (s t : Bool) → s ≡ false → (s && t) ≡ false
left_false false t h = refl
left_false true t h = absurd (cc)

pub right_false : (s t : Bool) → t ≡ false → (s && t) ≡ false
right_false false t h = refl
right_false true t h = h

pub neither : (s t : Bool) → (s || t) ≡ false → (s ≡ false) × (t ≡ false)
neither false t h = (refl, h)
neither true t h = absurd (cc)

pub nor : (s t : Bool) → s ≡ false → t ≡ false → (s || t) ≡ false
nor false t h e = e
nor true t h e = absurd (cc)

pub second_false : (s t : Bool) → s ≡ true → (s && t) ≡ false → t ≡ false
second_false true t e h = h
second_false false t e h = absurd (cc)

pub not_false : (t : Bool) → not t ≡ false → t ≡ true
not_false true h = refl
not_false false h = absurd (cc)

pub not_true : (t : Bool) → not t ≡ true → t ≡ false
not_true false h = refl
not_true true h = absurd (cc)

pub is_not : (t : Bool) → t ≡ false → not t ≡ true
is_not false h = refl
is_not true h = absurd (cc)

pub is_so : (t : Bool) → t ≡ true → not t ≡ false
is_so true h = refl
is_so false h = absurd (cc)

pub either_true : (s t : Bool) → (s || t) ≡ true → (s ≡ true) ⊎ (t ≡ true)
either_true true t h = inl refl
either_true false t h = inr h

pub all_head : (test : ℕ → Bool) (b : ℕ) (rest : List ℕ) → list_all test (b ∷ rest) ≡ true → test b ≡ true
all_head test b rest h = (both_true (test b) (list_all test rest) h).0

pub all_tail : (test : ℕ → Bool) (b : ℕ) (rest : List ℕ) → list_all test (b ∷ rest) ≡ true → list_all test rest ≡ true
all_tail test b rest h = (both_true (test b) (list_all test rest) h).1
