-- Lemmas on the front of words.
use Rattle.std.proofs.Common.{◌≡◌, ◌∙◌, ℕ, Bool, true, false, List, [], ◌∷◌, length, refl, sym, ap, inl, inr}
use Rattle.std.specs.Prelude.{◌==◌, nat_lt, codes}
use Rattle.std.proofs.lemmas.Bool.{and_right, cases_Bool, eq-eqb, eqb-false, eqb-true, ne_eqb}
use Rattle.mail_codec.specs.Places.{has_prefix}
use Rattle.mail_check.specs.Words.{after_word_bytes, is_closed, is_word}
use Rattle.mail_check.specs.declared.words.WordState.TheVariants.{Front, Wrong}

-- nothing follows something else
wrong_stays : (bytes : List ℕ) → after_word_bytes Wrong bytes ≡ Wrong
wrong_stays [] = refl
wrong_stays (b ∷ bytes) = wrong_stays bytes

swapped : (a b : ℕ) (v : Bool) → (a == b) ≡ v → (b == a) ≡ v
swapped a b true h = ap (λ (x : ℕ). b == x) (eqb-true a b h) ∙ eq-eqb b b refl
swapped a b false h = ne_eqb b a (λ e. eqb-false a b h (sym e))

-- a word begins with an equals sign and a question mark
front : (piece : List ℕ) → has_prefix (codes "=?") piece ≡ false → is_closed (after_word_bytes Front piece) ≡ false
front [] h = refl
front (a ∷ []) h = elim (cases_Bool (a == 61)) [
  | inl e ↦ rw e refl
  | inr e ↦ rw e refl
]
front (a ∷ (b ∷ rest)) h = elim (cases_Bool (a == 61)) [
  | inr e ↦ rw e (ap is_closed (wrong_stays rest))
  | inl e ↦ elim (cases_Bool (b == 63)) [
    | inr f ↦ rw (e, f) (ap is_closed (wrong_stays rest))
    | inl f ↦ let x = swapped a 61 true e in let y = swapped b 63 true f in let both = rw (x, y) at h in absurd (cc)
  ]
]

pub no_front : (piece : List ℕ) → has_prefix (codes "=?") piece ≡ false → is_word piece ≡ false
unfolding is_word
no_front piece h = and_right (nat_lt (length piece) 76) (is_closed (after_word_bytes Front piece)) (front piece h)
