-- Escapes, one after the other.
use Rattle.std.proofs.Common.{◌≡◌, ℕ, ◌<◌, ◌==◌, false, List, [], ◌∷◌, length, drop, Option, Some, None, refl, ap, arith}
use Rattle.mail_codec.specs.QuotedPrintable.{first_escape, after_escape, unescaped}

-- ---- escapes

pub unescaped-nil : unescaped [] ≡ []
unfolding unescaped
unescaped-nil = refl

-- a byte that begins no escape stays
pub unescaped_stays : (b : ℕ) (rest : List ℕ) → first_escape (b ∷ rest) ≡ None → unescaped (b ∷ rest) ≡ b ∷ unescaped rest
unfolding unescaped
unescaped_stays b [] h = refl
unescaped_stays b (c ∷ []) h = refl
unescaped_stays b (c ∷ d ∷ rest) h = ap (λ (o : Option ℕ). after_escape o (unescaped rest) (b ∷ unescaped (c ∷ d ∷ rest))) h

-- an escape is one byte
pub unescaped_escape : (byte : ℕ) (text : List ℕ) → first_escape text ≡ Some byte → unescaped text ≡ byte ∷ unescaped (drop 3 text)
unfolding unescaped
unescaped_escape byte [] h = cc h
unescaped_escape byte (b ∷ []) h = cc h
unescaped_escape byte (b ∷ c ∷ []) h = cc h
unescaped_escape byte (b ∷ c ∷ d ∷ rest) h = ap (λ (o : Option ℕ). after_escape o (unescaped rest) (b ∷ unescaped (c ∷ d ∷ rest))) h

-- only `=` begins one
pub first_escape-other : (b : ℕ) (rest : List ℕ) → (b == 61) ≡ false → first_escape (b ∷ rest) ≡ None
first_escape-other b [] h = refl
first_escape-other b (c ∷ []) h = refl
first_escape-other b (c ∷ d ∷ rest) h = rw h refl

-- fewer than three bytes are none
pub first_escape-short : (xs : List ℕ) → length xs < 3 → first_escape xs ≡ None
first_escape-short [] h = refl
first_escape-short (b ∷ []) h = refl
first_escape-short (b ∷ c ∷ []) h = refl
first_escape-short (b ∷ c ∷ d ∷ rest) h = absurd (omega arith)
