-- The contracts of the private functions of dates.
use Rattle.std.specs.Prelude.{◌≡◌, ℕ, List, [], ◌∷◌, ℤ, pos, neg_ℤ, ◌≤ℤ◌, Option, Some, None, ok_or, Ok}
use Rattle.mailparse.specs.Date.{date_words, number_below, words}
use Rattle.mailparse.specs.Refusal.{◌>>=◌, Reads, Refusal}

-- a number whose size is at most this
abbrev pub HasSizeAtMost : ℕ → ℤ → Type 0
HasSizeAtMost most z = (neg_ℤ (pos most) ≤ℤ z) × (z ≤ℤ pos most)

-- a number that is the first word of a date, and the text after it
pub record IsFirstNumber (date : List ℕ) (number : ℕ) (rest : List ℕ) : Type 0 where
  pub word : List ℕ
  pub first : date_words (words date) ≡ word ∷ words rest
  pub reads : number_below 256 word ≡ Some number

-- the number below 256 that the first word gives, and the words after it
abbrev pub next_number : Refusal → List (List ℕ) → Reads (Option (ℕ × List (List ℕ)))
next_number refusal [] = Ok None
next_number refusal (word ∷ after) = do
  n ← ok_or (number_below 256 word) refusal
  Ok (Some (n, after))
