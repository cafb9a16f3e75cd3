-- The contracts of the functions that cut a line: the places of the delimiters of words, and that the line may be cut there.
use Rattle.std.specs.Prelude.{◌≡◌, ◌≢◌, ℕ, ◌+◌, ◌≤◌, List, length}
use Rattle.std.specs.Str.{IsCharBoundary}
use Rattle.mailparse.specs.Tokens.{opening, closing}

-- a line has two bytes at a place, and may be cut before and after them
pub record IsCut (line : List ℕ) (v : ℕ) : Type 0 where
  pub fits : v + 2 ≤ length line
  pub before : IsCharBoundary line v
  pub after : IsCharBoundary line (v + 2)

-- v is the place of the first `=?` at or after s
pub record IsOpening (line : List ℕ) (s v : ℕ) : Type 0 where
  pub least : opening line s ≡ v
  pub some : v ≢ length line
  pub ahead : s ≤ v
  pub cut : IsCut line v

-- the closing place that was found is right for each word whose inside begins between s and it
abbrev pub KeepsClosing : List ℕ → ℕ → ℕ → Type 0
KeepsClosing line s close = (k : ℕ) → s ≤ k → k ≤ close → closing line k ≡ close
