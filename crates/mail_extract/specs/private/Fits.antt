-- Which rests of a text pass a test.
use Rattle.std.specs.Prelude.{◌≡◌, ℕ, ◌-◌, ◌<◌, Bool, false, List, drop, length, slice_index_or}

-- the first `count` of a list: whether the last j bytes of a text pass a test, for j from 0
pub record IsRow (test : List ℕ → Bool) (text : List ℕ) (count : ℕ) (row : List Bool) : Type 0 where
  pub len : length row ≡ count
  pub each : (j : ℕ) → j < count → slice_index_or row j false ≡ test (drop (length text - j) text)
