-- Ranges of offsets in a list of bytes; the project's own terms.
use Rattle.std.specs.Prelude.{ℕ, ◌+◌, ◌≤◌, List, [], ◌∷◌, slice_range}

-- the bytes from one offset up to, but not including, another
pub record Range : Type 0 where
  pub start : ℕ
  pub end : ℕ

-- the bytes of a range
abbrev pub slice : List ℕ → Range → List ℕ
slice bytes range = slice_range bytes range.start range.end

-- a range that is counted from an offset, as a range of the whole
abbrev pub moved : ℕ → Range → Range
moved place range = record { start = place + range.start; end = place + range.end }

-- the ranges lie one after another between two offsets, with at least `gap` bytes before each of them
abbrev pub Apart : ℕ → ℕ → List Range → ℕ → Type 0
Apart gap from [] to = from ≤ to
Apart gap from (r ∷ rs) to = (from + gap ≤ r.start) × (r.start ≤ r.end) × Apart gap r.end rs to
