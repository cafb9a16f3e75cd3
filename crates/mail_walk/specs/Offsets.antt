-- Offsets in an input, and numbers of its mails, within 64 bits; our own form.
use Rattle.std.specs.Prelude.{ℕ, ◌+◌, ◌^◌, ◌-◌, min}

-- a sum, or the greatest number of 64 bits, which no file reaches
abbrev pub saturating_add : ℕ → ℕ → ℕ
saturating_add a b = min (a + b) (2 ^ 64 - 1)
