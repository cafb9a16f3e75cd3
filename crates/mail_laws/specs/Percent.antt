-- The sign that begins a percent pair.
use Rattle.std.specs.Prelude.{ℕ, Bool, ◌==◌}
use Rattle.percent_encoding.specs.Percent.{percent_sign}

-- a byte is `%`
abbrev pub is_percent : ℕ → Bool
is_percent b = b == percent_sign
