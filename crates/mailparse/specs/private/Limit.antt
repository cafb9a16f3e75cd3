-- What is left of a limit on the items of a mail.
use Rattle.std.specs.Prelude.{ℕ, ◌-◌, Option, option_map}

-- what is left of a limit after this many items
abbrev pub less : Option ℕ → ℕ → Option ℕ
less left count = option_map (λ most. most - count) left
