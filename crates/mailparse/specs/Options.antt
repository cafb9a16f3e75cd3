-- A value computed from an optional one.
use Rattle.std.specs.Prelude.{Option, option_and_then}

-- what follows from the value, or `None` if there is no value
infixl 10 ◌>>=◌
abbrev pub ◌>>=◌ : {A B : Type 0} → Option A → (A → Option B) → Option B
found >>= next = option_and_then next found
