-- Maps that are filled name by name; private to the loops that fill them.
use Rattle.std.specs.Prelude.{ℕ, Bool, List, Option, if◌then◌else◌}
use Rattle.std.specs.List.{list_any}
use Rattle.std.specs.Str.{bytes_eq}

-- a name is among some
abbrev pub holds_name : List (List ℕ) → List ℕ → Bool
holds_name names q = list_any (λ name. bytes_eq name q) names

-- the entry of a name: in one map for the names so far, and in another for all others
abbrev pub filled : {A : Type 0} → (List ℕ → Option A) → (List ℕ → Option A) → List (List ℕ) → List ℕ → Option A
filled f g names q = if holds_name names q then f q else g q
