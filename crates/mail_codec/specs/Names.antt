-- Tables of names, in which ASCII case is ignored.
use Rattle.std.specs.Prelude.{ℕ, List, Option, option_map, find}
use Rattle.std.specs.Borrow.{Bor}
use Rattle.std.specs.Str.{str_eq_ignore_ascii_case}

-- the value of the first row of a table whose name is the word, ignoring ASCII case
abbrev pub look_up : {A : Type 0} → List (List ℕ × A) → List ℕ → Option A
look_up table word =
    option_map (λ row. row.1) (find (λ row. str_eq_ignore_ascii_case word row.0) table)

-- a row of a table in the code, by the bytes of its name
abbrev pub row_view : {A : Type 0} → Bor (List ℕ) × A → List ℕ × A
row_view row = (row.0.now, row.1)
