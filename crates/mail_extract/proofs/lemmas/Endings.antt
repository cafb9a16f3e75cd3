-- Lemmas on looking up a key in a table.
use Rattle.std.proofs.Common.{◌≡◌, ℕ, Bool, true, false, List, [], ◌∷◌, map, Option, Some, option_map, refl}
use Rattle.std.specs.Prelude.{if◌then◌else◌}
use Rattle.mail_codec.specs.Names.{look_up}
use Rattle.std.specs.Str.{str_eq_ignore_ascii_case}

-- the first row if it matches, otherwise the row found after it, seen by a view
first-view : {B C : Type 0} (view : B → C) (passes : Bool) (key : List ℕ) (value : B) (seen : Option (List ℕ × C)) (found : Option (List ℕ × B))
    → option_map (λ (row : List ℕ × C). row.1) seen ≡ option_map view (option_map (λ (row : List ℕ × B). row.1) found)
    → option_map (λ (row : List ℕ × C). row.1) (if passes then Some (key, view value) else seen)
    ≡ option_map view (option_map (λ (row : List ℕ × B). row.1) (if passes then Some (key, value) else found))
first-view view true key value seen found e = refl
first-view view false key value seen found e = e

-- the value found for a key, seen by a view
pub look_up-view : {Row B C : Type 0} (key : Row → List ℕ) (value : Row → B) (view : B → C) (rows : List Row) (word : List ℕ)
    → look_up (map (λ row. (key row, view (value row))) rows) word ≡ option_map view (look_up (map (λ row. (key row, value row)) rows) word)
look_up-view key value view [] word = refl
look_up-view key value view (row ∷ rows) word =
    first-view view (str_eq_ignore_ascii_case word (key row)) (key row) (value row) _ _ (look_up-view key value view rows word)
