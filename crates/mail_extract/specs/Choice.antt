-- Which files are chosen, and the patterns that types and names match; the program's own rule.
use Rattle.std.specs.Prelude.{ℕ, Bool, true, false, ◌&&◌, ◌||◌, ◌==◌, List, [], ◌∷◌, Option, if◌then◌else◌}
use Rattle.std.specs.Char.{to_ascii_lowercase}
use Rattle.std.specs.Option.{option_map_or}
use Rattle.std.specs.Str.{bytes_eq}
use Rattle.mail_codec.specs.Places.{is_empty}

-- a text, or the rest of it after some of its first characters, passes a test
abbrev pub some_rest : (List ℕ → Bool) → List ℕ → Bool
some_rest p [] = p []
some_rest p (b ∷ text) = p (b ∷ text) || some_rest p text

-- a text begins with a character, ignoring ASCII case, and the rest passes a test
abbrev pub begins_and : ℕ → (List ℕ → Bool) → List ℕ → Bool
begins_and c p [] = false
begins_and c p (b ∷ text) = to_ascii_lowercase b == to_ascii_lowercase c && p text

-- a text fits a pattern: a `*` fits any text, even none, and each other character itself, ignoring ASCII case
unfoldable pub fits : (pattern text : List ℕ) → Bool
fits [] text = is_empty text
fits (c ∷ pattern) text = if c == 42 then some_rest (fits pattern) text else begins_and c (fits pattern) text

-- a choice: the path of the only part, and the patterns of its type and of its name
pub record Choice : Type 0 where
  pub path : Option (List ℕ)
  pub mimetype : Option (List ℕ)
  pub name : Option (List ℕ)

-- the choice keeps a file of the part with this path and this type, and with this name
unfoldable pub keeps : Choice → (path mimetype name : List ℕ) → Bool
keeps choice path mimetype name =
    option_map_or (λ wanted. bytes_eq wanted path) choice.path true
    && (option_map_or (λ pattern. fits pattern mimetype) choice.mimetype true && option_map_or (λ pattern. fits pattern name) choice.name true)
