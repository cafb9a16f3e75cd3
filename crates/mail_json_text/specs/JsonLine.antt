-- A text is JSON on one line, as the kit's parser of JSON reads it; the program's own words.
use Rattle.std.specs.Prelude.{◌≡◌, ℕ, Bool, true, not, ◌&&◌, ◌==◌, nat_le, List, ◌++◌, Some, codes}
use Rattle.std.specs.List.{flat_map, list_all, AllByRecursion}
use Rattle.json.specs.Json.{Json, document}
use Rattle.json.specs.Strict.{HasUniqueKeys}
use Rattle.mail_codec.specs.Ascii.{space}

-- a byte that neither ends a line nor moves the cursor of a terminal: it is neither below the space nor DEL
abbrev pub is_within_line : ℕ → Bool
is_within_line b = nat_le space b && not (b == 127)

-- a text is JSON on one line: the kit's parser reads it as this value, in which no object has a key twice, and none of
-- its bytes is a control
pub record IsJsonLine (value : Json) (text : List ℕ) : Type 0 where
  pub read : document text ≡ Some value
  pub unique : HasUniqueKeys value
  pub one_line : list_all is_within_line text ≡ true

-- lines of JSON, each with its LF
abbrev pub AreJsonLines : List ℕ → Type 0
AreJsonLines text =
    (lines : List (List ℕ)) × AllByRecursion (λ line. (value : Json) × IsJsonLine value line) lines × (text ≡ flat_map (λ line. line ++ codes "\n") lines)
