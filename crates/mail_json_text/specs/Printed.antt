-- JSON values by their members and their items, and the text of a value as the program writes it, without spaces.
use Rattle.std.specs.Prelude.{ℕ, ℤ, Bool, true, false, List, [], ◌∷◌, ◌++◌, drop, flat_map, map, Option, Some, None, codes}
use Rattle.json.specs.Json.{Json, null, boolean, number, string, array, object, Items, no_items, item, Members, no_members, member}
use Rattle.json.specs.Value.{items_of}
use Rattle.mail_json_text.specs.JsonText.{json_text, number_text, seconds_text}
use Rattle.mail_json_text.specs.declared.json_text.Position.{Position}
use Rattle.mail_json_text.specs.declared.json_text.Position.TheVariants.{First, Later}

-- a member of an object: its name and its value
abbrev pub Member : Type 0
Member = List ℕ × Json

abbrev pub members_of : List Member → Members
members_of [] = no_members
members_of (m ∷ ms) = member m.0 m.1 (members_of ms)

-- an object, a list, and a list of strings
abbrev pub object_of : List Member → Json
object_of ms = object (members_of ms)

abbrev pub list_of : List Json → Json
list_of js = array (items_of js)

abbrev pub strings : List (List ℕ) → Json
strings texts = list_of (map (λ text. string text) texts)

-- a pair of strings
abbrev pub pair_value : List ℕ × List ℕ → Json
pair_value pair = list_of (string pair.0 ∷ string pair.1 ∷ [])

-- one member
abbrev pub one : List ℕ → Json → List Member
one name value = (name, value) ∷ []

abbrev pub string_or_null : Option (List ℕ) → Json
string_or_null (Some text) = string text
string_or_null None = null

abbrev pub number_value : ℕ → Json
number_value n = number (number_text n)

abbrev pub number_or_null : Option ℕ → Json
number_or_null (Some n) = number_value n
number_or_null None = null

-- the seconds of a date
abbrev pub seconds_value : ℤ → Json
seconds_value seconds = number (seconds_text seconds)

-- a comma, if a member or an item comes before
abbrev pub comma_if : Bool → List ℕ → List ℕ
comma_if true text = codes "," ++ text
comma_if false text = text

abbrev pub flag_text : Bool → List ℕ
flag_text true = codes "true"
flag_text false = codes "false"

-- the text of a value; of items and of members with their closing bracket
unfoldable mutual
  pub text_of : Json → List ℕ
  text_of null = codes "null"
  text_of (boolean b) = flag_text b
  text_of (number s) = s
  text_of (string s) = json_text s
  text_of (array js) = codes "[" ++ items_text false js
  text_of (object ms) = codes "{" ++ members_text false ms

  pub items_text : Bool → Items → List ℕ
  items_text later no_items = codes "]"
  items_text later (item j js) = comma_if later (text_of j ++ items_text true js)

  pub members_text : Bool → Members → List ℕ
  members_text later no_members = codes "}"
  members_text later (member k j ms) = comma_if later (json_text k ++ (codes ":" ++ (text_of j ++ members_text true ms)))

-- ---- texts of parts of a value

-- the texts of items, each after a comma
abbrev pub after_commas : {A : Type 0} → (A → List ℕ) → List A → List ℕ
after_commas text xs = flat_map (λ x. codes "," ++ text x) xs

-- the texts of items separated by commas, after what comes before the first one
abbrev pub listed : {A : Type 0} → (A → List ℕ) → List ℕ → List A → List ℕ
listed text before [] = []
listed text before (x ∷ xs) = before ++ (text x ++ after_commas text xs)

-- the comma before an item, unless it is the first
abbrev pub comma : Position → List ℕ
comma First = []
comma Later = codes ","

abbrev pub member_text : Member → List ℕ
member_text m = json_text m.0 ++ (codes ":" ++ text_of m.1)

-- members, each after a comma
unfoldable pub members_after : List Member → List ℕ
members_after ms = after_commas member_text ms

-- an object without its closing brace
unfoldable pub begun : List Member → List ℕ
begun ms = codes "{" ++ drop 1 (members_after ms)

-- the line of a value
abbrev pub line_of : Json → List ℕ
line_of value = text_of value ++ codes "\n"
