-- Names beside addresses; the form of a quoted string is that of RFC 5322, section 3.2.4.
use Rattle.std.specs.Prelude.{ℕ, Bool, ◌||◌, ◌==◌, List, ◌∷◌, ◌++◌, flat_map, codes, chars, if◌then◌else◌}
use Rattle.std.specs.Char.{encode_utf8}
use Rattle.std.specs.List.{list_any}

-- one of the specials of RFC 5322, section 3.2.3, except for the dot
unfoldable pub is_special : ℕ → Bool
is_special c = list_any (λ special. c == special) (codes "()<>[]:;@\\,\"")

-- a character of a quoted string: a quotation mark and a backslash have a backslash before them
abbrev pub quoted_character : ℕ → List ℕ
quoted_character c = if c == 34 || c == 92 then 92 ∷ encode_utf8 c else encode_utf8 c

-- a name, in quotes if it has a special, so that it is no address and no list of names
abbrev pub shown_name : List ℕ → List ℕ
shown_name name =
    if list_any is_special name then codes "\"" ++ (flat_map quoted_character (chars name) ++ codes "\"") else name
