-- The numbered sections into which a value may be split, `name*0`, `name*1` and so on (RFC 2231, section 3): their names and their
-- contents.
use Rattle.std.specs.Prelude.{ℕ, Bool, true, false, ◌&&◌, ◌==◌, ◌^◌, nat_lt, List, ◌∷◌, ◌++◌, length, Option, Some, None, option_map, if◌then◌else◌}
use Rattle.std.specs.Fmt.{decimal}
use Rattle.std.specs.List.{before_last, after_last, list_any}
use Rattle.std.specs.Str.{all_ascii_digits}
use Rattle.std.specs.Str.Parse.{digits_value, without_leading_plus}
use Rattle.mail_codec.specs.Ascii.{asterisk}

-- a star
abbrev pub is_star : ℕ → Bool
is_star b = b == asterisk

-- the number in decimal digits, with or without a plus before them, if it is a `u64`
abbrev pub number_in : List ℕ → Option ℕ
number_in text =
    let digits = without_leading_plus text in
    if nat_lt 0 (length digits) && all_ascii_digits digits && nat_lt (digits_value 10 digits) (2 ^ 64)
    then Some (digits_value 10 digits)
    else None

-- the base and the number of a name: the text before its last star, and the number after it, if there is one
unfoldable pub numbered : List ℕ → Option (List ℕ × ℕ)
numbered name = if list_any is_star name then option_map (λ number. (before_last is_star name, number)) (number_in (after_last is_star name)) else None

-- the name of the section of a base with that number
abbrev pub section_name : List ℕ → ℕ → List ℕ
section_name base number = base ++ asterisk ∷ decimal number

-- the entry of a name: a text, or the bytes of an extended section with the reading of its charset
pub data Section : Type 0 where
  text : List ℕ → Section
  octets : (List ℕ → List ℕ) → List ℕ → Section

-- the entry is a text
abbrev pub is_text : Option Section → Bool
is_text None = false
is_text (Some (text t)) = true
is_text (Some (octets reading bytes)) = false

-- the text of a section that is not joined
abbrev pub alone : Section → List ℕ
alone (text t) = t
alone (octets reading bytes) = reading bytes
