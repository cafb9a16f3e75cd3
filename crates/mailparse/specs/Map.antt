-- Looking up headers by name, ignoring ASCII case (RFC 5322, section 1.2.2).
use Rattle.std.specs.Prelude.{ℕ, Bool, List, Option, String, filter, find, map, option_map, string_bytes}
use Rattle.std.specs.Global.{Global}
use Rattle.std.specs.Str.{str_eq_ignore_ascii_case}
use Rattle.mail_codec.specs.Charset.{Charsets, four_charsets}
use Rattle.mailparse.specs.Header.{Header, key_text}
use Rattle.mailparse.specs.Value.{lenient_value_in}

-- a header has this name: the text of its key and the name are equal, ignoring ASCII case
abbrev pub has_key : List ℕ → Header → Bool
has_key name h = str_eq_ignore_ascii_case (key_text h) name

-- the headers that have this name, in the order of the message
abbrev pub all_with_key : List ℕ → List Header → List Header
all_with_key name headers = filter (has_key name) headers

-- the first of them
abbrev pub first_with_key : List ℕ → List Header → Option Header
first_with_key name headers = find (has_key name) headers

-- Under the charsets that are known.
module _ (known : Charsets) where
  -- the value of the first of them, if there is one
  abbrev pub first_value_in : List ℕ → List Header → Option (List ℕ)
  first_value_in name headers = option_map (λ h. lenient_value_in known h.value) (first_with_key name headers)

  -- the values of all of them, in the order of the message
  abbrev pub all_values_in : List ℕ → List Header → List (List ℕ)
  all_values_in name headers = map (λ h. lenient_value_in known h.value) (all_with_key name headers)

-- the same under the four charsets
abbrev pub first_value : List ℕ → List Header → Option (List ℕ)
first_value name headers = first_value_in four_charsets name headers

abbrev pub all_values : List ℕ → List Header → List (List ℕ)
all_values name headers = all_values_in four_charsets name headers

-- the text that was found, if one was
abbrev pub text_found : Option (String Global) → Option (List ℕ)
text_found found = option_map (λ t. string_bytes t) found
