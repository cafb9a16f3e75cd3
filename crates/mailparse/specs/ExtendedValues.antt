-- Extended values, whose keys end in `*`: a charset, a language and a percent-encoded text (RFC 2231, section 4). Which key names
-- the charset of a value that is split into sections is this project's own choice.
use Rattle.std.specs.Prelude.{ℕ, ◌-◌, Bool, not, ◌&&◌, ◌==◌, List, [], ◌∷◌, ◌++◌, length, map, take, Option, Some, None, option_map, if◌then◌else◌}
use Rattle.std.specs.Cmp.Lexicographic.{slice_cmp}
use Rattle.std.specs.List.{before_first, after_first, filter}
use Rattle.std.specs.Option.{is_some, option_or, unwrap_or}
use Rattle.std.specs.Ordering.{is_lt, nat_cmp}
use Rattle.std.specs.Str.{bytes_eq}
use Rattle.mail_codec.specs.Ascii.{apostrophe, asterisk, digit_0}
use Rattle.mail_codec.specs.Charset.{Charsets}
use Rattle.mailparse.specs.Pairs.{Texts}
use Rattle.mailparse.specs.Sections.{Section, text, octets, numbered}
use Rattle.percent_encoding.specs.Percent.{percent_decode}

-- an apostrophe, which separates the pieces of an extended value
abbrev pub is_apostrophe : ℕ → Bool
is_apostrophe b = b == apostrophe

-- the key of a name's extended value: the name with a star after it
abbrev pub starred : List ℕ → List ℕ
starred name = name ++ asterisk ∷ []

-- a key less its last byte
abbrev pub name_under : List ℕ → List ℕ
name_under key = take (length key - 1) key

-- a key ends in a star
abbrev pub is_starred : List ℕ → Bool
is_starred key = bytes_eq key (starred (name_under key))

-- a name is extended if it is not a key, and with a star after it is one
abbrev pub is_extended : Texts → List ℕ → Bool
is_extended keys name = is_some (keys (starred name)) && not (is_some (keys name))

-- the extended value of a name
abbrev pub extended_value : Texts → List ℕ → List ℕ
extended_value keys name = unwrap_or (keys (starred name)) []

-- the label of an extended value: the text before its first apostrophe, or the whole value
abbrev pub label_in : List ℕ → List ℕ
label_in value = before_first is_apostrophe value

-- the text after the first two apostrophes of a value; empty if there are fewer
abbrev pub text_in : List ℕ → List ℕ
text_in value = after_first is_apostrophe (after_first is_apostrophe value)

-- the prefixes of a name that end in a star, the shortest first
abbrev pub starred_prefixes : List ℕ → List (List ℕ)
starred_prefixes [] = []
starred_prefixes (b ∷ name) = (if b == asterisk then (b ∷ []) ∷ [] else []) ++ map (λ prefix. b ∷ prefix) (starred_prefixes name)

-- the candidates for the charset source of a name: its prefixes that end in a star, followed by `0`, if they are extended
abbrev pub candidates : Texts → List ℕ → List (List ℕ)
candidates keys name = filter (is_extended keys) (map (λ prefix. prefix ++ digit_0 ∷ []) (starred_prefixes name))

-- of two names, the one whose starred key is later in byte order
abbrev pub later : List ℕ → Option (List ℕ) → List ℕ
later z None = z
later z (Some w) = if is_lt (slice_cmp nat_cmp (starred z) (starred w)) then w else z

-- of some names, the one whose starred key is last in byte order
abbrev pub last_starred : List (List ℕ) → Option (List ℕ)
last_starred [] = None
last_starred (z ∷ names) = Some (later z (last_starred names))

-- the charset source of a name, whose value has the label: the last of the candidates, otherwise the name itself
abbrev pub charset_source : Texts → List ℕ → List ℕ
charset_source keys name = unwrap_or (last_starred (candidates keys name)) name

-- the bytes of an extended value, percent-decoded; without label and language if the name is its own charset source
abbrev pub octets_of : Texts → List ℕ → List ℕ
octets_of keys name =
    let value = extended_value keys name in
    percent_decode (if bytes_eq (charset_source keys name) name then text_in value else value)

-- Under the charsets that are known.
module _ (known : Charsets) where
  -- the charset of an extended name, if the label of its charset source is known: then the name's starred key leaves the map
  unfoldable pub reading_of : Texts → List ℕ → Option (List ℕ → List ℕ)
  reading_of keys name =
      if is_extended keys name then known (label_in (extended_value keys (charset_source keys name))) else None

  -- the entry of an extended name: a section if the name has a number, otherwise a text
  abbrev pub extended_at : Texts → List ℕ → Option Section
  extended_at keys name =
      option_map (λ reading. if is_some (numbered name) then octets reading (octets_of keys name) else text (reading (octets_of keys name)))
      (reading_of keys name)

  -- a key ends in a star and leaves the map, since its name is extended and the label is known
  abbrev pub has_left : Texts → List ℕ → Bool
  has_left keys key = is_starred key && is_some (reading_of keys (name_under key))

  -- the entry of a name, after the extended values are read
  unfoldable pub section_at : Texts → List ℕ → Option Section
  section_at keys name = option_or (extended_at keys name) (if has_left keys name then None else option_map text (keys name))
