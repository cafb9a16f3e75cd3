-- The value and the pairs of a text that has parameters: RFC 2045, section 5.1, as this crate reads it. Keys are put
-- into ASCII lower case, and of equal keys the last one counts.
use Rattle.std.specs.Prelude.{◌≡◌, ℕ, Bool, ◌==◌, nat_lt, List, [], length, drop, flat_map, Option, Some, None, option_map, option_to_list, slice_index_or, String, string_bytes, if◌then◌else◌}
use Rattle.std.specs.BTreeMap.{BTreeMap, get_by_text}
use Rattle.std.specs.List.{position_or_len, before_first, after_first}
use Rattle.std.specs.Map.{update_all}
use Rattle.std.specs.Str.{bytes_eq, str_to_ascii_lowercase, trim}
use Rattle.mail_codec.specs.Ascii.{equals_sign}
use Rattle.mailparse.specs.Segments.{segments, unescape}

-- texts by their names
abbrev pub Texts : Type 0
Texts = List ℕ → Option (List ℕ)

-- no text at any name
abbrev pub no_texts : Texts
no_texts name = None

-- the text of a name in a map
abbrev pub text_at : {Y Z : Type 0} → BTreeMap (String Y) (String Z) → Texts
text_at m name = option_map string_bytes (get_by_text m name)

-- a map has these texts and no others
abbrev pub HasTexts : {Y Z : Type 0} → BTreeMap (String Y) (String Z) → Texts → Type 0
HasTexts m texts = (name : List ℕ) → text_at m name ≡ texts name

-- of equal keys the last pair is kept
abbrev pub last_of : List (List ℕ × List ℕ) → Texts
last_of pairs = update_all bytes_eq no_texts pairs

-- a `=`
abbrev pub is_equals : ℕ → Bool
is_equals b = b == equals_sign

-- the pair of a segment that contains `=`: the key is the text before the first one, trimmed and in lower case; the value is the
-- text after it, trimmed and unescaped
unfoldable pub pair_of : List ℕ → Option (List ℕ × List ℕ)
pair_of segment =
    if nat_lt (position_or_len is_equals segment) (length segment)
    then Some (str_to_ascii_lowercase (trim (before_first is_equals segment)), unescape (trim (after_first is_equals segment)))
    else None

-- the pairs of segments, in order; a segment without `=` has none
abbrev pub pairs_in : List (List ℕ) → List (List ℕ × List ℕ)
pairs_in segments = flat_map (λ segment. option_to_list (pair_of segment)) segments

-- the pairs of a text: those of all its segments after the first
unfoldable pub pairs_of : List ℕ → List (List ℕ × List ℕ)
pairs_of text = pairs_in (drop 1 (segments text))

-- the value of a text: its first segment, trimmed
unfoldable pub value_of : List ℕ → List ℕ
value_of text = trim (slice_index_or (segments text) 0 [])
