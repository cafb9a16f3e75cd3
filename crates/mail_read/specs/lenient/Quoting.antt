-- Values without quotes that begin or end with whitespace beyond ASCII, such as a no-break space (RFC
-- 2045, section 5.1). `mailparse` trims all whitespace around a value; the crate's own rule is that
-- only whitespace of ASCII is trimmed, so such a value is put into quotes.
use Rattle.std.specs.Prelude.{ℕ, Bool, ◌||◌, ◌==◌, nat_lt, List, [], ◌∷◌, ◌++◌, chars, flat_map, length, encode_utf8_all, if◌then◌else◌}
use Rattle.std.specs.Char.{is_ascii, is_ascii_whitespace}
use Rattle.std.specs.List.{after_first, before_first, list_all, list_any, position_or_len}
use Rattle.std.specs.Str.{bytes_eq, trim}
use Rattle.mail_codec.specs.Ascii.{backslash, equals_sign, quote, semicolon}
use Rattle.mail_codec.specs.Places.{trimmed_at_end, trimmed_at_start}
use Rattle.mailparse.specs.Pairs.{is_equals}
use Rattle.mailparse.specs.Segments.{segments}

-- a text without the whitespace of ASCII around it
abbrev pub trim_ascii : List ℕ → List ℕ
trim_ascii text = trimmed_at_end is_ascii_whitespace (trimmed_at_start is_ascii_whitespace text)

-- a character that has a backslash before it in quotes: a quote and a backslash
abbrev pub is_escaped : ℕ → Bool
is_escaped c = c == quote || c == backslash

-- a character in quotes
abbrev pub escaped : ℕ → List ℕ
escaped c = if is_escaped c then backslash ∷ c ∷ [] else c ∷ []

-- a text that ends in a quote, with its characters so
abbrev pub up_to_quote : List ℕ → List ℕ
up_to_quote cs = encode_utf8_all (flat_map escaped cs) ++ quote ∷ []

-- a text in quotes
abbrev pub in_quotes : List ℕ → List ℕ
in_quotes text = quote ∷ up_to_quote (chars text)

-- a value, in quotes if it begins or ends with other whitespace
abbrev pub quoted_value : List ℕ → List ℕ
quoted_value value = if bytes_eq (trim_ascii value) (trim value) then value else in_quotes (trim_ascii value)

-- a segment with a value, which is quoted so; no name with a quote is one that is looked for
abbrev pub quoted_pair : List ℕ → List ℕ → List ℕ
quoted_pair name value =
    name ++ equals_sign ∷ (if list_any (λ b. b == quote) name then value else quoted_value value)

-- a segment, whose value is the text after its first `=`
abbrev pub quoted_segment : List ℕ → List ℕ
quoted_segment segment =
    if nat_lt (position_or_len is_equals segment) (length segment)
    then quoted_pair (before_first is_equals segment) (after_first is_equals segment)
    else segment

-- segments after others
abbrev pub quoted_segments : List (List ℕ) → List ℕ
quoted_segments [] = []
quoted_segments (segment ∷ more) = semicolon ∷ (quoted_segment segment ++ quoted_segments more)

-- the segments of a text, of which the first has no value
abbrev pub joined : List (List ℕ) → List ℕ
joined [] = []
joined (first ∷ more) = first ++ quoted_segments more

-- a text with parameters whose values are quoted so
unfoldable pub with_quotes : List ℕ → List ℕ
with_quotes text = if list_all is_ascii text then text else joined (segments text)
