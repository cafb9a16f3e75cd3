-- Tags with their attributes, comments and other markup, by where they end (the HTML Standard, sections 13.2.5.6 to 13.2.5.69).
use Rattle.std.specs.Prelude.{ℕ, zero, suc, ◌+◌, ◌-◌, Bool, ◌||◌, ◌&&◌, ◌==◌, List, [], ◌∷◌, length, take, drop, slice_index, Option, Some, None, codes, if◌then◌else◌}
use Rattle.std.specs.Char.{is_ascii_whitespace}
use Rattle.std.specs.List.{prefix_len}
use Rattle.std.specs.Str.{str_eq_ignore_ascii_case}
use Rattle.mail_codec.specs.Ascii.{apostrophe, equals_sign, greater_than, quote, slash}
use Rattle.mail_codec.specs.Places.{begins, byte_place, first_place, has_prefix}

-- the length up to and including the byte at an offset, or the whole length if there is no such byte
abbrev pub length_past : Option ℕ → List ℕ → ℕ
length_past None bytes = length bytes
length_past (Some place) bytes = place + 1

-- the length up to and including the first occurrence of a byte, or the whole length if it does not occur
abbrev pub past_byte : List ℕ → ℕ → ℕ
past_byte bytes byte = length_past (byte_place bytes byte) bytes

-- a byte that separates attributes: whitespace or a slash
abbrev pub is_separator : ℕ → Bool
is_separator b = is_ascii_whitespace b || b == slash

-- a byte that ends the name of a tag: a separator or `>`
abbrev pub ends_name : ℕ → Bool
ends_name b = is_separator b || b == greater_than

-- the length of the name of a tag at the front of bytes
abbrev pub name_length : List ℕ → ℕ
name_length bytes = first_place (begins ends_name) bytes

-- a byte that ends the name of an attribute
abbrev pub ends_attribute : ℕ → Bool
ends_attribute b = ends_name b || b == equals_sign

-- a byte that ends a value without quotes
abbrev pub ends_value : ℕ → Bool
ends_value b = is_ascii_whitespace b || b == greater_than

-- a quote of a value
abbrev pub is_quote : ℕ → Bool
is_quote b = b == quote || b == apostrophe

-- an attribute as it is written: its name, its value, and how many bytes it takes
abbrev pub Attribute : Type 0
Attribute = List ℕ × List ℕ × ℕ

-- a value, and how many bytes it takes
abbrev pub Value : Type 0
Value = List ℕ × ℕ

-- a value after its quote: up to the next such quote, or to the end
abbrev pub quoted : ℕ → List ℕ → Value
quoted end bytes =
    (take (first_place (begins (λ b. b == end)) bytes) bytes, 1 + past_byte bytes end)

-- a value without quotes; it may be empty
abbrev pub unquoted : List ℕ → Value
unquoted bytes =
    let count = first_place (begins ends_value) bytes in
    (take count bytes, count)

-- a value at the front of bytes
unfoldable pub value : List ℕ → Value
value bytes = if begins is_quote bytes then quoted (slice_index bytes 0) (drop 1 bytes) else unquoted bytes

-- the number of whitespace bytes at the front
abbrev pub white_length : List ℕ → ℕ
white_length bytes = prefix_len is_ascii_whitespace bytes

-- the same value, after more bytes
abbrev pub value_from : ℕ → List ℕ → Value
value_from start bytes = ((value (drop start bytes)).0, start + (value (drop start bytes)).1)

-- what follows the name of an attribute: an equals sign and a value, both with whitespace before them, or nothing
unfoldable pub assigned : List ℕ → Value
assigned bytes =
    let equals = white_length bytes in
    if begins (λ b. b == equals_sign) (drop equals bytes)
    then value_from (equals + 1 + white_length (drop (equals + 1) bytes)) bytes
    else ([], 0)

-- the length of the name of an attribute: its first byte may be an equals sign
abbrev pub attribute_name_length : List ℕ → ℕ
attribute_name_length bytes = 1 + first_place (begins ends_attribute) (drop 1 bytes)

-- the attribute at the front of bytes
unfoldable pub attribute : List ℕ → Attribute
attribute bytes =
    let name = attribute_name_length bytes in
    (take name bytes, (assigned (drop name bytes)).0, name + (assigned (drop name bytes)).1)

-- the piece at the front of what a tag has after its name: a separator, which has no name, or an attribute
unfoldable pub piece : List ℕ → Attribute
piece bytes = if begins is_separator bytes then ([], [], 1) else attribute bytes

-- the length of the rest of a tag, up to and including its `>`, or to the end; some bytes belong to the piece before them
abbrev pub tag_rest_length : ℕ → List ℕ → ℕ
tag_rest_length taken [] = 0
tag_rest_length (suc taken) (b ∷ rest) = suc (tag_rest_length taken rest)
tag_rest_length zero (b ∷ rest) =
    if b == greater_than then 1 else suc (tag_rest_length ((piece (b ∷ rest)).2 - 1) rest)

-- the length of a tag whose name is at the front of bytes
unfoldable pub tag_length : List ℕ → ℕ
tag_length bytes = name_length bytes + tag_rest_length 0 (drop (name_length bytes) bytes)

-- the value of the first attribute with a name, ignoring ASCII case, or no bytes if there is none; some bytes belong to the
-- piece before them
abbrev pub value_named : ℕ → List ℕ → List ℕ → List ℕ
value_named taken name [] = []
value_named (suc taken) name (b ∷ rest) = value_named taken name rest
value_named zero name (b ∷ rest) =
    if b == greater_than then [] else
    if str_eq_ignore_ascii_case (piece (b ∷ rest)).0 name then (piece (b ∷ rest)).1
    else value_named ((piece (b ∷ rest)).2 - 1) name rest

-- a comment ends with `-->` or `--!>`
abbrev pub closes_comment : List ℕ → Bool
closes_comment rest = has_prefix (codes "-->") rest || has_prefix (codes "--!>") rest

-- the length of that end at the front of bytes
abbrev pub close_length : List ℕ → ℕ
close_length rest =
    if has_prefix (codes "-->") rest then 3 else if has_prefix (codes "--!>") rest then 4 else 0

-- the length of the rest of a comment after `<!--`, with its end: a `>` or `->` at once, the first `-->` or `--!>`, or the end
-- of the bytes
unfoldable pub comment_length : List ℕ → ℕ
comment_length bytes =
    let close = first_place closes_comment bytes in
    if has_prefix (codes ">") bytes then 1 else if has_prefix (codes "->") bytes then 2 else
    close + close_length (drop close bytes)

-- the length of what `<!` or `<?` begins, from its second byte: a comment, or all up to the first `>`
unfoldable pub declaration_length : List ℕ → ℕ
declaration_length bytes =
    if has_prefix (codes "!--") bytes then 3 + comment_length (drop 3 bytes) else past_byte bytes greater_than

-- the bytes begin with the name of a tag, ignoring ASCII case
abbrev pub has_name : List ℕ → List ℕ → Bool
has_name name bytes =
    begins ends_name (drop (length name) bytes) && str_eq_ignore_ascii_case (take (length name) bytes) name

-- the bytes begin with the end tag of an element
abbrev pub is_end_tag : List ℕ → List ℕ → Bool
is_end_tag name bytes = has_prefix (codes "</") bytes && has_name name (drop 2 bytes)

-- the length of the contents of an element, up to its first end tag, or to the end
abbrev pub contents_length : List ℕ → List ℕ → ℕ
contents_length name bytes = first_place (is_end_tag name) bytes
