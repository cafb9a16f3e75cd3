-- Character references (the HTML Standard, sections 13.2.5.72 to 13.2.5.84 and 13.5).
use Rattle.std.specs.Prelude.{ℕ, zero, suc, ◌+◌, ◌-◌, ◌*◌, min, Bool, true, not, ◌||◌, ◌&&◌, ◌==◌, nat_lt, List, [], ◌∷◌, ◌++◌, length, take, drop, slice_index, fold, find, Option, Some, None, codes, option_and_then, if◌then◌else◌}
use Rattle.std.specs.Borrow.{Bor}
use Rattle.std.specs.Char.{encode_utf8, is_ascii_alphanumeric, is_ascii_digit, is_ascii_hexdigit}
use Rattle.std.specs.Int.{is_in_range}
use Rattle.std.specs.List.{prefix_len}
use Rattle.mail_codec.specs.Ascii.{equals_sign, semicolon}
use Rattle.mail_codec.specs.Charset.{replacement, windows_1252_char}
use Rattle.mail_codec.specs.Places.{begins, has_prefix}
use Rattle.mail_html.specs.declared.references.References.{References}

-- a text, and how many bytes after the ampersand it takes
abbrev pub Referred : Type 0
Referred = List ℕ × ℕ

-- a number of no character: one of the surrogates, or greater than all
abbrev pub is_no_character : ℕ → Bool
is_no_character number = is_in_range 0xD800 0xDFFF number || nat_lt 0x10FFFF number

-- the character of a number: those from 80 to 9F are read as in windows-1252, and 0 and numbers of no character are U+FFFD
unfoldable pub character_of : ℕ → ℕ
character_of number =
    if number == 0 || is_no_character number then replacement else windows_1252_char number

-- the value of a digit of a base up to 16
abbrev pub digit_number : ℕ → ℕ
digit_number digit =
    if is_in_range 48 57 digit then digit - 48 else if is_in_range 65 70 digit then digit - 55 else digit - 87

-- a number with one more digit, or 0x110000 if it is greater: that is a number of no character too
abbrev pub with_digit : ℕ → ℕ → ℕ → ℕ
with_digit base number digit = min (number * base + digit_number digit) 0x110000

-- the number that digits denote
abbrev pub number_of : ℕ → List ℕ → ℕ
number_of base digits = fold (with_digit base) 0 digits

-- the number of bytes of a semicolon at the front
abbrev pub semicolon_length : List ℕ → ℕ
semicolon_length bytes = if begins (λ b. b == semicolon) bytes then 1 else 0

-- no reference: the ampersand is itself
abbrev pub no_reference : Referred
no_reference = (codes "&", 0)

-- the reference by `count` digits of a base, which begin at an offset after the ampersand
abbrev pub by_digits : ℕ → ℕ → ℕ → List ℕ → Referred
by_digits base start count bytes = (
  encode_utf8 (character_of (number_of base (take count (drop start bytes)))),
  start + count + semicolon_length (drop (start + count) bytes),
)

-- the same, if there are digits
abbrev pub by_digits_or_none : ℕ → ℕ → ℕ → List ℕ → Referred
by_digits_or_none base start count bytes = if count == 0 then no_reference else by_digits base start count bytes

-- the reference by a number after `&`: hexadecimal after `#x` or `#X`, decimal after `#`
unfoldable pub numeric : List ℕ → Referred
numeric bytes =
    if begins (λ b. b == 0x78 || b == 0x58) (drop 1 bytes)
    then by_digits_or_none 16 2 (prefix_len is_ascii_hexdigit (drop 2 bytes)) bytes
    else by_digits_or_none 10 1 (prefix_len is_ascii_digit (drop 1 bytes)) bytes

-- a row of the table of names in the code: a name, and its text
abbrev pub Row : Type 0
Row = Bor (List ℕ) × Bor (List ℕ)

-- the rows of a table whose names begin with a byte
abbrev pub rows_of : List (ℕ × Bor (List Row)) → ℕ → Option (ℕ × Bor (List Row))
rows_of groups first = find (λ group. group.0 == first) groups

-- the first of some rows whose name is at the front of bytes; of such names longer ones are before shorter ones
abbrev pub row_among : List ℕ → List Row → Option Row
row_among bytes rows = find (λ row. has_prefix row.0.now bytes) rows

-- the row whose name, which begins with a byte, is at the front of bytes
abbrev pub row_in : List (ℕ × Bor (List Row)) → ℕ → List ℕ → Option Row
row_in groups first bytes = option_and_then (λ group. row_among bytes group.1.now) (rows_of groups first)

-- the row whose name is at the front of bytes
abbrev pub row_at : References → List ℕ → Option Row
row_at references [] = None
row_at references (b ∷ rest) = row_in references.groups b (b ∷ rest)

-- a name ends in a semicolon
abbrev pub is_closed : List ℕ → Bool
is_closed name = slice_index name (length name - 1) == semicolon

-- in the value of an attribute, a name without a semicolon is no reference before `=`, a letter or a digit
abbrev pub is_refused : Bool → List ℕ → List ℕ → Bool
is_refused in_value name bytes =
    in_value && not (is_closed name)
    && begins (λ b. is_ascii_alphanumeric b || b == equals_sign) (drop (length name) bytes)

-- the reference by a row
abbrev pub by_row : Bool → List ℕ → Option Row → Referred
by_row in_value bytes None = no_reference
by_row in_value bytes (Some row) =
    if is_refused in_value row.0.now bytes then no_reference else (row.1.now, length row.0.now)

-- the reference by bytes after an ampersand, in the value of an attribute or in text
unfoldable pub reference : References → Bool → List ℕ → Referred
reference references in_value bytes =
    if begins (λ b. b == 0x23) bytes then numeric bytes else by_row in_value bytes (row_at references bytes)

-- the text of the value of an attribute; some bytes belong to the reference before them
abbrev pub value_text : ℕ → References → List ℕ → List ℕ
value_text taken references [] = []
value_text (suc taken) references (b ∷ rest) = value_text taken references rest
value_text zero references (b ∷ rest) =
    if b == 0x26
    then (reference references true rest).0 ++ value_text (reference references true rest).1 references rest
    else b ∷ value_text 0 references rest
