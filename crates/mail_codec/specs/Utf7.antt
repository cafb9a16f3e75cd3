-- UTF-7 (RFC 2152), which the Encoding Standard forbids. How bytes that are not UTF-7 are read is
-- this crate's own rule.
use Rattle.std.specs.Prelude.{ℕ, ◌+◌, ◌-◌, ◌*◌, ◌/◌, ◌%◌, ◌^◌, Bool, not, ◌||◌, ◌&&◌, ◌==◌, nat_lt, List, [], ◌∷◌, ◌++◌, length, take, drop, map, slice_index, Some, None, codes, if◌then◌else◌}
use Rattle.std.specs.Int.{is_in_range}
use Rattle.std.specs.List.{position_or_len, range_with_len}
use Rattle.std.specs.Char.Utf16.{utf16_lossy_chars}
use Rattle.mail_codec.specs.Base64.{group_number}
use Rattle.mail_codec.specs.Charset.{Charsets, ascii_char, is_among_labels, replacement, trimmed_label}
use Rattle.mail_codec.specs.Front.{Taken, text_by}

-- a letter of Base64: A to Z, a to z, 0 to 9, + and /
abbrev pub is_letter : ℕ → Bool
is_letter byte =
    is_in_range 0x41 0x5A byte || is_in_range 0x61 0x7A byte || is_in_range 0x30 0x39 byte
    || (byte == 0x2B) || (byte == 0x2F)

-- the value of a letter (RFC 4648, table 1), and 0 for any other byte
abbrev pub letter_number : ℕ → ℕ
letter_number byte =
    if is_in_range 0x41 0x5A byte then byte - 0x41 else
    if is_in_range 0x61 0x7A byte then byte - 0x61 + 26 else
    if is_in_range 0x30 0x39 byte then byte - 0x30 + 52 else
    if byte == 0x2B then 62 else if byte == 0x2F then 63 else 0

-- the value of the letter at an offset, and 0 past the end
abbrev pub number_at : List ℕ → ℕ → ℕ
number_at letters offset = letter_number (slice_index letters offset)

-- the 24 bits of the four letters from an offset onwards
abbrev pub four_letters : List ℕ → ℕ → ℕ
four_letters letters offset =
    group_number (number_at letters offset) (number_at letters (offset + 1))
    (number_at letters (offset + 2)) (number_at letters (offset + 3))

-- The unit with this number, counted from 0: 16 bits, from bit 16 * number onwards. A letter has 6
-- bits, so the unit begins in the letter 16 * number / 6, after 16 * number % 6 bits of it.
unfoldable pub unit_at : List ℕ → ℕ → ℕ
unit_at letters number = four_letters letters (16 * number / 6) / 2 ^ (8 - 16 * number % 6) % 2 ^ 16

-- the number of whole units that letters have
abbrev pub units_count : List ℕ → ℕ
units_count letters = 6 * length letters / 16

-- whether fewer bits than a letter has are left after the last whole unit, and all of them are 0
abbrev pub ends_whole : List ℕ → Bool
ends_whole letters =
    nat_lt (6 * length letters % 16) 6 && (unit_at letters (units_count letters) == 0)

-- the characters of letters: those of their units in UTF-16, with U+FFFD for each unpaired
-- surrogate, and then U+FFFD unless they end in a whole unit
unfoldable pub letters_chars : List ℕ → List ℕ
letters_chars letters =
    utf16_lossy_chars (map (unit_at letters) (range_with_len 0 (units_count letters)))
    ++ (if ends_whole letters then [] else replacement ∷ [])

-- the characters of a plus with the letters after it, which a minus may close: a plus without
-- letters is itself if it is closed
abbrev pub shifted_chars : List ℕ → Bool → List ℕ
shifted_chars [] is_closed = if is_closed then 0x2B ∷ [] else replacement ∷ []
shifted_chars (letter ∷ letters) is_closed = letters_chars (letter ∷ letters)

-- the same for `count` letters at the front of bytes, and the number of bytes taken, including the
-- plus and a minus after the letters
abbrev pub shifted_by : ℕ → List ℕ → Taken
shifted_by count bytes =
    let is_closed = slice_index bytes count == 0x2D in
    (shifted_chars (take count bytes) is_closed, 1 + count + (if is_closed then 1 else 0))

-- the number of letters at the front of bytes
abbrev pub letters_length : List ℕ → ℕ
letters_length bytes = position_or_len (λ byte. not (is_letter byte)) bytes

-- the characters of a plus followed by these bytes, and the number of bytes taken, including the
-- plus
unfoldable pub shifted : List ℕ → Taken
shifted bytes = shifted_by (letters_length bytes) bytes

-- the characters at the front of bytes, and the number of bytes they take: a plus takes all letters
-- after it, any other ASCII byte is itself, and a byte from 80 to FF is invalid
unfoldable pub utf7_front : List ℕ → Taken
utf7_front bytes =
    if slice_index bytes 0 == 0x2B then shifted (drop 1 bytes)
    else (ascii_char (slice_index bytes 0) ∷ [], 1)

-- the text of bytes
abbrev pub utf7_text : List ℕ → List ℕ
utf7_text bytes = text_by utf7_front bytes

-- whether a byte is its own character: an ASCII byte other than the plus
abbrev pub is_direct : ℕ → Bool
is_direct byte = nat_lt byte 0x80 && not (byte == 0x2B)

-- the labels of UTF-7
abbrev pub utf_7_labels : List (List ℕ)
utf_7_labels = codes "csunicode11utf7" ∷ codes "unicode-1-1-utf-7" ∷ codes "utf-7" ∷ []

-- UTF-7 alone, under its labels
abbrev pub utf_7_charsets : Charsets
utf_7_charsets label =
    if is_among_labels utf_7_labels (trimmed_label label) then Some utf7_text else None
