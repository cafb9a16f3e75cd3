-- The four built-in charsets, their labels and the text of bytes in each (the WHATWG Encoding
-- Standard, sections 4.2, 6, 8.1.1, 9.1 and 14), and the text of bytes under an unknown label,
-- which is the crate's own rule.
use Rattle.std.specs.Prelude.{ℕ, ◌+◌, ◌-◌, ◌*◌, Bool, true, false, not, ◌&&◌, List, [], ◌∷◌, ◌++◌, map, drop, length, slice_index, nat_eq, nat_lt, Option, option_map, find, codes, encode_utf8_all, if◌then◌else◌}
use Rattle.std.specs.Int.{is_in_range}
use Rattle.std.specs.List.{list_any, starts_with}
use Rattle.std.specs.Option.{option_map_or, option_or}
use Rattle.std.specs.Char.{is_ascii_whitespace}
use Rattle.std.specs.Char.Utf16.{is_high_surrogate, utf16_lossy_chars}
use Rattle.std.specs.Str.{str_eq_ignore_ascii_case}
use Rattle.std.specs.Str.Lossy.{utf8_lossy}
use Rattle.mail_codec.specs.Places.{trimmed_at_start, trimmed_at_end}
use Rattle.mail_codec.specs.declared.charset.built_in.Charset.{Charset}
use Rattle.mail_codec.specs.declared.charset.built_in.Charset.TheVariants.{Utf8, Windows1252, Utf16Le, Utf16Be}

-- the character that replaces invalid bytes
abbrev pub replacement : ℕ
replacement = 0xFFFD

-- Labels (section 4.2).

-- the labels of UTF-8
abbrev pub utf_8_labels : List (List ℕ)
utf_8_labels = codes "unicode-1-1-utf-8" ∷ codes "unicode11utf8" ∷ codes "unicode20utf8"
    ∷ codes "utf-8" ∷ codes "utf8" ∷ codes "x-unicode20utf8" ∷ []

-- the labels of windows-1252
abbrev pub windows_1252_labels : List (List ℕ)
windows_1252_labels =
    codes "ansi_x3.4-1968" ∷ codes "ascii" ∷ codes "cp1252" ∷ codes "cp819" ∷ codes "csisolatin1"
    ∷ codes "ibm819" ∷ codes "iso-8859-1" ∷ codes "iso-ir-100" ∷ codes "iso8859-1"
    ∷ codes "iso88591" ∷ codes "iso_8859-1" ∷ codes "iso_8859-1:1987" ∷ codes "l1"
    ∷ codes "latin1" ∷ codes "us-ascii" ∷ codes "windows-1252" ∷ codes "x-cp1252" ∷ []

-- the labels of UTF-16 with the high byte first
abbrev pub utf_16be_labels : List (List ℕ)
utf_16be_labels = codes "unicodefffe" ∷ codes "utf-16be" ∷ []

-- the labels of UTF-16 with the low byte first
abbrev pub utf_16le_labels : List (List ℕ)
utf_16le_labels = codes "csunicode" ∷ codes "iso-10646-ucs-2" ∷ codes "ucs-2" ∷ codes "unicode"
    ∷ codes "unicodefeff" ∷ codes "utf-16" ∷ codes "utf-16le" ∷ []

-- each charset with its labels
abbrev pub labels_by_charset : List (Charset × List (List ℕ))
labels_by_charset =
    (Utf8, utf_8_labels) ∷ (Windows1252, windows_1252_labels)
    ∷ (Utf16Be, utf_16be_labels) ∷ (Utf16Le, utf_16le_labels) ∷ []

-- the label without ASCII whitespace (space, tab, LF, FF, CR) at its start and at its end
abbrev pub trimmed_label : List ℕ → List ℕ
trimmed_label label =
    trimmed_at_end is_ascii_whitespace (trimmed_at_start is_ascii_whitespace label)

-- whether the label is one of the labels, ignoring ASCII case
unfoldable pub is_among_labels : List (List ℕ) → List ℕ → Bool
is_among_labels labels label = list_any (λ known. str_eq_ignore_ascii_case label known) labels

-- the charset that has the label, after trimming it at both ends
unfoldable pub charset_of_label : List ℕ → Option Charset
charset_of_label label =
    option_map (λ row. row.0)
    (find (λ row. is_among_labels row.1 (trimmed_label label)) labels_by_charset)

-- One byte, one character (section 9.1).

-- the character of a byte in a charset that has these characters for the bytes 80 to FF: a byte
-- below 80 is the character with its number
abbrev pub single_byte_char : List ℕ → ℕ → ℕ
single_byte_char high byte = if nat_lt byte 0x80 then byte else slice_index high (byte - 0x80)

-- the characters of the bytes 80 to 9F in windows-1252
abbrev pub windows_1252_row : List ℕ
windows_1252_row =
    0x20AC ∷ 0x0081 ∷ 0x201A ∷ 0x0192 ∷ 0x201E ∷ 0x2026 ∷ 0x2020 ∷ 0x2021
    ∷ 0x02C6 ∷ 0x2030 ∷ 0x0160 ∷ 0x2039 ∷ 0x0152 ∷ 0x008D ∷ 0x017D ∷ 0x008F
    ∷ 0x0090 ∷ 0x2018 ∷ 0x2019 ∷ 0x201C ∷ 0x201D ∷ 0x2022 ∷ 0x2013 ∷ 0x2014
    ∷ 0x02DC ∷ 0x2122 ∷ 0x0161 ∷ 0x203A ∷ 0x0153 ∷ 0x009D ∷ 0x017E ∷ 0x0178 ∷ []

-- the character of a byte in windows-1252: any other byte is the character with its number
abbrev pub windows_1252_char : ℕ → ℕ
windows_1252_char byte =
    if is_in_range 0x80 0x9F byte then slice_index windows_1252_row (byte - 0x80) else byte

-- the character of an ASCII byte, and U+FFFD for any other byte
abbrev pub ascii_char : ℕ → ℕ
ascii_char byte = if nat_lt byte 0x80 then byte else replacement

-- UTF-16 (section 14).

-- the unit of two bytes, the low one first
abbrev pub low_first : ℕ → ℕ → ℕ
low_first first second = second * 256 + first

-- the unit of two bytes, the high one first
abbrev pub high_first : ℕ → ℕ → ℕ
high_first first second = first * 256 + second

-- the units of the bytes, two bytes each in this order, without an odd last byte
abbrev pub units : (ℕ → ℕ → ℕ) → List ℕ → List ℕ
units order [] = []
units order (first ∷ []) = []
units order (first ∷ second ∷ bytes) = order first second ∷ units order bytes

-- whether the number of bytes is odd
abbrev pub has_odd_end : List ℕ → Bool
has_odd_end [] = false
has_odd_end (first ∷ []) = true
has_odd_end (first ∷ second ∷ bytes) = has_odd_end bytes

-- whether the last unit is a high surrogate
abbrev pub ends_in_high : List ℕ → Bool
ends_in_high [] = false
ends_in_high (unit ∷ []) = is_high_surrogate unit
ends_in_high (unit ∷ next ∷ more) = ends_in_high (next ∷ more)

-- the characters of UTF-16: those of the units, with U+FFFD for each unpaired surrogate, and then
-- U+FFFD for an odd last byte, unless it directly follows a high surrogate, whose U+FFFD replaces
-- both
abbrev pub utf_16_chars : (ℕ → ℕ → ℕ) → List ℕ → List ℕ
utf_16_chars order bytes = utf16_lossy_chars (units order bytes)
    ++ (if has_odd_end bytes && not (ends_in_high (units order bytes))
    then replacement ∷ [] else [])

-- The text of bytes, in UTF-8.

-- the text of bytes in a charset; a byte order mark is read like any other bytes
unfoldable pub text_of : Charset → List ℕ → List ℕ
text_of Utf8 bytes = utf8_lossy bytes
text_of Windows1252 bytes = encode_utf8_all (map windows_1252_char bytes)
text_of Utf16Le bytes = encode_utf8_all (utf_16_chars low_first bytes)
text_of Utf16Be bytes = encode_utf8_all (utf_16_chars high_first bytes)

-- each charset that has a byte order mark, with its mark (section 6)
abbrev pub byte_order_marks : List (Charset × List ℕ)
byte_order_marks =
    (Utf8, 0xEF ∷ 0xBB ∷ 0xBF ∷ []) ∷ (Utf16Be, 0xFE ∷ 0xFF ∷ []) ∷ (Utf16Le, 0xFF ∷ 0xFE ∷ []) ∷ []

-- the charset of the byte order mark that the bytes begin with, and the length of the mark
abbrev pub mark_at_start : List ℕ → Option (Charset × ℕ)
mark_at_start bytes =
    option_map {U = Charset × ℕ} (λ mark. (mark.0, length mark.1))
    (find (λ mark. starts_with nat_eq bytes mark.1) byte_order_marks)

-- the text of bytes in a charset that is read by `reading`; a byte order mark is removed and
-- overrides the charset
abbrev pub marked : (List ℕ → List ℕ) → List ℕ → List ℕ
marked reading bytes =
    option_map_or (λ mark. text_of mark.0 (drop mark.1 bytes)) (mark_at_start bytes) (reading bytes)

-- the same in one of the four charsets
unfoldable pub marked_text_of : Charset → List ℕ → List ℕ
marked_text_of charset bytes = marked (text_of charset) bytes

-- the text of bytes under an unknown label: ASCII, with U+FFFD for each other byte
abbrev pub ascii_text : List ℕ → List ℕ
ascii_text bytes = encode_utf8_all (map ascii_char bytes)

-- The charsets that a reader knows, by label: the text of bytes in the charset that has the label,
-- if one has it. Byte order marks are not considered.
abbrev pub Charsets : Type 0
Charsets = List ℕ → Option (List ℕ → List ℕ)

-- the four charsets above
abbrev pub four_charsets : Charsets
four_charsets label = option_map text_of (charset_of_label label)

-- the charsets that two values know together: under each label the one that the first knows, or
-- else the one that the second knows
abbrev pub known_by_either : Charsets → Charsets → Charsets
known_by_either first second label = option_or (first label) (second label)
