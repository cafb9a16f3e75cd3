-- JSON text of strings and numbers (RFC 8259, sections 6 and 7), as this program writes them.
use Rattle.std.specs.Prelude.{ℕ, zero, suc, ◌^◌, ◌+◌, ◌-◌, ◌*◌, ◌/◌, ◌%◌, min, ℤ, pos, negsuc, Bool, ◌&&◌, ◌||◌, not, ◌==◌, nat_lt, List, [], ◌∷◌, ◌++◌, codes, decimal, slice_index, if◌then◌else◌}
use Rattle.std.specs.Char.{digit_char, encode_utf8}
use Rattle.json.specs.Print.{escape_byte}
use Rattle.mail_codec.specs.Hidden.{is_hidden, is_no_character}

-- the number of the character with which bytes begin in UTF-8, if it has two bytes; if it has three, the first of which
-- is E2
abbrev pub two_number : List ℕ → ℕ
two_number bytes = (slice_index bytes 0 % 32) * 64 + slice_index bytes 1 % 64

abbrev pub three_number : List ℕ → ℕ
three_number bytes = 8192 + (slice_index bytes 1 % 64) * 64 + slice_index bytes 2 % 64

-- the bytes begin with a hidden character of two bytes, the first of which is then C2 or D8; of three bytes, the first two
-- of which are then E2 80 or E2 81
abbrev pub begins_two : List ℕ → Bool
begins_two bytes =
    (slice_index bytes 0 == 194 || slice_index bytes 0 == 216)
    && (slice_index bytes 1 / 64 == 2 && is_hidden (two_number bytes))

abbrev pub begins_three : List ℕ → Bool
begins_three bytes =
    slice_index bytes 0 == 226
    && ((slice_index bytes 1 == 128 || slice_index bytes 1 == 129)
    && (slice_index bytes 2 / 64 == 2 && is_hidden (three_number bytes)))

-- `\u` and the hexadecimal digits of two bytes
abbrev pub unicode_escape : ℕ → ℕ → List ℕ
unicode_escape upper lower =
    codes "\\u" ++ (digit_char (upper / 16) ∷ digit_char (upper % 16) ∷ digit_char (lower / 16) ∷ digit_char (lower % 16) ∷ [])

-- `\u` and the number of a character in four hexadecimal digits
abbrev pub four_digits : ℕ → List ℕ
four_digits c = unicode_escape (c / 256) (c % 256)

-- the text of a byte: `"`, `\`, a control and DEL have the shortest escape, any other byte is itself
abbrev pub byte_text : ℕ → List ℕ
byte_text b = if b == 127 then unicode_escape 0 b else escape_byte b

-- the text of the first byte; or of the whole character, if the bytes begin with a hidden one that is not in ASCII
unfoldable pub first_text : List ℕ → List ℕ
first_text bytes =
    if begins_two bytes then four_digits (two_number bytes) else
    if begins_three bytes then four_digits (three_number bytes) else
    byte_text (slice_index bytes 0)

-- the number of bytes after the first that this text is for
unfoldable pub more_bytes : List ℕ → ℕ
more_bytes bytes = if begins_two bytes then 1 else if begins_three bytes then 2 else 0

-- the text of the bytes after the first k; of all
unfoldable pub escaped_after : ℕ → List ℕ → List ℕ
escaped_after k [] = []
escaped_after zero (b ∷ bytes) = first_text (b ∷ bytes) ++ escaped_after (more_bytes (b ∷ bytes)) bytes
escaped_after (suc k) (b ∷ bytes) = escaped_after k bytes

abbrev pub escaped : List ℕ → List ℕ
escaped bytes = escaped_after 0 bytes

-- a string: its text within quotation marks
unfoldable pub json_text : List ℕ → List ℕ
json_text text = 34 ∷ (escaped text ++ 34 ∷ [])

-- ---- the same by characters

-- the text of a character: that of its byte if it is in ASCII, its number if it is a hidden character, otherwise itself
unfoldable pub character_text : ℕ → List ℕ
character_text c =
    if nat_lt c 128 then byte_text c else
    if is_hidden c && not (is_no_character c) then four_digits c else encode_utf8 c

-- ---- numbers

-- a number in decimal digits, or the greatest of 64 bits, which no size and no offset of an input exceeds
unfoldable pub number_text : ℕ → List ℕ
number_text n = decimal (min n (2 ^ 64 - 1))

-- seconds in decimal digits, within 64 bits with a sign, which no date exceeds
unfoldable pub seconds_text : ℤ → List ℕ
seconds_text (pos n) = decimal (min n (2 ^ 63 - 1))
seconds_text (negsuc n) = codes "-" ++ decimal (min (suc n) (2 ^ 63))
