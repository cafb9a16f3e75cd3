-- GBK and gb18030, which decode alike (the WHATWG Encoding Standard, sections 10.1 and 10.2).
use Rattle.std.specs.Prelude.{ℕ, ◌+◌, ◌-◌, ◌*◌, Bool, ◌||◌, ◌==◌, nat_lt, nat_le, List, [], ◌∷◌, length, slice_index, Option, None, Some, if◌then◌else◌}
use Rattle.std.specs.Int.{is_in_range}
use Rattle.mail_codec.specs.Charset.{replacement}
use Rattle.mail_codec.specs.Front.{Taken, text_by}
use Rattle.mail_charsets.specs.Front.{chars_at, code_chars, column, fault, front_by, whole_or}

-- the bytes 81 to FE are lead bytes, 80 is the euro sign, and FF is invalid
abbrev pub gb18030_single : ℕ → Option ℕ
gb18030_single byte = if is_in_range 0x81 0xFE byte then None else if byte == 0x80 then Some 0x20AC else Some replacement

-- a trail byte is 40 to 7E or 80 to FE
abbrev pub gb18030_is_trail : ℕ → Bool
gb18030_is_trail byte = is_in_range 0x40 0x7E byte || is_in_range 0x80 0xFE byte

-- the index has 190 pointers for each lead byte
abbrev pub gb18030_pair : List ℕ → ℕ → ℕ → List ℕ
gb18030_pair index lead trail =
    if gb18030_is_trail trail then chars_at index ((lead - 0x81) * 190 + column trail) else []

-- the pointer of four bytes
abbrev pub four_pointer : List ℕ → ℕ
four_pointer bytes =
    (((slice_index bytes 0 - 0x81) * 10 + (slice_index bytes 1 - 0x30)) * 126 + (slice_index bytes 2 - 0x81)) * 10
    + (slice_index bytes 3 - 0x30)

-- The ranges are pointers in ascending order, each with its character: the code at a pointer, counted from the last range that begins at
-- it or before it, or `other` if none does.
abbrev pub range_code : List (ℕ × ℕ) → ℕ → ℕ → ℕ
range_code [] other pointer = other
range_code (range ∷ ranges) other pointer =
    if nat_le range.0 pointer then range_code ranges (range.1 + (pointer - range.0)) pointer else other

-- the characters at a pointer of four bytes: the ranges serve up to 39419, and U+10000 to U+10FFFF are from 189000 onwards
abbrev pub four_chars : List (ℕ × ℕ) → ℕ → List ℕ
four_chars ranges pointer =
    if pointer == 7457 then 0xE7C7 ∷ [] else
    if nat_lt pointer 39420 then code_chars (range_code ranges 0 pointer) else
    if is_in_range 189000 1237575 pointer then (0x10000 + (pointer - 189000)) ∷ [] else []

-- Four bytes, of which the second is 30 to 39: the third must be 81 to FE and the fourth 30 to 39, or else the first alone is invalid. If
-- the bytes end too early to know, they are invalid together.
abbrev pub gb18030_four : List (ℕ × ℕ) → List ℕ → Taken
gb18030_four ranges bytes =
    if nat_lt (length bytes) 3 then fault 2 else
    if is_in_range 0x81 0xFE (slice_index bytes 2)
    then (if nat_lt (length bytes) 4 then fault 3 else
    if is_in_range 0x30 0x39 (slice_index bytes 3) then whole_or (four_chars ranges (four_pointer bytes)) 4 4 else fault 1)
    else fault 1

-- a lead byte and a byte from 30 to 39 begin four bytes
abbrev pub gb18030_long : List (ℕ × ℕ) → List ℕ → Option Taken
gb18030_long ranges bytes = if is_in_range 0x30 0x39 (slice_index bytes 1) then Some (gb18030_four ranges bytes) else None

-- the characters at the front of bytes, and the number of bytes they take
abbrev pub gb18030_front : List ℕ → List (ℕ × ℕ) → List ℕ → Taken
gb18030_front index ranges = front_by (gb18030_long ranges) gb18030_single (gb18030_pair index)

-- the text of bytes under an index and ranges
abbrev pub gb18030_text : List ℕ → List (ℕ × ℕ) → List ℕ → List ℕ
gb18030_text index ranges = text_by (gb18030_front index ranges)
