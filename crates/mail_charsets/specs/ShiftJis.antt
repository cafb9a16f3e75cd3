-- Shift_JIS (the WHATWG Encoding Standard, section 12.3).
use Rattle.std.specs.Prelude.{ℕ, ◌+◌, ◌-◌, ◌*◌, Bool, ◌||◌, ◌==◌, nat_lt, List, [], ◌∷◌, Option, None, Some, if◌then◌else◌}
use Rattle.std.specs.Int.{is_in_range}
use Rattle.mail_codec.specs.Charset.{replacement}
use Rattle.mail_codec.specs.Front.{Taken, text_by}
use Rattle.mail_charsets.specs.Front.{chars_at, column, front_by, no_long}

-- a lead byte is 81 to 9F or E0 to FC
abbrev pub shift_jis_is_lead : ℕ → Bool
shift_jis_is_lead byte = is_in_range 0x81 0x9F byte || is_in_range 0xE0 0xFC byte

-- of the other bytes from 80 to FF, 80 is itself, A1 to DF are half-width katakana from U+FF61 onwards, and the rest are invalid
abbrev pub shift_jis_single : ℕ → Option ℕ
shift_jis_single byte =
    if shift_jis_is_lead byte then None else
    if is_in_range 0xA1 0xDF byte then Some (0xFF61 + (byte - 0xA1)) else
    if byte == 0x80 then Some 0x80 else Some replacement

-- a trail byte is 40 to 7E or 80 to FC
abbrev pub shift_jis_is_trail : ℕ → Bool
shift_jis_is_trail byte = is_in_range 0x40 0x7E byte || is_in_range 0x80 0xFC byte

-- the row of a lead byte
abbrev pub shift_jis_row : ℕ → ℕ
shift_jis_row lead = if nat_lt lead 0xA0 then lead - 0x81 else lead - 0xC1

-- the characters at a pointer: those from 8836 to 10715 are for private use, from U+E000 onwards
abbrev pub shift_jis_chars : List ℕ → ℕ → List ℕ
shift_jis_chars index pointer = if is_in_range 8836 10715 pointer then (0xE000 + (pointer - 8836)) ∷ [] else chars_at index pointer

-- the index has 188 pointers for each lead byte
abbrev pub shift_jis_pair : List ℕ → ℕ → ℕ → List ℕ
shift_jis_pair index lead trail =
    if shift_jis_is_trail trail then shift_jis_chars index (shift_jis_row lead * 188 + column trail) else []

-- the characters at the front of bytes, and the number of bytes they take
abbrev pub shift_jis_front : List ℕ → List ℕ → Taken
shift_jis_front index = front_by no_long shift_jis_single (shift_jis_pair index)

-- the text of bytes under the index of JIS X 0208
abbrev pub shift_jis_text : List ℕ → List ℕ → List ℕ
shift_jis_text index = text_by (shift_jis_front index)
