-- EUC-JP (the WHATWG Encoding Standard, section 12.1).
use Rattle.std.specs.Prelude.{ℕ, ◌+◌, ◌-◌, ◌*◌, Bool, ◌||◌, ◌&&◌, ◌==◌, nat_lt, List, [], ◌∷◌, length, slice_index, Option, None, Some, if◌then◌else◌}
use Rattle.std.specs.Int.{is_in_range}
use Rattle.mail_codec.specs.Charset.{replacement}
use Rattle.mail_codec.specs.Front.{Taken, text_by}
use Rattle.mail_charsets.specs.Front.{chars_at, fault, faulty, front_by, whole_or}

-- a lead byte is 8E, 8F or A1 to FE
abbrev pub euc_jp_is_lead : ℕ → Bool
euc_jp_is_lead byte = is_in_range 0x8E 0x8F byte || is_in_range 0xA1 0xFE byte

-- the other bytes from 80 to FF are invalid
abbrev pub euc_jp_single : ℕ → Option ℕ
euc_jp_single byte = if euc_jp_is_lead byte then None else Some replacement

-- a row and a column are A1 to FE
abbrev pub is_cell : ℕ → ℕ → Bool
is_cell row column = is_in_range 0xA1 0xFE row && is_in_range 0xA1 0xFE column

-- the characters of a row and a column of 94 in an index
abbrev pub euc_jp_chars : List ℕ → ℕ → ℕ → List ℕ
euc_jp_chars index row column =
    if is_cell row column then chars_at index ((row - 0xA1) * 94 + (column - 0xA1)) else []

-- after 8E, a byte from A1 to DF is half-width katakana, from U+FF61 onwards
abbrev pub is_katakana : ℕ → ℕ → Bool
is_katakana lead trail = (lead == 0x8E) && is_in_range 0xA1 0xDF trail

-- the characters of a pair
abbrev pub euc_jp_pair : List ℕ → ℕ → ℕ → List ℕ
euc_jp_pair index lead trail =
    if is_katakana lead trail then (0xFF61 + (trail - 0xA1)) ∷ [] else euc_jp_chars index lead trail

-- 8F and a byte from A1 to FE begin three bytes
abbrev pub begins_three : List ℕ → Bool
begins_three bytes = (slice_index bytes 0 == 0x8F) && is_in_range 0xA1 0xFE (slice_index bytes 1)

-- the characters of three bytes are those of JIS X 0212; otherwise an ASCII byte at the end is read again
abbrev pub euc_jp_long : List ℕ → List ℕ → Option Taken
euc_jp_long second bytes =
    if begins_three bytes
    then Some (if nat_lt (length bytes) 3 then fault 2 else
    whole_or (euc_jp_chars second (slice_index bytes 1) (slice_index bytes 2)) 3 (faulty (slice_index bytes 2) 3))
    else None

-- the characters at the front of bytes, and the number of bytes they take
abbrev pub euc_jp_front : List ℕ → List ℕ → List ℕ → Taken
euc_jp_front index second = front_by (euc_jp_long second) euc_jp_single (euc_jp_pair index)

-- the text of bytes under the indexes of JIS X 0208 and JIS X 0212
abbrev pub euc_jp_text : List ℕ → List ℕ → List ℕ → List ℕ
euc_jp_text index second = text_by (euc_jp_front index second)
