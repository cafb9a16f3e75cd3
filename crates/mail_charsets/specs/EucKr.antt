-- EUC-KR (the WHATWG Encoding Standard, section 13.1).
use Rattle.std.specs.Prelude.{ℕ, ◌+◌, ◌-◌, ◌*◌, List, [], Option, None, Some, if◌then◌else◌}
use Rattle.std.specs.Int.{is_in_range}
use Rattle.mail_codec.specs.Charset.{replacement}
use Rattle.mail_codec.specs.Front.{Taken, text_by}
use Rattle.mail_charsets.specs.Front.{chars_at, front_by, no_long}

-- the bytes 81 to FE are lead bytes, and 80 and FF are invalid
abbrev pub euc_kr_single : ℕ → Option ℕ
euc_kr_single byte = if is_in_range 0x81 0xFE byte then None else Some replacement

-- a trail byte is 41 to FE, and the index has 190 pointers for each lead byte
abbrev pub euc_kr_pair : List ℕ → ℕ → ℕ → List ℕ
euc_kr_pair index lead trail = if is_in_range 0x41 0xFE trail then chars_at index ((lead - 0x81) * 190 + (trail - 0x41)) else []

-- the characters at the front of bytes, and the number of bytes they take
abbrev pub euc_kr_front : List ℕ → List ℕ → Taken
euc_kr_front index = front_by no_long euc_kr_single (euc_kr_pair index)

-- the text of bytes under an index
abbrev pub euc_kr_text : List ℕ → List ℕ → List ℕ
euc_kr_text index = text_by (euc_kr_front index)
