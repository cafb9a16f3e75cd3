-- Big5 (the WHATWG Encoding Standard, section 11.1).
use Rattle.std.specs.Prelude.{ℕ, ◌+◌, ◌-◌, ◌*◌, Bool, ◌||◌, ◌==◌, nat_lt, List, [], ◌∷◌, slice_index, Option, None, Some, if◌then◌else◌}
use Rattle.std.specs.Int.{is_in_range}
use Rattle.mail_codec.specs.Charset.{replacement}
use Rattle.mail_codec.specs.Front.{Taken, text_by}
use Rattle.mail_charsets.specs.Front.{code_chars, front_by, no_long}

-- the bytes 81 to FE are lead bytes, and 80 and FF are invalid
abbrev pub big5_single : ℕ → Option ℕ
big5_single byte = if is_in_range 0x81 0xFE byte then None else Some replacement

-- a trail byte is 40 to 7E or A1 to FE
abbrev pub big5_is_trail : ℕ → Bool
big5_is_trail byte = is_in_range 0x40 0x7E byte || is_in_range 0xA1 0xFE byte

-- the column of a trail byte
abbrev pub big5_column : ℕ → ℕ
big5_column trail = if nat_lt trail 0x7F then trail - 0x40 else trail - 0x62

-- The characters of an entry of the index: D800 + n refers to entry n of the second index, which has the last four digits of a character
-- from U+20000 onwards.
abbrev pub big5_entry_chars : List ℕ → ℕ → List ℕ
big5_entry_chars plane entry =
    if is_in_range 0xD800 0xDFFF entry then (0x20000 + slice_index plane (entry - 0xD800)) ∷ [] else code_chars entry

-- the characters at a pointer: four pointers have two
abbrev pub big5_chars : List ℕ → List ℕ → ℕ → List ℕ
big5_chars index plane pointer =
    if pointer == 1133 then 0xCA ∷ 0x304 ∷ [] else
    if pointer == 1135 then 0xCA ∷ 0x30C ∷ [] else
    if pointer == 1164 then 0xEA ∷ 0x304 ∷ [] else
    if pointer == 1166 then 0xEA ∷ 0x30C ∷ [] else
    big5_entry_chars plane (slice_index index pointer)

-- the index has 157 pointers for each lead byte
abbrev pub big5_pair : List ℕ → List ℕ → ℕ → ℕ → List ℕ
big5_pair index plane lead trail =
    if big5_is_trail trail then big5_chars index plane ((lead - 0x81) * 157 + big5_column trail) else []

-- the characters at the front of bytes, and the number of bytes they take
abbrev pub big5_front : List ℕ → List ℕ → List ℕ → Taken
big5_front index plane = front_by no_long big5_single (big5_pair index plane)

-- the text of bytes under the two indexes
abbrev pub big5_text : List ℕ → List ℕ → List ℕ → List ℕ
big5_text index plane = text_by (big5_front index plane)
