-- ISO-2022-JP (the WHATWG Encoding Standard, section 12.2).
use Rattle.std.specs.Prelude.{ℕ, zero, suc, ◌+◌, ◌-◌, ◌*◌, true, false, ◌||◌, ◌==◌, nat_lt, List, [], ◌∷◌, ◌++◌, length, slice_index, Option, None, Some, encode_utf8_all, if◌then◌else◌}
use Rattle.std.specs.Int.{is_in_range}
use Rattle.mail_codec.specs.Charset.{replacement}
use Rattle.mail_codec.specs.Front.{Taken}
use Rattle.mail_charsets.specs.Front.{chars_at, fault, whole_or}
use Rattle.mail_charsets.specs.declared.iso_2022_jp.Mode.{Mode}
use Rattle.mail_charsets.specs.declared.iso_2022_jp.Mode.TheVariants.{Ascii, Roman, Katakana, Pairs}
use Rattle.mail_charsets.specs.declared.iso_2022_jp.State.{State}

-- the mode that an escape at the front selects: ESC and two more bytes
abbrev pub escape : List ℕ → Option Mode
escape bytes =
    let second = slice_index bytes 1 in let third = slice_index bytes 2 in
    if slice_index bytes 0 == 0x1B then
    (if second == 0x28 then
    (if third == 0x42 then Some Ascii else if third == 0x4A then Some Roman else if third == 0x49 then Some Katakana else None)
    else if second == 0x24 then (if (third == 0x40) || (third == 0x42) then Some Pairs else None)
    else None)
    else None

-- the character of an ASCII byte: SO, SI and ESC are invalid
abbrev pub ascii_or : ℕ → ℕ
ascii_or byte =
    if nat_lt byte 0x80 then (if (byte == 0x0E) || (byte == 0x0F) || (byte == 0x1B) then replacement else byte) else replacement

-- the same in the Roman mode, where 5C is the yen sign and 7E the overline
abbrev pub roman_or : ℕ → ℕ
roman_or byte = if byte == 0x5C then 0xA5 else if byte == 0x7E then 0x203E else ascii_or byte

-- in the katakana mode, the bytes 21 to 5F are half-width katakana, from U+FF61 onwards
abbrev pub katakana_or : ℕ → ℕ
katakana_or byte = if is_in_range 0x21 0x5F byte then 0xFF61 + (byte - 0x21) else replacement

-- the characters of two bytes, a row and a column of 94 in the index
abbrev pub jp_chars : List ℕ → ℕ → ℕ → List ℕ
jp_chars index row column = if is_in_range 0x21 0x7E column then chars_at index ((row - 0x21) * 94 + (column - 0x21)) else []

-- in the mode of pairs, a byte from 21 to 7E also takes the byte after it, unless that is an ESC or the bytes end
abbrev pub jp_pair : List ℕ → List ℕ → Taken
jp_pair index bytes =
    if is_in_range 0x21 0x7E (slice_index bytes 0) then
    (if nat_lt (length bytes) 2 then fault 1 else
    if slice_index bytes 1 == 0x1B then fault 1 else whole_or (jp_chars index (slice_index bytes 0) (slice_index bytes 1)) 2 2)
    else fault 1

-- the characters at the front in a mode, if there is no escape
abbrev pub jp_front : List ℕ → Mode → List ℕ → Taken
jp_front index Pairs bytes = jp_pair index bytes
jp_front index Ascii bytes = (ascii_or (slice_index bytes 0) ∷ [], 1)
jp_front index Roman bytes = (roman_or (slice_index bytes 0) ∷ [], 1)
jp_front index Katakana bytes = (katakana_or (slice_index bytes 0) ∷ [], 1)

-- the front, and the state after it: an escape right after an escape is U+FFFD
abbrev pub jp_step_by : Option Mode → List ℕ → State → List ℕ → Taken × State
jp_step_by (Some mode) index state bytes =
    (((if state.fresh then replacement ∷ [] else []), 3), record { mode = mode; fresh = true })
jp_step_by None index state bytes = (jp_front index state.mode bytes, record { mode = state.mode; fresh = false })

abbrev pub jp_step : List ℕ → State → List ℕ → Taken × State
jp_step index state bytes = jp_step_by (escape bytes) index state bytes

-- the characters of the bytes after the first `skipped` ones
abbrev pub jp_after : ℕ → List ℕ → State → List ℕ → List ℕ
jp_after skipped index state [] = []
jp_after zero index state (byte ∷ bytes) =
    let step = jp_step index state (byte ∷ bytes) in step.0.0 ++ jp_after (step.0.1 - 1) index step.1 bytes
jp_after (suc skipped) index state (byte ∷ bytes) = jp_after skipped index state bytes

-- the text of bytes, read from a state onwards
unfoldable pub jp_text_from : List ℕ → State → List ℕ → List ℕ
jp_text_from index state bytes = encode_utf8_all (jp_after 0 index state bytes)

-- the text of bytes, which begin in ASCII, under the index of JIS X 0208
abbrev pub iso_2022_jp_text : List ℕ → List ℕ → List ℕ
iso_2022_jp_text index bytes = jp_text_from index (record { mode = Ascii; fresh = false }) bytes
