-- Lines among headers that are no headers; the program's own rule.
use Rattle.std.specs.Prelude.{ℕ, Bool, true, false, ◌||◌, ◌==◌, List, [], ◌∷◌, if◌then◌else◌}
use Rattle.mail_codec.specs.Ascii.{carriage_return, colon, is_blank, line_feed}
use Rattle.mail_extract.specs.declared.stray.LineState.{LineState}
use Rattle.mail_extract.specs.declared.stray.LineState.TheVariants.{Start, Name, Rest, Stray}

-- at the start of a line: a line that begins with a blank continues a header, and one without bytes or with a CR alone ends the headers
abbrev pub after_start : ℕ → LineState
after_start b = if b == line_feed then Start else (if is_blank b || (b == carriage_return || b == colon) then Rest else Name)

-- The state after one more byte. A line is no header if it ends before its first colon.
abbrev pub after_byte : LineState → ℕ → LineState
after_byte Start b = after_start b
after_byte Name b = if b == line_feed then Stray else (if b == colon then Rest else Name)
after_byte Rest b = if b == line_feed then Start else Rest
after_byte Stray b = Stray

-- the state after some bytes
abbrev pub after_bytes : LineState → List ℕ → LineState
after_bytes state [] = state
after_bytes state (b ∷ bytes) = after_bytes (after_byte state b) bytes

-- a line was no header, or the last one has no colon
abbrev pub is_stray : LineState → Bool
is_stray Start = false
is_stray Name = true
is_stray Rest = false
is_stray Stray = true

-- a line of a block of headers has no colon, and neither continues a header nor ends the block
unfoldable pub has_stray_line : List ℕ → Bool
has_stray_line block = is_stray (after_bytes Start block)
