-- Bodies that other programs may decode differently (RFC 2045, sections 6.7 and 6.8); this crate's own words.
use Rattle.std.specs.Prelude.{ℕ, Bool, true, false, ◌||◌, ◌==◌, List, [], ◌∷◌, if◌then◌else◌}
use Rattle.std.specs.Char.{is_ascii_alphanumeric}
use Rattle.mail_codec.specs.Ascii.{carriage_return, equals_sign, line_feed, slash}
use Rattle.mail_check.specs.declared.bodies.Base64State.{Base64State}
use Rattle.mail_check.specs.declared.bodies.Base64State.TheVariants.{Start, One, Two, Three, Whole, Return, Pad, Padded, End, EndReturn, Wrong}

-- a plus sign
abbrev pub plus_sign : ℕ
plus_sign = 43

-- a letter of Base64
abbrev pub is_letter : ℕ → Bool
is_letter b = is_ascii_alphanumeric b || (b == plus_sign || b == slash)

-- after the end of a line: the first state after a LF, the second after a CR
abbrev pub line_end_or_wrong : ℕ → Base64State → Base64State → Base64State
line_end_or_wrong b feed return =
    if b == line_feed then feed else (if b == carriage_return then return else Wrong)

-- The state after one more byte. A line is whole groups of four letters; the last line that is not empty may end in a group with
-- padding; after it, or after an empty line, there are only line ends.
abbrev pub after_byte : Base64State → ℕ → Base64State
after_byte Start b = if is_letter b then One else line_end_or_wrong b End EndReturn
after_byte One b = if is_letter b then Two else Wrong
after_byte Two b = if is_letter b then Three else (if b == equals_sign then Pad else Wrong)
after_byte Three b = if is_letter b then Whole else (if b == equals_sign then Padded else Wrong)
after_byte Whole b = if is_letter b then One else line_end_or_wrong b Start Return
after_byte Return b = if b == line_feed then Start else Wrong
after_byte Pad b = if b == equals_sign then Padded else Wrong
after_byte Padded b = line_end_or_wrong b End EndReturn
after_byte End b = line_end_or_wrong b End EndReturn
after_byte EndReturn b = if b == line_feed then End else Wrong
after_byte Wrong b = Wrong

-- the state after some bytes
abbrev pub after_bytes : Base64State → List ℕ → Base64State
after_bytes state [] = state
after_bytes state (b ∷ bytes) = after_bytes (after_byte state b) bytes

-- a body may end in this state
abbrev pub may_end : Base64State → Bool
may_end Start = true
may_end Whole = true
may_end Padded = true
may_end End = true
may_end _ = false

-- a body is lines of whole groups with padding at its end alone
unfoldable pub is_base64_lines : List ℕ → Bool
is_base64_lines bytes = may_end (after_bytes Start bytes)
