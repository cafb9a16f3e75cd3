-- Names that are cut out of headers, of people and of files, read leniently: they are shown on one line, and their encoded words are
-- decoded as those of a header's value are (RFC 2047, sections 2 and 4). The crate's own rule.
use Rattle.std.specs.Prelude.{ℕ, Bool, true, false, ◌&&◌, ◌||◌, ◌==◌, List, [], ◌∷◌, ◌++◌, if◌then◌else◌}
use Rattle.std.specs.Char.{is_ascii_whitespace}
use Rattle.mail_codec.specs.Ascii.{carriage_return, line_feed, space}
use Rattle.mail_codec.specs.Charset.{Charsets}
use Rattle.mail_read.specs.lenient.Values.{header_text}

-- a CR or a LF
abbrev pub is_line_end : ℕ → Bool
is_line_end b = b == carriage_return || b == line_feed

-- a byte, with a space in front if the end of a line is before it
abbrev pub after_end : Bool → ℕ → List ℕ
after_end ended b = if ended then space ∷ b ∷ [] else b ∷ []

-- the bytes on one line: between two of them, a CR or a LF with the whitespace after it is one space; the end of a line is before
-- the first byte or not
abbrev pub on_one_line : Bool → List ℕ → List ℕ
on_one_line ended [] = []
on_one_line ended (b ∷ rest) =
    if is_line_end b || (ended && is_ascii_whitespace b) then on_one_line true rest
    else after_end ended b ++ on_one_line false rest

-- the text of a name, under the charsets that are known
unfoldable pub name_text : Charsets → List ℕ → List ℕ
name_text known name = header_text known (on_one_line false name)
