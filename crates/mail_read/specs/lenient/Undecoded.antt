-- The text of a raw value in which types, dispositions and their parameters are read: its encoded words
-- stay as they are, so that none can end a parameter, begin one or be a boundary, a charset or a type.
-- `mailparse` leaves out all whitespace at the start of a line that continues a header (RFC 5322,
-- section 2.2.3); here that is whitespace of ASCII alone.
use Rattle.std.specs.Prelude.{ℕ, false, List, if◌then◌else◌}
use Rattle.std.specs.Char.{is_ascii}
use Rattle.std.specs.List.{list_all}
use Rattle.mailparse.specs.Value.{lenient_value_in}
use Rattle.mail_read.specs.Files.{no_charsets}
use Rattle.mail_read.specs.lenient.Names.{on_one_line}

-- a raw value that can be unfolded: on one line, if it is not ASCII
abbrev pub foldless : List ℕ → List ℕ
foldless value = if list_all is_ascii value then value else on_one_line false value

-- its text
abbrev pub undecoded : List ℕ → List ℕ
undecoded value = lenient_value_in no_charsets (foldless value)
