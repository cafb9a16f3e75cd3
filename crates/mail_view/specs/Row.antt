-- The description of a part as columns of text; the program's own form.
use Rattle.std.specs.Prelude.{ℕ, ◌-◌, Bool, true, false, List, ◌++◌, Option, Some, None, replicate, codes, chars, decimal}
use Rattle.mail_codec.specs.Ascii.{space}
use Rattle.unicode_width.specs.Width.{str_width}

-- a text with spaces after it, up to this number of columns of a terminal, and two more
abbrev pub padded : ℕ → List ℕ → List ℕ
padded columns text = text ++ (replicate (columns - str_width false (chars text)) space ++ codes "  ")

-- the size of a part, and whether it is damaged
abbrev pub size_text : ℕ → Bool → List ℕ
size_text size false = decimal size ++ codes " bytes"
size_text size true = decimal size ++ codes " bytes, damaged"

-- the size of a part, and then the name of its file, if it has one
abbrev pub size_and_name : List ℕ → Option (List ℕ) → List ℕ
size_and_name size None = size
size_and_name size (Some name) = padded 14 size ++ name

-- the description of a part, in columns: its path, its type, its size, and the name of its file
abbrev pub row : List ℕ → List ℕ → List ℕ → Option (List ℕ) → List ℕ
row path mimetype size name = padded 4 path ++ (padded 24 mimetype ++ size_and_name size name)
