-- Uuencoded files within a text (POSIX.1, `uuencode`), and how those of other encoders and damaged
-- ones are read, which is this crate's own rule.
use Rattle.std.specs.Prelude.{ℕ, zero, suc, ◌+◌, ◌-◌, ◌*◌, ◌/◌, ◌%◌, ◌==◌, Bool, ◌&&◌, ◌||◌, nat_lt, min, if◌then◌else◌, List, [], ◌∷◌, ◌++◌, length, take, drop, slice_index, codes, Option, Some, None, option_map}
use Rattle.std.specs.Char.{is_ascii_whitespace}
use Rattle.std.specs.Int.{is_in_range}
use Rattle.std.specs.List.{before_first, flat_map, list_all, prefix_len, slice_split, suffix_len}
use Rattle.mail_codec.specs.Ascii.{carriage_return, line_feed, space}
use Rattle.mail_codec.specs.Base64.{group_number, three_bytes}
use Rattle.mail_codec.specs.Places.{has_prefix}

-- ---- a line of the data

-- a backtick, which newer encoders write for 0 since servers remove blanks at the end of a line
abbrev pub backtick : ℕ
backtick = 96

-- a letter: a byte from the space to the backtick; or a CR, which is one of the line's end
abbrev pub is_letter : ℕ → Bool
is_letter b = is_in_range space backtick b || b == carriage_return

-- the value of a letter: 0 to 63 from the space to `_`, and 0 for a backtick and a CR
abbrev pub letter_value : ℕ → ℕ
letter_value b = if is_in_range space backtick b then (b - space) % 64 else 0

-- the value of the letter at an offset; one that is missing at the end of the line counts as 0
abbrev pub value_at : List ℕ → ℕ → ℕ
value_at text offset = letter_value (slice_index text offset)

-- the three bytes of the first four letters
unfoldable pub first_bytes : List ℕ → List ℕ
first_bytes text =
    three_bytes (group_number (value_at text 0) (value_at text 1) (value_at text 2) (value_at text 3))

-- this many bytes of letters, three of every four
abbrev pub bytes_of : ℕ → List ℕ → List ℕ
bytes_of zero text = []
bytes_of (suc zero) text = take 1 (first_bytes text)
bytes_of (suc (suc zero)) text = take 2 (first_bytes text)
bytes_of (suc (suc (suc count))) text = first_bytes text ++ bytes_of count (drop 4 text)

-- the number of bytes that a line encodes, which its first letter gives; an empty line encodes none
abbrev pub bytes_count : List ℕ → ℕ
bytes_count line = value_at line 0

-- the number of bytes of a line that its own bytes need: the first letter, and four for every three
-- bytes; what follows, such as a checksum, is ignored
abbrev pub needed : List ℕ → ℕ
needed line = 1 + (bytes_count line + 2) / 3 * 4

-- a line of data: those of the bytes needed that it has are letters
unfoldable pub is_data : List ℕ → Bool
is_data line = list_all is_letter (take (needed line) line)

-- the bytes that a line encodes
unfoldable pub line_bytes : List ℕ → List ℕ
line_bytes line = bytes_of (bytes_count line) (drop 1 line)

-- ---- the data

abbrev pub is_lf : ℕ → Bool
is_lf b = b == line_feed

-- the lines of a text, without the LF after each but the last
abbrev pub lines_of : List ℕ → List (List ℕ)
lines_of text = slice_split is_lf text

-- the lines of data at the front of lines
abbrev pub data_lines : List (List ℕ) → List (List ℕ)
data_lines [] = []
data_lines (line ∷ lines) = if is_data line then line ∷ data_lines lines else []

-- the number of bytes of lines that each end in an LF
abbrev pub lines_length : List (List ℕ) → ℕ
lines_length [] = 0
lines_length (line ∷ lines) = length line + 1 + lines_length lines

-- the bytes that the lines of data at the front of a text encode
unfoldable pub data_bytes : List ℕ → List ℕ
data_bytes text = flat_map line_bytes (data_lines (lines_of text))

-- the length of these lines with their LFs; the last line may lack it
unfoldable pub data_length : List ℕ → ℕ
data_length text = min (lines_length (data_lines (lines_of text))) (length text)

-- ---- files in a text

-- a range of a text
pub record Span : Type 0 where
  pub start : ℕ
  pub end : ℕ

-- a file in a text: the ranges of its name, of its lines of data, and of the whole block; and
-- whether a line `end` follows the data
pub record File : Type 0 where
  pub name : Span
  pub lines : Span
  pub block : Span
  pub is_ended : Bool

abbrev pub is_octal_digit : ℕ → Bool
is_octal_digit b = is_in_range 48 55 b

-- the offset after the mode of a line that begins with `begin `: the octal digits that follow
abbrev pub mode_end : List ℕ → ℕ
mode_end line = 6 + prefix_len is_octal_digit (drop 6 line)

-- the range of the name, which is all after the mode but for whitespace at either end
abbrev pub name_start : List ℕ → ℕ
name_start line = mode_end line + prefix_len is_ascii_whitespace (drop (mode_end line) line)

abbrev pub name_end : List ℕ → ℕ
name_end line = length line - suffix_len is_ascii_whitespace line

-- a line that begins a file: `begin`, a space, a mode of three octal digits or more, whitespace, and
-- a name
unfoldable pub begins_file : List ℕ → Bool
begins_file line =
    has_prefix (codes "begin ") line && (nat_lt 8 (mode_end line)
    && (nat_lt (mode_end line) (name_start line) && nat_lt (name_start line) (name_end line)))

-- a line that ends a file: `end`, and after it only whitespace
unfoldable pub ends_file : List ℕ → Bool
ends_file line = has_prefix (codes "end") line && list_all is_ascii_whitespace (drop 3 line)

-- the line that begins at an offset, without its LF; and the offset after it
unfoldable pub line_at : List ℕ → ℕ → List ℕ
line_at text offset = before_first is_lf (drop offset text)

unfoldable pub after_line : List ℕ → ℕ → ℕ
after_line text offset = min (offset + length (line_at text offset) + 1) (length text)

-- the offset of the first line that begins a file, if the first line has this offset
abbrev pub begin_from : ℕ → List (List ℕ) → Option ℕ
begin_from offset [] = None
begin_from offset (line ∷ lines) =
    if begins_file line then Some offset else begin_from (offset + length line + 1) lines

-- the file whose lines have these offsets: the first, the first after it, and the first that is no
-- line of data
unfoldable pub file_of : List ℕ → ℕ → ℕ → ℕ → File
file_of text begin start end =
    let line = line_at text begin in
    let is_ended = ends_file (line_at text end) in
    record {
      name = record { start = begin + name_start line; end = begin + name_end line };
      lines = record { start = start; end = end };
      block = record { start = begin; end = if is_ended then after_line text end else end };
      is_ended = is_ended;
    }

-- the file whose first line has this offset
unfoldable pub file_at : List ℕ → ℕ → File
file_at text begin =
    let start = after_line text begin in
    file_of text begin start (start + data_length (drop start text))

-- the first file in a text
unfoldable pub first_file : List ℕ → Option File
first_file text = option_map (file_at text) (begin_from 0 (lines_of text))

-- ---- what an encoder writes

-- the letter of a value below 64
abbrev pub letter : ℕ → ℕ
letter value = if value == 0 then backtick else value + space

-- the four letters of three bytes
abbrev pub letters_of : ℕ → ℕ → ℕ → List ℕ
letters_of x y z =
    letter (x / 4) ∷ letter (x % 4 * 16 + y / 16) ∷ letter (y % 16 * 4 + z / 64) ∷ letter (z % 64) ∷ []

-- the letters of bytes: four for every three, where missing bytes count as 0
abbrev pub encoded : List ℕ → List ℕ
encoded [] = []
encoded (x ∷ []) = letters_of x 0 0
encoded (x ∷ y ∷ []) = letters_of x y 0
encoded (x ∷ y ∷ z ∷ bytes) = letters_of x y z ++ encoded bytes

-- a line of at most 63 bytes
abbrev pub encoded_line : List ℕ → List ℕ
encoded_line bytes = letter (length bytes) ∷ encoded bytes

-- the lines of pieces of a file, each with its LF
abbrev pub encoded_lines : List (List ℕ) → List ℕ
encoded_lines pieces = flat_map (λ bytes. encoded_line bytes ++ line_feed ∷ []) pieces
