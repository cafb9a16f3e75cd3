-- Quoted-printable (RFC 2045, section 6.7), read so that no text is refused: all that is not an
-- escape is kept as it is, which is this crate's own rule.
use Rattle.std.specs.Prelude.{◌≡◌, ℕ, ◌+◌, ◌-◌, ◌*◌, ◌==◌, Bool, false, if◌then◌else◌, ◌⊎◌, ◌≢◌, List, [], ◌∷◌, ◌++◌, length, take, All, Option, Some, None}
use Rattle.std.specs.Int.{is_in_range}
use Rattle.std.specs.List.{flat_map, slice_split}
use Rattle.mail_codec.specs.Ascii.{is_blank, line_feed, carriage_return, equals_sign, digit_0, digit_9, upper_a, upper_f, lower_a, lower_f}
use Rattle.mail_codec.specs.Places.{trimmed_at_end}

-- a line of a text: its content, and the bytes that end it
pub record Line : Type 0 where
  pub content : List ℕ
  pub ending : List ℕ

-- the bytes end in b
abbrev pub ends_in : ℕ → List ℕ → Bool
ends_in b [] = false
ends_in b (x ∷ []) = x == b
ends_in b (x ∷ y ∷ xs) = ends_in b (y ∷ xs)

-- bytes without the last of them
abbrev pub without_last : List ℕ → List ℕ
without_last bytes = take (length bytes - 1) bytes

-- LF, and CR LF
abbrev pub lf : List ℕ
lf = line_feed ∷ []

abbrev pub cr_lf : List ℕ
cr_lf = carriage_return ∷ line_feed ∷ []

-- a line that ends at a CR LF, or at an LF without a CR before it
abbrev pub IsEndedLine : Line → Type 0
IsEndedLine line = All (λ b. b ≢ line_feed) line.content
    × ((line.ending ≡ cr_lf)
    ⊎ ((line.ending ≡ lf) × (ends_in carriage_return line.content ≡ false)))

-- a line that ends with the text
abbrev pub IsLastLine : Line → Type 0
IsLastLine line = All (λ b. b ≢ line_feed) line.content × (line.ending ≡ [])

-- the lines of a text: each but the last ends at its line end, and the last, which may be empty, at
-- the end of the text
abbrev pub AreEnded : List Line → Type 0
AreEnded [] = ⊥
AreEnded (line ∷ []) = IsLastLine line
AreEnded (line ∷ next ∷ lines) = IsEndedLine line × AreEnded (next ∷ lines)

-- these are the lines of the text
abbrev pub AreLines : List ℕ → List Line → Type 0
AreLines text lines = AreEnded lines × (text ≡ flat_map (λ line. line.content ++ line.ending) lines)

-- the value of a hexadecimal digit, of either case
abbrev pub digit_value : ℕ → Option ℕ
digit_value b =
    if is_in_range digit_0 digit_9 b then Some (b - digit_0)
    else if is_in_range upper_a upper_f b then Some (b - upper_a + 10)
    else if is_in_range lower_a lower_f b then Some (b - lower_a + 10)
    else None

-- the byte of the values of two digits, if there are two
abbrev pub byte_of_values : Option ℕ → Option ℕ → Option ℕ
byte_of_values (Some high) (Some low) = Some (high * 16 + low)
byte_of_values _ _ = None

-- the byte of the escape that the bytes begin with: `=` and two hexadecimal digits
abbrev pub first_escape : List ℕ → Option ℕ
first_escape [] = None
first_escape (b ∷ []) = None
first_escape (b ∷ c ∷ []) = None
first_escape (b ∷ c ∷ d ∷ rest) =
    if b == equals_sign then byte_of_values (digit_value c) (digit_value d) else None

-- an escape's byte and the bytes after the escape; without an escape, the bytes that stay
abbrev pub after_escape : Option ℕ → List ℕ → List ℕ → List ℕ
after_escape (Some byte) following stays = byte ∷ following
after_escape None following stays = stays

-- each escape, from the left, is one byte, and every other byte stays
unfoldable pub unescaped : List ℕ → List ℕ
unescaped [] = []
unescaped (b ∷ []) = b ∷ []
unescaped (b ∷ c ∷ []) = b ∷ c ∷ []
unescaped (b ∷ c ∷ d ∷ rest) =
    after_escape (first_escape (b ∷ c ∷ d ∷ rest)) (unescaped rest) (b ∷ unescaped (c ∷ d ∷ rest))

-- the bytes of a line: without blanks at its end, and with its escapes read; a `=` at the end is
-- removed together with the line end
unfoldable pub line_bytes : Line → List ℕ
line_bytes line = let kept = trimmed_at_end is_blank line.content in
    if ends_in equals_sign kept
    then unescaped (without_last kept) else unescaped kept ++ line.ending

-- the text encodes the bytes: they are those of its lines, in order
abbrev pub IsQuotedPrintable : List ℕ → List ℕ → Type 0
IsQuotedPrintable text bytes = (lines : List Line) × AreLines text lines
    × (bytes ≡ flat_map line_bytes lines)

-- ---- the same as functions, which contracts cite

-- the line of a piece that an LF follows
abbrev pub ended_line : List ℕ → Line
ended_line piece =
    if ends_in carriage_return piece then record { content = without_last piece; ending = cr_lf }
    else record { content = piece; ending = lf }

-- the lines of the pieces between the LFs of a text
abbrev pub lines_of_pieces : List (List ℕ) → List Line
lines_of_pieces [] = []
lines_of_pieces (piece ∷ []) = record { content = piece; ending = [] } ∷ []
lines_of_pieces (piece ∷ next ∷ pieces) = ended_line piece ∷ lines_of_pieces (next ∷ pieces)

-- the lines of a text
unfoldable pub lines_of : List ℕ → List Line
lines_of text = lines_of_pieces (slice_split (λ b. b == line_feed) text)

-- the bytes that a text encodes
unfoldable pub quoted_printable : List ℕ → List ℕ
quoted_printable text = flat_map line_bytes (lines_of text)
