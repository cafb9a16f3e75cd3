-- Addresses of the type `utf-8` whose characters are written in ASCII (RFC 6533, section 3): `\x{E9}`
-- is the character U+00E9. That a control character stays as it is written is the crate's own rule.
use Rattle.std.specs.Prelude.{ℕ, ◌+◌, ◌*◌, Bool, ◌&&◌, ◌||◌, ◌==◌, nat_le, nat_lt, List, [], ◌∷◌, ◌++◌, flat_map, Option, Some, None, option_and_then, option_map, codes, encode_utf8, if◌then◌else◌}
use Rattle.std.specs.Char.{digit_value, is_control}
use Rattle.std.specs.Int.{is_in_range}
use Rattle.std.specs.List.{list_any, before_first, after_first, slice_split}
use Rattle.std.specs.Option.{option_map_or}
use Rattle.std.specs.Str.{bytes_eq, str_eq_ignore_ascii_case, trim}
use Rattle.mail_codec.specs.Ascii.{backslash, semicolon}

-- `{` and `}`
abbrev pub opening_brace : ℕ
opening_brace = 123

abbrev pub closing_brace : ℕ
closing_brace = 125

-- a text cut at the first of these bytes, if it contains one: the text before it, and after it
unfoldable pub cut_at : ℕ → List ℕ → Option (List ℕ × List ℕ)
cut_at byte text =
    if list_any (λ b. b == byte) text
    then Some (before_first (λ b. b == byte) text, after_first (λ b. b == byte) text) else None

-- the greatest number of a character, U+10FFFF
abbrev pub greatest : ℕ
greatest = 1114111

-- a number with one hexadecimal digit more, if it is that of a character
abbrev pub with_digit : ℕ → ℕ → Option ℕ
with_digit number b =
    if nat_lt (digit_value b) 16 && nat_le (16 * number + digit_value b) greatest
    then Some (16 * number + digit_value b) else None

-- the number that hexadecimal digits denote after those of another number
abbrev pub number_after : ℕ → List ℕ → Option ℕ
number_after number [] = Some number
number_after number (b ∷ bs) = option_and_then (λ next. number_after next bs) (with_digit number b)

-- the character with this number, unless it is a control character or the number is a surrogate
abbrev pub shown_character : ℕ → Option ℕ
shown_character number =
    if is_in_range 55296 57343 number || is_control number then None else Some number

-- the character whose number is in braces, and the text after them
abbrev pub braced_character : List ℕ × List ℕ → Option (ℕ × List ℕ)
braced_character cut =
    option_map (λ character. (character, cut.1))
    (option_and_then shown_character (number_after 0 cut.0))

-- the character that a text after a backslash denotes, and the text after it: `x`, and its number in
-- braces
unfoldable pub escaped : List ℕ → Option (ℕ × List ℕ)
escaped piece =
    option_and_then (λ cut.
    if bytes_eq cut.0 (codes "x") then option_and_then braced_character (cut_at closing_brace cut.1)
    else None) (cut_at opening_brace piece)

-- a text after a backslash, up to the next one, with that character; with the backslash otherwise
abbrev pub read_piece : List ℕ → List ℕ
read_piece piece =
    option_map_or (λ found. encode_utf8 found.0 ++ found.1) (escaped piece) (backslash ∷ piece)

-- the pieces after backslashes; the first piece has none before it
abbrev pub read_pieces : List (List ℕ) → List ℕ
read_pieces [] = []
read_pieces (piece ∷ pieces) = piece ++ flat_map read_piece pieces

-- a text with the characters that are written so
unfoldable pub unescaped : List ℕ → List ℕ
unescaped text = read_pieces (slice_split (λ b. b == backslash) text)

-- the type of an address is `utf-8`
abbrev pub is_utf8_type : List ℕ → Bool
is_utf8_type kind = str_eq_ignore_ascii_case (trim kind) (codes "utf-8")

-- an address after its type, which ends at the first `;`; of the type `utf-8`, with its characters
unfoldable pub typed_address : List ℕ → List ℕ
typed_address text =
    option_map_or (λ cut. if is_utf8_type cut.0 then unescaped cut.1 else cut.1)
    (cut_at semicolon text) text
