-- Bytes at which other programs may read something else; this crate's own words.
use Rattle.std.specs.Prelude.{ℕ, ◌+◌, ◌-◌, Bool, ◌&&◌, ◌||◌, not, ◌==◌, nat_lt, List, length, drop, Option, Some, None, codes, if◌then◌else◌}
use Rattle.std.specs.List.{list_all}
use Rattle.mail_codec.specs.Ascii.{carriage_return, closing_parenthesis, digit_0, digit_9, equals_sign, is_blank, line_feed, tab, upper_a, upper_f}
use Rattle.mail_codec.specs.Places.{begins, first_place, has_prefix, is_empty, least, place}

-- the byte at an offset is this one
abbrev pub byte_at : List ℕ → ℕ → ℕ → Bool
byte_at bytes p byte = begins (λ b. b == byte) (drop p bytes)

-- the first offset in bytes that passes a test, if there is one
unfoldable pub first_offset : (ℕ → Bool) → List ℕ → Option ℕ
first_offset test bytes =
    let p = least test (length bytes) in
    if nat_lt p (length bytes) then Some p else None

-- the first offset of a byte that passes a test, if there is one
abbrev pub first_byte : (ℕ → Bool) → List ℕ → Option ℕ
first_byte test bytes = place (begins test) bytes

-- the earlier of two offsets, if there is one of them
abbrev pub earlier : Option ℕ → Option ℕ → Option ℕ
earlier None second = second
earlier (Some p) None = Some p
earlier (Some p) (Some q) = Some (if nat_lt q p then q else p)

-- the later of two offsets, if there are both
abbrev pub later : Option ℕ → Option ℕ → Option ℕ
later None second = None
later (Some p) None = None
later (Some p) (Some q) = Some (if nat_lt p q then q else p)

-- ---- line ends

-- a NUL is at an offset
abbrev pub is_nul : List ℕ → ℕ → Bool
is_nul bytes p = byte_at bytes p 0

-- a CR without a LF after it
abbrev pub is_lone_return : List ℕ → ℕ → Bool
is_lone_return bytes p =
    byte_at bytes p carriage_return && not (byte_at bytes (p + 1) line_feed)

-- a CR and a LF
abbrev pub is_return_feed : List ℕ → ℕ → Bool
is_return_feed bytes p = byte_at bytes p carriage_return && byte_at bytes (p + 1) line_feed

-- a LF without a CR before it
abbrev pub is_bare_line_feed : List ℕ → ℕ → Bool
is_bare_line_feed bytes p =
    byte_at bytes p line_feed && not (nat_lt 0 p && byte_at bytes (p - 1) carriage_return)

-- the first line end that is not like the first one
abbrev pub mixed_line_end : List ℕ → Option ℕ
mixed_line_end bytes =
    later (first_offset (is_return_feed bytes) bytes) (first_offset (is_bare_line_feed bytes) bytes)

-- ---- folds

-- the number of blanks at the front
abbrev pub blank_count : List ℕ → ℕ
blank_count bytes = first_place (begins (λ b. not (is_blank b))) bytes

-- nothing of the line is left: the bytes end here, or a line end follows
abbrev pub is_line_left : List ℕ → Bool
is_line_left rest = is_empty rest || (has_prefix (codes "\n") rest || has_prefix (codes "\r\n") rest)

-- a LF, and after it a line that consists of blanks, at least one
abbrev pub is_blank_fold : List ℕ → ℕ → Bool
is_blank_fold bytes p =
    let rest = drop (p + 1) bytes in
    byte_at bytes p line_feed
    && (nat_lt 0 (blank_count rest) && is_line_left (drop (blank_count rest) rest))

-- a line end and a blank after it
abbrev pub is_fold : List ℕ → Bool
is_fold rest =
    has_prefix (codes "\n ") rest
    || (has_prefix (codes "\n\t") rest
    || (has_prefix (codes "\r\n ") rest || has_prefix (codes "\r\n\t") rest))

-- a closing parenthesis, and after it blanks, a line end and a blank
abbrev pub is_comment_fold : List ℕ → ℕ → Bool
is_comment_fold bytes p =
    let rest = drop (p + 1) bytes in
    byte_at bytes p closing_parenthesis && is_fold (drop (blank_count rest) rest)

-- ---- bytes that are not ASCII, and control characters

-- a byte that is not ASCII
abbrev pub is_high : ℕ → Bool
is_high b = not (nat_lt b 128)

-- a control character that is no tab and no byte of a line end (RFC 2045, section 6.7)
abbrev pub is_control : ℕ → Bool
is_control b =
    (nat_lt b 32 && not (b == tab || (b == line_feed || b == carriage_return))) || b == 127

-- ---- quoted-printable (RFC 2045, section 6.7)

-- a digit of an escape: 0 to 9 or A to F
abbrev pub is_escape_digit : ℕ → Bool
is_escape_digit b =
    (not (nat_lt b digit_0) && not (nat_lt digit_9 b)) || (not (nat_lt b upper_a) && not (nat_lt upper_f b))

-- a line end is at the front
abbrev pub has_line_end : List ℕ → Bool
has_line_end rest = has_prefix (codes "\n") rest || has_prefix (codes "\r\n") rest

-- an equals sign that begins neither an escape nor a soft line break
abbrev pub is_bad_escape : List ℕ → ℕ → Bool
is_bad_escape bytes p =
    let rest = drop (p + 1) bytes in
    byte_at bytes p equals_sign
    && not (has_line_end rest || (begins is_escape_digit rest && begins is_escape_digit (drop 1 rest)))

-- a blank at the end of a line, or at the end of the bytes
abbrev pub is_end_blank : List ℕ → ℕ → Bool
is_end_blank bytes p = begins is_blank (drop p bytes) && is_line_left (drop (p + 1) bytes)

-- an equals sign before nothing but line ends, or an escaped CR or LF
abbrev pub is_escaped_end : List ℕ → ℕ → Bool
is_escaped_end bytes p =
    let rest = drop (p + 1) bytes in
    byte_at bytes p equals_sign
    && (list_all (λ b. b == carriage_return || b == line_feed) rest
    || (has_prefix (codes "0D") rest || has_prefix (codes "0A") rest))
