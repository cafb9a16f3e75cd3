-- Lines that mail servers or other programs may change, by how they begin or how long they are; this crate's own words.
use Rattle.std.specs.Prelude.{ℕ, ◌+◌, ◌-◌, Bool, ◌&&◌, ◌||◌, not, ◌==◌, nat_lt, List, drop, Option, Some, None, codes, if◌then◌else◌}
use Rattle.mail_codec.specs.Ascii.{carriage_return, digit_0, line_feed, space}
use Rattle.mail_codec.specs.Places.{begins, first_place, has_prefix}
use Rattle.mail_check.specs.Bytes.{byte_at, first_offset}

-- a LF, and after it a line that passes a test
abbrev pub is_before : (List ℕ → Bool) → List ℕ → ℕ → Bool
is_before test bytes p = byte_at bytes p line_feed && test (drop (p + 1) bytes)

-- the offset after another one, if there is one
abbrev pub next : Option ℕ → Option ℕ
next None = None
next (Some p) = Some (p + 1)

-- the first line that passes a test: that at the front, or the first that follows a LF
abbrev pub first_line : (List ℕ → Bool) → List ℕ → Option ℕ
first_line test bytes =
    if test bytes then Some 0 else next (first_offset (is_before test bytes) bytes)

-- ---- long lines (RFC 5322, section 2.1.1)

-- the number of bytes before the first LF
abbrev pub feed_offset : List ℕ → ℕ
feed_offset rest = first_place (begins (λ b. b == line_feed)) rest

-- the number of bytes of the line at the front, without a LF and a CR at its end
abbrev pub line_size : List ℕ → ℕ
line_size rest =
    let size = feed_offset rest in
    if nat_lt 0 size && byte_at rest (size - 1) carriage_return then size - 1 else size

-- the line at the front has more than 998 bytes
abbrev pub is_long_line : List ℕ → Bool
is_long_line rest = nat_lt 998 (line_size rest)

-- ---- files in a text

abbrev pub digit_7 : ℕ
digit_7 = 55

-- a digit of a mode: 0 to 7
abbrev pub is_octal : ℕ → Bool
is_octal b = not (nat_lt b digit_0) && not (nat_lt digit_7 b)

-- a mode is at the front: three or four digits, and a space after them
abbrev pub has_mode : List ℕ → Bool
has_mode rest =
    begins is_octal (drop 0 rest)
    && (begins is_octal (drop 1 rest)
    && (begins is_octal (drop 2 rest)
    && (byte_at rest 3 space || (begins is_octal (drop 3 rest) && byte_at rest 4 space))))

-- the line at the front begins a file: `begin` or `begin-base64`, a space and a mode, or `=ybegin` and a space
abbrev pub begins_file : List ℕ → Bool
begins_file rest =
    (has_prefix (codes "begin ") rest && has_mode (drop 6 rest))
    || ((has_prefix (codes "begin-base64 ") rest && has_mode (drop 13 rest)) || has_prefix (codes "=ybegin ") rest)
