-- The lines that separate the mails of a mailbox: `From `, an address, and a time (RFC 4155,
-- appendix A), also in the forms that real mailboxes have.
use Rattle.std.specs.Prelude.{ℕ, Bool, false, ◌&&◌, ◌||◌, ◌==◌, List, [], ◌∷◌, take, drop, not, codes, if◌then◌else◌}
use Rattle.std.specs.Char.{is_ascii_alphabetic, is_ascii_digit, is_ascii_whitespace}
use Rattle.std.specs.Cmp.Lexicographic.{pointwise}
use Rattle.std.specs.List.{list_all, list_any, prefix_len}
use Rattle.std.specs.Str.{bytes_eq}
use Rattle.mail_codec.specs.Ascii.{digit_0, space}
use Rattle.mail_codec.specs.Calendar.{is_month_abbreviation}
use Rattle.mail_codec.specs.Places.{has_prefix, trimmed_at_start}
use Rattle.mail_data.specs.LineEnds.{line_length}

-- the start of a separator
abbrev pub mark : List ℕ
mark = codes "From "

-- the length of the word at the front: the number of bytes before the first whitespace
unfoldable pub word_length : List ℕ → ℕ
word_length text = prefix_len (λ b. not (is_ascii_whitespace b)) text

-- the word at the front
abbrev pub word : List ℕ → List ℕ
word text = take (word_length text) text

-- the text after that word and the whitespace after it
unfoldable pub after_word : List ℕ → List ℕ
after_word text = trimmed_at_start is_ascii_whitespace (drop (word_length text) text)

-- a byte matches one of a pattern, in which 0 matches any digit
abbrev pub fits_byte : ℕ → ℕ → Bool
fits_byte sign b = if sign == digit_0 then is_ascii_digit b else b == sign

-- a text matches a pattern of its length
abbrev pub fits : List ℕ → List ℕ → Bool
fits pattern text = pointwise fits_byte pattern text

-- a word is one of some names
abbrev pub is_name : List (List ℕ) → List ℕ → Bool
is_name names text = list_any (bytes_eq text) names

abbrev pub weekdays : List (List ℕ)
weekdays =
    codes "Sun" ∷ codes "Mon" ∷ codes "Tue" ∷ codes "Wed" ∷ codes "Thu" ∷ codes "Fri" ∷ codes "Sat"
    ∷ []

-- a day of a month: one digit or two
unfoldable pub is_day : List ℕ → Bool
is_day text = fits (codes "0") text || fits (codes "00") text

-- a time of day, with or without seconds
unfoldable pub is_clock : List ℕ → Bool
is_clock text = fits (codes "00:00:00") text || fits (codes "00:00") text

-- a year of four digits
abbrev pub is_year : List ℕ → Bool
is_year text = fits (codes "0000") text

-- an offset from Greenwich: a sign and four digits
unfoldable pub is_offset : List ℕ → Bool
is_offset text = fits (codes "+0000") text || fits (codes "-0000") text

-- a zone: an offset, or letters
unfoldable pub is_zone : List ℕ → Bool
is_zone text = is_offset text || list_all is_ascii_alphabetic text

-- a year is at the front, perhaps with a zone before it
unfoldable pub is_year_at : List ℕ → Bool
is_year_at text = is_year (word text) || (is_zone (word text) && is_year (word (after_word text)))

-- a month, a day, a time of day and a year are at the front
unfoldable pub is_month_at : List ℕ → Bool
is_month_at text =
    let day = after_word text in
    let clock = after_word day in
    is_month_abbreviation (word text) && is_day (word day) && is_clock (word clock)
    && is_year_at (after_word clock)

-- a time is at the front as asctime writes it: a weekday, a month, a day, a time of day and a year
unfoldable pub is_time_at : List ℕ → Bool
is_time_at text = is_name weekdays (word text) && is_month_at (after_word text)

-- a time follows a space of a line
abbrev pub has_time : List ℕ → Bool
has_time [] = false
has_time (b ∷ rest) = (b == space && is_time_at rest) || has_time rest

-- a separator is at the front: a line that begins with `From ` and contains a time
unfoldable pub is_separator : List ℕ → Bool
is_separator bytes = has_prefix mark bytes && has_time (take (line_length bytes) bytes)
