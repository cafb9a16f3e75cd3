-- The date of a header in seconds: RFC 5322, sections 3.3 and 4.3, read as leniently as mail is written.
use Rattle.std.specs.Prelude.{ℕ, suc, ◌+◌, ◌*◌, ◌/◌, ◌%◌, ◌^◌, Bool, not, ◌&&◌, ◌||◌, ◌==◌, nat_lt, nat_le, List, [], ◌∷◌, filter, ℤ, pos, negsuc, ◌+ℤ◌, neg_ℤ, Option, Some, None, is_some, ok_or, unsigned_abs, Ok, Err, codes, if◌then◌else◌}
use Rattle.std.specs.Int.{is_in_range}
use Rattle.std.specs.List.{slice_split}
use Rattle.std.specs.Option.{option_map_or}
use Rattle.std.specs.Str.{all_ascii_digits}
use Rattle.std.specs.Str.Parse.{digits_value, signed_digits_value, without_leading_plus, without_leading_sign}
use Rattle.mail_codec.specs.Ascii.{space, colon}
use Rattle.mail_codec.specs.Calendar.{day_number, months}
use Rattle.mail_codec.specs.Names.{look_up}
use Rattle.mail_codec.specs.Places.{is_empty}
use Rattle.mailparse.specs.Refusal.{◌>>=◌, Reads, Refusal, generic}

-- Refusals.

-- a day that is not a number from 1 to 31
abbrev pub invalid_day : Refusal
invalid_day = generic (codes "Invalid day")

-- a word that names no month
abbrev pub unrecognized_month : Refusal
unrecognized_month = generic (codes "Unrecognized month")

-- a year that is not a number below 2 ^ 32
abbrev pub invalid_year : Refusal
invalid_year = generic (codes "Invalid year")

-- a year from 100 to 1969
abbrev pub disallowed_year : Refusal
disallowed_year = generic (codes "Disallowed year")

-- an hour that is not a number below 256
abbrev pub invalid_hour : Refusal
invalid_hour = generic (codes "Invalid hour")

-- a minute that is not a number below 256
abbrev pub invalid_minute : Refusal
invalid_minute = generic (codes "Invalid minute")

-- a second that is not a number below 256
abbrev pub invalid_second : Refusal
invalid_second = generic (codes "Invalid second")

-- a zone that is neither a number from -2400 to 2400 nor a name
abbrev pub invalid_zone : Refusal
invalid_zone = generic (codes "Invalid timezone")

-- Words.

-- a space or a colon separates two words
abbrev pub is_separator : ℕ → Bool
is_separator b = b == space || b == colon

-- the words of a text: the texts between separators that are not empty
abbrev pub words : List ℕ → List (List ℕ)
words text = filter (λ word. not (is_empty word)) (slice_split is_separator text)

-- the number that a word gives in decimal digits, after an optional `+`, if it is below the limit
unfoldable pub number_below : ℕ → List ℕ → Option ℕ
number_below limit word =
    let digits = without_leading_plus word in
    if not (is_empty digits) && (all_ascii_digits digits && nat_lt (digits_value 10 digits) limit)
    then Some (digits_value 10 digits) else None

-- a number that fits in 32 bits with its sign
abbrev pub fits_32_bits : ℤ → Bool
fits_32_bits (pos n) = nat_lt n (2 ^ 31)
fits_32_bits (negsuc n) = nat_lt n (2 ^ 31)

-- the number that a word gives in decimal digits, after an optional `+` or `-`, if it fits in 32 bits
unfoldable pub signed_number : List ℕ → Option ℤ
signed_number word =
    let digits = without_leading_sign word in
    if not (is_empty digits) && (all_ascii_digits digits && fits_32_bits (signed_digits_value 10 word))
    then Some (signed_digits_value 10 word) else None

-- Months, years and zones.

-- the month that a word names
unfoldable pub month_of : List ℕ → Reads ℕ
month_of word = ok_or (look_up months word) unrecognized_month

-- the year that a number gives: below 70 it counts from 2000, and from 70 to 99 from 1900; from 100 to 1969 it is refused
abbrev pub year_of_number : ℕ → Reads ℕ
year_of_number n =
    if nat_lt n 70 then Ok (2000 + n) else
    if nat_lt n 100 then Ok (1900 + n) else
    if nat_lt n 1970 then Err disallowed_year else Ok n

-- the year that a word gives
unfoldable pub year_of : List ℕ → Reads ℕ
year_of word = do
  n ← ok_or (number_below (2 ^ 32) word) invalid_year
  year_of_number n

-- an offset of this size west of Greenwich
abbrev pub west : ℕ → ℤ
west size = neg_ℤ (pos size)

-- the names of zones with their offsets from Greenwich, in hours times 100
abbrev pub zones : List (List ℕ × ℤ)
zones =
    (codes "UTC", pos 0) ∷ (codes "UT", pos 0) ∷ (codes "GMT", pos 0) ∷ (codes "Z", pos 0)
    ∷ (codes "EDT", west 400) ∷ (codes "EST", west 500) ∷ (codes "CDT", west 500) ∷ (codes "CST", west 600)
    ∷ (codes "MDT", west 600) ∷ (codes "MST", west 700) ∷ (codes "PDT", west 700) ∷ (codes "PST", west 800)
    ∷ (codes "A", west 100) ∷ (codes "B", west 200) ∷ (codes "C", west 300) ∷ (codes "D", west 400)
    ∷ (codes "E", west 500) ∷ (codes "F", west 600) ∷ (codes "G", west 700) ∷ (codes "H", west 800)
    ∷ (codes "I", west 900) ∷ (codes "K", west 1000) ∷ (codes "L", west 1100) ∷ (codes "M", west 1200)
    ∷ (codes "N", pos 100) ∷ (codes "O", pos 200) ∷ (codes "P", pos 300) ∷ (codes "Q", pos 400)
    ∷ (codes "R", pos 500) ∷ (codes "S", pos 600) ∷ (codes "T", pos 700) ∷ (codes "U", pos 800)
    ∷ (codes "V", pos 900) ∷ (codes "W", pos 1000) ∷ (codes "X", pos 1100) ∷ (codes "Y", pos 1200) ∷ []

-- a zone that is a number is from -2400 to 2400
abbrev pub zone_of_number : ℤ → Reads ℤ
zone_of_number zone = if nat_le (unsigned_abs zone) 2400 then Ok zone else Err invalid_zone

-- the zone that a word names
abbrev pub zone_named : List ℕ → Reads ℤ
zone_named word = ok_or (look_up zones word) invalid_zone

-- the zone that a word gives, as hours times 100 plus minutes: a number, or else a name
unfoldable pub zone_of : List ℕ → Reads ℤ
zone_of word = option_map_or zone_of_number (signed_number word) (zone_named word)

-- the seconds of a zone's size: its hundreds are hours, the rest is minutes
abbrev pub zone_size : ℕ → ℕ
zone_size n = 3600 * (n / 100) + 60 * (n % 100)

-- the seconds that a zone adds: clocks in the east are ahead, so their zone is subtracted
abbrev pub zone_seconds : ℤ → ℤ
zone_seconds (pos n) = neg_ℤ (pos (zone_size n))
zone_seconds (negsuc n) = pos (zone_size (suc n))

-- The date: the meaning of a word depends on its position, and missing words add nothing. The first refusal refuses the date.

-- the seconds of a word that is a number below 256, in units of `unit` seconds
abbrev pub seconds_of : ℕ → Refusal → List ℕ → Reads ℤ
seconds_of unit refusal word = do
  n ← ok_or (number_below 256 word) refusal
  Ok (pos (unit * n))

-- the seconds of the words from the zone onwards
abbrev pub from_zone : List (List ℕ) → Reads ℤ
from_zone [] = Ok (pos 0)
from_zone (word ∷ after) = do
  zone ← zone_of word
  Ok (zone_seconds zone)

-- from the second onwards
abbrev pub from_second : List (List ℕ) → Reads ℤ
from_second [] = Ok (pos 0)
from_second (word ∷ after) = do
  seconds ← seconds_of 1 invalid_second word
  more ← from_zone after
  Ok (seconds +ℤ more)

-- from the minute onwards
abbrev pub from_minute : List (List ℕ) → Reads ℤ
from_minute [] = Ok (pos 0)
from_minute (word ∷ after) = do
  seconds ← seconds_of 60 invalid_minute word
  more ← from_second after
  Ok (seconds +ℤ more)

-- from the hour onwards
abbrev pub from_hour : List (List ℕ) → Reads ℤ
from_hour [] = Ok (pos 0)
from_hour (word ∷ after) = do
  seconds ← seconds_of 3600 invalid_hour word
  more ← from_minute after
  Ok (seconds +ℤ more)

-- from the year onwards, on a day of a month; 0 without a year
abbrev pub from_year : ℕ → ℕ → List (List ℕ) → Reads ℤ
from_year month day [] = Ok (pos 0)
from_year month day (word ∷ after) = do
  year ← year_of word
  more ← from_hour after
  Ok (pos (86400 * day_number year month day) +ℤ more)

-- from the month onwards, on a day
abbrev pub from_month : ℕ → List (List ℕ) → Reads ℤ
from_month day [] = Ok (pos 0)
from_month day (word ∷ after) = do
  month ← month_of word
  from_year month day after

-- a day of a month is from 1 to 31, whatever the month
abbrev pub day_of : List ℕ → Reads ℕ
day_of word = do
  day ← ok_or (number_below 256 word) invalid_day
  if is_in_range 1 31 day then Ok day else Err invalid_day

-- from the day onwards
abbrev pub from_day : List (List ℕ) → Reads ℤ
from_day [] = Ok (pos 0)
from_day (word ∷ after) = do
  day ← day_of word
  from_month day after

-- the words from the first number below 256 onwards
abbrev pub date_words : List (List ℕ) → List (List ℕ)
date_words [] = []
date_words (word ∷ after) = if is_some (number_below 256 word) then word ∷ after else date_words after

-- the seconds from 1 January 1970, 0 h, to the date of a text
unfoldable pub date_seconds : List ℕ → Reads ℤ
date_seconds text = from_day (date_words (words text))
