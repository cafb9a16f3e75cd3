-- Dates as written in mail: RFC 5322, section 3.3, the obsolete forms of section 4.3, and those of
-- other writers: the month or the year first, as in RFC 3339, and the year last. The readings that
-- the standards leave open, and the faults, are the crate's own rule.
use Rattle.std.specs.Prelude.{ℕ, zero, suc, ◌+◌, ◌*◌, ◌-◌, Bool, true, false, not, ◌&&◌, ◌||◌, ◌==◌, nat_lt, nat_le, List, [], ◌∷◌, length, take, drop, sum, ℤ, pos, ◌+ℤ◌, neg_ℤ, Option, Some, None, option_map, is_some, ok_or, unwrap_or, option_and_then, Result, Ok, Err, codes, slice_index, slice_index_or, if◌then◌else◌}
use Rattle.std.specs.Char.{is_ascii_alphabetic, is_ascii_digit, is_ascii_whitespace}
use Rattle.std.specs.Int.{is_in_range}
use Rattle.std.specs.List.{prefix_len}
use Rattle.std.specs.Option.{option_map_or, option_or}
use Rattle.std.specs.Str.{str_eq_ignore_ascii_case}
use Rattle.std.specs.Str.Parse.{digits_value}
use Rattle.mail_codec.specs.Ascii.{opening_parenthesis, backslash, comma, colon, quote, semicolon, slash}
use Rattle.mail_codec.specs.Places.{begins, is_empty}
use Rattle.mailparse.specs.Date.{zone_size}
use Rattle.mail_codec.specs.Calendar.{month_lengths, months, year_length}
use Rattle.mail_codec.specs.Names.{look_up}
use Rattle.mail_read.specs.lenient.Comments.{depth_after}
use Rattle.mail_read.specs.declared.lenient.date.error.DateError.{DateError}
use Rattle.mail_read.specs.declared.lenient.date.error.DateError.TheVariants.{Day, Month, Year, Time}

-- what is read, or the first fault
abbrev pub Dated : Type 0 → Type 0
Dated A = Result A DateError

-- what is read after something else, unless that is a fault
infixl 10 ◌>>=◌
abbrev pub ◌>>=◌ : {A B : Type 0} → Dated A → (A → Dated B) → Dated B
(Ok x) >>= f = f x
(Err fault) >>= f = Err fault

-- Whitespace and comments.

-- a byte ends whitespace: no comment is open, and it opens none and is no whitespace
abbrev pub ends_whitespace : ℕ → ℕ → Bool
ends_whitespace depth b = depth == 0 && not (is_ascii_whitespace b || b == opening_parenthesis)

-- the bytes after whitespace and comments, given whether the first byte is quoted and the number of
-- open comments; a backslash quotes the byte after it
abbrev pub after_whitespace : Bool → ℕ → List ℕ → List ℕ
after_whitespace quoted depth [] = []
after_whitespace quoted depth (b ∷ rest) =
    if not quoted && ends_whitespace depth b then b ∷ rest
    else after_whitespace (not quoted && b == backslash) (depth_after quoted depth b) rest

-- the bytes after the whitespace and the comments at the front; a comment that is not closed
-- extends to the end
unfoldable pub after_comments : List ℕ → List ℕ
after_comments bytes = after_whitespace false 0 bytes

-- Runs, delimiters and numbers, each after whitespace and comments, and the bytes after them.

-- the bytes at the front that pass the test
unfoldable pub run_at : (ℕ → Bool) → List ℕ → List ℕ × List ℕ
run_at test bytes =
    let rest = after_comments bytes in
    (take (prefix_len test rest) rest, drop (prefix_len test rest) rest)

-- the bytes after a delimiter at the front, if it is there
abbrev pub after_byte : ℕ → List ℕ → Option (List ℕ)
after_byte mark [] = None
after_byte mark (b ∷ rest) = if b == mark then Some rest else None

unfoldable pub after_mark : ℕ → List ℕ → Option (List ℕ)
after_mark mark bytes = after_byte mark (after_comments bytes)

-- `+`, `-` and `.`
abbrev pub plus_sign : ℕ
plus_sign = 43

abbrev pub minus_sign : ℕ
minus_sign = 45

abbrev pub full_stop : ℕ
full_stop = 46

-- a byte may separate the day, the month and the year
abbrev pub is_separator : ℕ → Bool
is_separator b = b == minus_sign || b == comma || b == full_stop || b == slash

-- the bytes after one that passes the test, if it is at the front
abbrev pub after_one : (ℕ → Bool) → List ℕ → List ℕ
after_one test [] = []
after_one test (b ∷ rest) = if test b then rest else b ∷ rest

-- the bytes after whitespace and comments, and after one separator, if it is there
unfoldable pub after_separator : List ℕ → List ℕ
after_separator bytes = after_one is_separator (after_comments bytes)

-- a letter is at the front
abbrev pub has_letter : List ℕ → Bool
has_letter bytes = not (is_empty (run_at is_ascii_alphabetic bytes).0)

-- a digit is at the front
abbrev pub has_digit : List ℕ → Bool
has_digit bytes = not (is_empty (run_at is_ascii_digit bytes).0)

-- a number of one digit or two, if it is at most `most`
unfoldable pub small_number : ℕ → List ℕ → Option (ℕ × List ℕ)
small_number most bytes =
    let run = run_at is_ascii_digit bytes in
    if is_in_range 1 2 (length run.0) && nat_le (digits_value 10 run.0) most
    then Some (digits_value 10 run.0, run.1) else None

-- Days, months and years.

-- the bytes after the name of a day of the week and a comma, each if it is there; the name may be
-- any word
unfoldable pub after_day_name : List ℕ → List ℕ
after_day_name bytes =
    let rest = (run_at is_ascii_alphabetic bytes).1 in
    unwrap_or (after_mark comma rest) rest

-- the names of the months, with the number of each, counted from 0: the first three letters, the
-- whole name, and `Sept`
abbrev pub month_names : List (List ℕ × ℕ)
month_names = (codes "Sept", 8) ∷ months

-- the month with a name
unfoldable pub month_at : List ℕ → Dated (ℕ × List ℕ)
month_at bytes =
    let run = run_at is_ascii_alphabetic bytes in do
      month ← ok_or (look_up month_names run.0) Month
      Ok (month, run.1)

-- the year that digits denote: two from 00 to 49 are counted from 2000, other two and three digits
-- from 1900, and four to nine denote the year itself, at least 1900
unfoldable pub year_of : List ℕ → Dated ℕ
year_of digits =
    let n = digits_value 10 digits in
    if length digits == 2 then Ok (if nat_lt n 50 then 2000 + n else 1900 + n) else
    if length digits == 3 then Ok (1900 + n) else
    if is_in_range 4 9 (length digits) && nat_le 1900 n then Ok n else Err Year

unfoldable pub year_at : List ℕ → Dated (ℕ × List ℕ)
year_at bytes =
    let run = run_at is_ascii_digit bytes in do
      year ← year_of run.0
      Ok (year, run.1)

-- the days of the first n years from 1900 onwards
abbrev pub days_of_years : ℕ → ℕ
days_of_years zero = 0
days_of_years (suc n) = days_of_years n + year_length (1900 + n)

-- the days from 1 January 1900 to a day, given its year, its month counted from 0, and its number
-- in the month
unfoldable pub day_number : ℕ → ℕ → ℕ → ℕ
day_number year month day =
    days_of_years (year - 1900) + (sum (take month (month_lengths year)) + (day - 1))

-- the days of a month
unfoldable pub month_length : ℕ → ℕ → ℕ
month_length year month = slice_index_or (month_lengths year) month 0

-- a day, which must exist in its month, counted from 1 January 1900
unfoldable pub day_in : ℕ → ℕ → ℕ → Dated ℕ
day_in year month day =
    if is_in_range 1 (month_length year month) day then Ok (day_number year month day) else Err Day

-- the number of a day
unfoldable pub day_at : List ℕ → Dated (ℕ × List ℕ)
day_at bytes = ok_or (small_number 31 bytes) Day

-- day, month and year: the day as `day_in` counts it
unfoldable pub day_first : List ℕ → Dated (ℕ × List ℕ)
day_first bytes = do
  day ← day_at bytes
  month ← month_at (after_separator day.1)
  year ← year_at (after_separator month.1)
  number ← day_in year.0 month.0 day.0
  Ok (number, after_separator year.1)

-- a month by its number, counted from 0
unfoldable pub month_number : List ℕ → Dated (ℕ × List ℕ)
month_number bytes = do
  month ← ok_or (small_number 12 bytes) Month
  if month.0 == 0 then Err Month else Ok (month.0 - 1, month.1)

-- the bytes after a `T` before the time (RFC 3339, section 5.6), if it is there
unfoldable pub after_t : List ℕ → List ℕ
after_t bytes =
    let run = run_at is_ascii_alphabetic bytes in
    if str_eq_ignore_ascii_case run.0 (codes "T") then run.1 else bytes

-- year, month and day: the day as `day_in` counts it
unfoldable pub year_first : List ℕ → Dated (ℕ × List ℕ)
year_first bytes = do
  year ← year_at bytes
  month ← month_number (after_separator year.1)
  day ← day_at (after_separator month.1)
  number ← day_in year.0 month.0 day.0
  Ok (number, after_t day.1)

-- Times of day.

-- the bytes after a colon or a full stop, if one is at the front
unfoldable pub after_time_mark : List ℕ → Option (List ℕ)
after_time_mark bytes = option_or (after_mark colon bytes) (after_mark full_stop bytes)

-- the minute
unfoldable pub minute_at : List ℕ → Dated (ℕ × List ℕ)
minute_at bytes = do
  rest ← ok_or (after_time_mark bytes) Time
  ok_or (small_number 59 rest) Time

-- the bytes after a fraction of a second, if it is there
unfoldable pub after_fraction : List ℕ → List ℕ
after_fraction bytes =
    option_map_or (λ rest. (run_at is_ascii_digit rest).1) (after_mark full_stop bytes) bytes

-- a second without its fraction
abbrev pub whole_second : ℕ × List ℕ → ℕ × List ℕ
whole_second second = (second.0, after_fraction second.1)

-- the second, or 0 if the time ends after the minute; 60 is a leap second
unfoldable pub second_at : List ℕ → Dated (ℕ × List ℕ)
second_at bytes =
    option_map_or (λ rest. ok_or (option_map whole_second (small_number 60 rest)) Time)
    (after_time_mark bytes) (Ok (0, bytes))

-- the hour of the day, given the hour that is written and the bytes after the time, and the bytes
-- after `AM` or `PM`: before noon 12 is 0, after noon 1 to 11 are 13 to 23, and any other hour
-- stays as it is
unfoldable pub clock_hour : ℕ → List ℕ → ℕ × List ℕ
clock_hour hour bytes =
    let run = run_at is_ascii_alphabetic bytes in
    if str_eq_ignore_ascii_case run.0 (codes "AM") then (if hour == 12 then 0 else hour, run.1) else
    if str_eq_ignore_ascii_case run.0 (codes "PM")
    then (if is_in_range 1 11 hour then hour + 12 else hour, run.1) else
    (hour, bytes)

-- the seconds from the start of the day to a time
unfoldable pub time_at : List ℕ → Dated (ℕ × List ℕ)
time_at bytes = do
  written ← ok_or (small_number 23 bytes) Time
  minute ← minute_at written.1
  second ← second_at minute.1
  let hour = clock_hour written.0 second.1 in
      Ok (3600 * hour.0 + 60 * minute.0 + second.0, hour.1)

-- Zones.

-- the seconds of hours, and of the minutes after a colon, if they are there
unfoldable pub hours_then : ℕ → List ℕ → ℕ × List ℕ
hours_then hours bytes =
    option_map_or (λ minutes. (3600 * hours + 60 * minutes.0, minutes.1))
    (option_and_then (small_number 59) (after_mark colon bytes)) (3600 * hours, bytes)

-- the seconds that digits denote: one or two are hours, three and four end in two of minutes
unfoldable pub offset_at : List ℕ → Option (ℕ × List ℕ)
offset_at bytes =
    let run = run_at is_ascii_digit bytes in
    let n = digits_value 10 run.0 in
    if is_in_range 1 2 (length run.0) then Some (hours_then n run.1) else
    if is_in_range 3 4 (length run.0) then Some (zone_size n, run.1) else None

-- a zone: the seconds that it adds, and whether it is known
abbrev pub Zoned : Type 0
Zoned = ℤ × Bool

-- a zone in the west, and one in the east; `-0000` says that the zone is not known (RFC 5322,
-- section 3.3)
abbrev pub west : ℕ → Zoned
west offset = (pos offset, not (offset == 0))

abbrev pub east : ℕ → Zoned
east offset = (neg_ℤ (pos offset), true)

-- a byte is the sign of a zone
abbrev pub is_sign : ℕ → Bool
is_sign b = b == plus_sign || b == minus_sign

-- the seconds that a number of minutes in the west of Greenwich adds, and in the east
abbrev pub west_by : ℕ → ℤ
west_by minutes = pos (60 * minutes)

abbrev pub east_by : ℕ → ℤ
east_by minutes = neg_ℤ (pos (60 * minutes))

-- the known names of zones, with the seconds that each adds: those of the standard, those that have
-- meant one offset since 1970 in the time zone database of IANA (RFC 6557), and the German names
-- MEZ and MESZ
abbrev pub zone_names : List (List ℕ × ℤ)
zone_names =
    (codes "UTC", pos 0) ∷ (codes "UT", pos 0) ∷ (codes "GMT", pos 0) ∷ (codes "Z", pos 0)
    ∷ (codes "EDT", west_by 240) ∷ (codes "EST", west_by 300) ∷ (codes "CDT", west_by 300)
    ∷ (codes "CST", west_by 360) ∷ (codes "MDT", west_by 360) ∷ (codes "MST", west_by 420)
    ∷ (codes "PDT", west_by 420) ∷ (codes "PST", west_by 480) ∷ (codes "NST", west_by 210)
    ∷ (codes "NDT", west_by 150) ∷ (codes "AST", west_by 240) ∷ (codes "ADT", west_by 180)
    ∷ (codes "AKST", west_by 540) ∷ (codes "AKDT", west_by 480) ∷ (codes "HST", west_by 600)
    ∷ (codes "WET", pos 0) ∷ (codes "WEST", east_by 60) ∷ (codes "CET", east_by 60)
    ∷ (codes "CEST", east_by 120) ∷ (codes "MET", east_by 60) ∷ (codes "MEST", east_by 120)
    ∷ (codes "MEZ", east_by 60) ∷ (codes "MESZ", east_by 120) ∷ (codes "EET", east_by 120)
    ∷ (codes "EEST", east_by 180) ∷ (codes "MSD", east_by 240) ∷ (codes "WAT", east_by 60)
    ∷ (codes "CAT", east_by 120) ∷ (codes "SAST", east_by 120) ∷ (codes "EAT", east_by 180)
    ∷ (codes "PKT", east_by 300) ∷ (codes "WIB", east_by 420) ∷ (codes "HKT", east_by 480)
    ∷ (codes "AWST", east_by 480) ∷ (codes "JST", east_by 540) ∷ (codes "ACST", east_by 570)
    ∷ (codes "ACDT", east_by 630) ∷ (codes "AEST", east_by 600) ∷ (codes "AEDT", east_by 660)
    ∷ (codes "NZST", east_by 720) ∷ (codes "NZDT", east_by 780) ∷ []

-- the zone of an offset after signs: the last one counts
abbrev pub directed : List ℕ → ℕ → Zoned
directed signs offset =
    if slice_index signs (length signs - 1) == minus_sign then west offset else east offset

-- the zone of signs and digits, if both are there: after `+` it is in the east, after `-` in the
-- west
unfoldable pub signed_at : List ℕ → Option (Zoned × List ℕ)
signed_at bytes =
    let signs = run_at is_sign bytes in
    if is_empty signs.0 then None
    else option_map (λ offset. (directed signs.0 offset.0, offset.1)) (offset_at signs.1)

-- a name that digits may follow
abbrev pub is_universal : List ℕ → Bool
is_universal name =
    str_eq_ignore_ascii_case name (codes "GMT") || str_eq_ignore_ascii_case name (codes "UTC")
    || str_eq_ignore_ascii_case name (codes "UT")

-- a byte may follow the name of a zone
abbrev pub ends_name : ℕ → Bool
ends_name b =
    is_ascii_whitespace b || b == opening_parenthesis || b == quote || b == comma
    || b == full_stop || b == semicolon

-- a name ends before these bytes, and no word follows it: `US/Central`, `EST5EDT` and `MET DST` are
-- none of the known names
unfoldable pub is_name_end : List ℕ → Bool
is_name_end rest = (is_empty rest || begins ends_name rest) && not (has_letter rest)

-- the zone with a name before these bytes: UTC if the name is not known or missing
unfoldable pub named_zone : List ℕ → List ℕ → Zoned
named_zone name rest =
    let added = if is_name_end rest then look_up zone_names name else None in
    (unwrap_or added (pos 0), is_some added)

-- the bytes after a quotation mark, if it is there
unfoldable pub after_quote : List ℕ → List ℕ
after_quote bytes = unwrap_or (after_mark quote bytes) bytes

-- the zone at the front: signs and digits, perhaps after `GMT` or `UTC`, or a name; of anything else
-- it is not known
unfoldable pub zone_at : List ℕ → Zoned × List ℕ
zone_at bytes =
    let run = run_at is_ascii_alphabetic (after_quote bytes) in
    let signed = if is_empty run.0 || is_universal run.0 then signed_at run.1 else None in
    unwrap_or signed (named_zone run.0 run.1, run.1)

-- The date.

-- the seconds from the start of 1900 to a date by the clocks of its zone, and the zone
abbrev pub Moment : Type 0
Moment = ℕ × Zoned

-- the date, given the day as `day_in` counts it, and the bytes after it: a time and a zone; other
-- bytes after these are ignored
unfoldable pub clocked : ℕ × List ℕ → Dated Moment
clocked day = do
  time ← time_at day.1
  Ok (86400 * day.0 + time.0, (zone_at time.1).0)

-- a year, and the zone before or after it
unfoldable pub year_and_zone : List ℕ → Dated (ℕ × Zoned)
year_and_zone bytes =
    if has_digit bytes then (do
      year ← year_at bytes
      Ok (year.0, (zone_at year.1).0))
    else
    let zone = zone_at bytes in do
      year ← year_at (run_at is_ascii_alphabetic zone.1).1
      Ok (year.0, zone.0)

-- the date, given its month and day, and the bytes after them: a time, and the year and the zone
unfoldable pub year_last : ℕ → ℕ → List ℕ → Dated Moment
year_last month day bytes = do
  time ← time_at bytes
  year ← year_and_zone time.1
  number ← day_in year.0 month day
  Ok (86400 * number + time.0, year.1)

-- the date, given its month and day, and the bytes after them: the year, a time and a zone
unfoldable pub year_next : ℕ → ℕ → List ℕ → Dated Moment
year_next month day bytes = do
  year ← year_at (after_separator bytes)
  number ← day_in year.0 month day
  clocked (number, after_separator year.1)

-- a number and a colon are at the front
unfoldable pub has_time : List ℕ → Bool
has_time bytes = is_some (after_mark colon (run_at is_ascii_digit bytes).1)

-- month and day, and then the year, or a time and the year
unfoldable pub month_first : List ℕ → Dated Moment
month_first bytes = do
  month ← month_at bytes
  day ← day_at (after_separator month.1)
  if has_time day.1 then year_last month.0 day.0 day.1 else year_next month.0 day.0 day.1

-- the first word is a month and not a day of the week, given the bytes after it: no month follows
-- the number there
unfoldable pub is_month_first : List ℕ → List ℕ → Bool
is_month_first text rest =
    is_some (look_up month_names (run_at is_ascii_alphabetic text).0)
    && not (has_letter (after_separator (run_at is_ascii_digit rest).1))

-- a year of four digits is at the front
unfoldable pub is_year_first : List ℕ → Bool
is_year_first bytes = length (run_at is_ascii_digit bytes).0 == 4

-- the date in a text
unfoldable pub moment_at : List ℕ → Dated Moment
moment_at text =
    let rest = after_day_name text in
    if has_letter rest then month_first rest else
    if is_year_first rest then (year_first rest >>= clocked) else
    if is_month_first text rest then month_first text else (day_first rest >>= clocked)

-- the seconds since 1 January 1970, 0 h, given the seconds since the start of 1900
abbrev pub since_1970 : ℕ → ℤ
since_1970 seconds = pos seconds +ℤ neg_ℤ (pos (86400 * day_number 1970 0 1))

-- the seconds by which the clocks of a zone are ahead of UTC, if it is known
abbrev pub offset_of : Zoned → Option ℤ
offset_of zone = if zone.1 then Some (neg_ℤ zone.0) else None

-- the seconds from 1 January 1970, 0 h UTC, to the date in a text, and the offset of its zone
unfoldable pub date_and_offset_of : List ℕ → Dated (ℤ × Option ℤ)
date_and_offset_of text = do
  moment ← moment_at text
  Ok (since_1970 moment.0 +ℤ moment.1.0, offset_of moment.1)

-- the same seconds, and whether the zone is known
unfoldable pub zoned_date_of : List ℕ → Dated Zoned
zoned_date_of text = do
  date ← date_and_offset_of text
  Ok (date.0, is_some date.1)

-- the seconds alone
abbrev pub date_of : List ℕ → Dated ℤ
date_of text = do
  date ← zoned_date_of text
  Ok date.0
