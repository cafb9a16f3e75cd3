-- Dates in the form that RFC 5322, section 3.3, asks for, without the obsolete forms of section 4.3. Some dates of the standard are left
-- out: those with other whitespace than spaces, without a space after the comma, without seconds, with a comment that does not follow
-- the zone and a space, in a year before 1970 or of more than nine digits, and in a zone of more than 24 hours. The port and the lenient
-- reading may differ there. Some other dates are here too: an hour, a minute and a second may have one digit, the day of the week need not
-- be that of the date, the minutes of a zone may be 60 or more, and any text may follow the zone and a space.
use Rattle.std.specs.Prelude.{ℕ, zero, suc, ◌+◌, ◌*◌, ◌/◌, ◌%◌, Bool, true, ◌&&◌, ◌||◌, ◌≡◌, ◌==◌, nat_lt, nat_le, List, [], ◌∷◌, ◌++◌, length, slice_index_or, ℤ, pos, ◌+ℤ◌, neg_ℤ, codes, Option, Some, None, if◌then◌else◌}
use Rattle.std.specs.Int.{is_in_range}
use Rattle.std.specs.List.{list_any}
use Rattle.std.specs.Str.{all_ascii_digits, str_eq_ignore_ascii_case}
use Rattle.std.specs.Str.Parse.{digits_value}
use Rattle.mail_codec.specs.Ascii.{space, colon, comma}
use Rattle.mail_codec.specs.Calendar.{day_number, month_lengths}

-- ---- the pieces

-- the names of the days of the week, and of the months in their order; ASCII case does not matter (RFC 5234, section 2.3)
abbrev pub names_of_days : List (List ℕ)
names_of_days = codes "Mon" ∷ codes "Tue" ∷ codes "Wed" ∷ codes "Thu" ∷ codes "Fri" ∷ codes "Sat" ∷ codes "Sun" ∷ []

abbrev pub names_of_months : List (List ℕ)
names_of_months =
    codes "Jan" ∷ codes "Feb" ∷ codes "Mar" ∷ codes "Apr" ∷ codes "May" ∷ codes "Jun"
    ∷ codes "Jul" ∷ codes "Aug" ∷ codes "Sep" ∷ codes "Oct" ∷ codes "Nov" ∷ codes "Dec" ∷ []

-- the pieces of a date, as texts. The month has its number too, counted from 0. `before` is the number of spaces at the front, and the
-- names with `before_` are how many spaces more than one are before a piece; before the day these follow the comma.
pub record StrictDate : Type 0 where
  pub before : ℕ
  pub week_day : Option (List ℕ)
  pub before_day : ℕ
  pub day : List ℕ
  pub before_month : ℕ
  pub month_name : List ℕ
  pub month : ℕ
  pub before_year : ℕ
  pub year : List ℕ
  pub before_hour : ℕ
  pub hour : List ℕ
  pub minute : List ℕ
  pub second : List ℕ
  pub before_zone : ℕ
  pub sign : ℕ
  pub zone : List ℕ
  pub after : List ℕ

-- the day of the week is not there, or has a name
abbrev pub is_week_day : Option (List ℕ) → Bool
is_week_day None = true
is_week_day (Some name) = list_any (str_eq_ignore_ascii_case name) names_of_days

-- the name of a month, with its number
abbrev pub is_month : List ℕ → ℕ → Bool
is_month name month = nat_lt month 12 && str_eq_ignore_ascii_case name (slice_index_or names_of_months month [])

-- the number that digits denote
abbrev pub value : List ℕ → ℕ
value digits = digits_value 10 digits

-- a text consists of digits, from `least` to `most` of them
abbrev pub has_digits : ℕ → ℕ → List ℕ → Bool
has_digits least most text = all_ascii_digits text && is_in_range least most (length text)

-- a number of one digit or two that is at most `most`
abbrev pub is_small : ℕ → List ℕ → Bool
is_small most text = has_digits 1 2 text && nat_le (value text) most

-- a year of four to nine digits, at least 1970
abbrev pub is_year : List ℕ → Bool
is_year text = has_digits 4 9 text && nat_le 1970 (value text)

-- the number of days of a month
abbrev pub days_of : ℕ → ℕ → ℕ
days_of year month = slice_index_or (month_lengths year) month 0

-- `+` or `-`
abbrev pub is_sign : ℕ → Bool
is_sign b = b == 43 || b == 45

-- the four digits of a zone, at most 2400
abbrev pub is_zone : List ℕ → Bool
is_zone text = has_digits 4 4 text && nat_le (value text) 2400

-- nothing, or a space and any text
abbrev pub is_end : List ℕ → Bool
is_end [] = true
is_end (b ∷ text) = b == space

-- the pieces have these forms, and the day is one of its month
pub record IsStrictDate (d : StrictDate) : Type 0 where
  pub week_day : is_week_day d.week_day ≡ true
  pub day : is_small 31 d.day ≡ true
  pub month : is_month d.month_name d.month ≡ true
  pub year : is_year d.year ≡ true
  pub exists : is_in_range 1 (days_of (value d.year) d.month) (value d.day) ≡ true
  pub hour : is_small 23 d.hour ≡ true
  pub minute : is_small 59 d.minute ≡ true
  pub second : is_small 60 d.second ≡ true
  pub sign : is_sign d.sign ≡ true
  pub zone : is_zone d.zone ≡ true
  pub after : is_end d.after ≡ true

-- ---- the text

-- a number of spaces
abbrev pub spaces : ℕ → List ℕ
spaces zero = []
spaces (suc n) = space ∷ spaces n

-- a space and n more before a text
abbrev pub gap : ℕ → List ℕ → List ℕ
gap n text = space ∷ (spaces n ++ text)

-- the day of the week, a comma and spaces, or nothing, before a text
abbrev pub with_week_day : Option (List ℕ) → ℕ → List ℕ → List ℕ
with_week_day None n text = text
with_week_day (Some name) n text = name ++ comma ∷ gap n text

-- the text from the zone on
abbrev pub zone_text : StrictDate → List ℕ
zone_text d = d.sign ∷ (d.zone ++ d.after)

-- the text from the hour on
abbrev pub time_text : StrictDate → List ℕ
time_text d = d.hour ++ colon ∷ (d.minute ++ colon ∷ (d.second ++ gap d.before_zone (zone_text d)))

-- the text from the day on
abbrev pub day_text : StrictDate → List ℕ
day_text d = d.day ++ gap d.before_month (d.month_name ++ gap d.before_year (d.year ++ gap d.before_hour (time_text d)))

-- the whole text
abbrev pub date_text : StrictDate → List ℕ
date_text d = spaces d.before ++ with_week_day d.week_day d.before_day (day_text d)

-- ---- the seconds

-- the seconds of a zone: its first two digits are hours, the others minutes
abbrev pub zone_offset : StrictDate → ℕ
zone_offset d = 3600 * (value d.zone / 100) + 60 * (value d.zone % 100)

-- the seconds that a zone adds: clocks in the east are ahead
abbrev pub zone_added : StrictDate → ℤ
zone_added d = if d.sign == 45 then pos (zone_offset d) else neg_ℤ (pos (zone_offset d))

-- the seconds from the start of the day to the time
abbrev pub time_seconds : StrictDate → ℕ
time_seconds d = 3600 * value d.hour + 60 * value d.minute + value d.second

-- the seconds from 1 January 1970, 0 h UTC, to the date
abbrev pub strict_seconds : StrictDate → ℤ
strict_seconds d = pos (86400 * day_number (value d.year) d.month (value d.day) + time_seconds d) +ℤ zone_added d

-- ---- an example

-- `Fri, 21 Nov 1997 09:55:06 -0600`, the date of the standard's first example (appendix A.1.1)
abbrev pub standard_date : StrictDate
standard_date = record {
  before = 0;
  week_day = Some (codes "Fri");
  before_day = 0;
  day = codes "21";
  before_month = 0;
  month_name = codes "Nov";
  month = 10;
  before_year = 0;
  year = codes "1997";
  before_hour = 0;
  hour = codes "09";
  minute = codes "55";
  second = codes "06";
  before_zone = 0;
  sign = 45;
  zone = codes "0600";
  after = [];
}
