-- Days of the proleptic Gregorian calendar (ISO 8601), and the English names of its months.
use Rattle.std.specs.Prelude.{ℕ, zero, suc, ◌+◌, ◌%◌, ◌-◌, Bool, not, ◌&&◌, ◌||◌, ◌==◌, List, [], ◌∷◌, length, take, sum, codes, if◌then◌else◌}
use Rattle.std.specs.List.{list_any}
use Rattle.std.specs.Str.{bytes_eq}

-- a leap year: every fourth year, except the centuries that 400 does not divide
abbrev pub is_leap_year : ℕ → Bool
is_leap_year year = year % 4 == 0 && (not (year % 100 == 0) || year % 400 == 0)

-- the number of days of a year
abbrev pub year_length : ℕ → ℕ
year_length year = if is_leap_year year then 366 else 365

-- the number of days of each month of a year
abbrev pub month_lengths : ℕ → List ℕ
month_lengths year =
    31 ∷ (if is_leap_year year then 29 else 28) ∷ 31 ∷ 30 ∷ 31 ∷ 30
    ∷ 31 ∷ 31 ∷ 30 ∷ 31 ∷ 30 ∷ 31 ∷ []

-- the number of days of the first n years from 1970 onwards
abbrev pub days_of_years : ℕ → ℕ
days_of_years zero = 0
days_of_years (suc n) = days_of_years n + year_length (1970 + n)

-- the days from 1 January 1970 to a day, by its year, its month counted from 0, and its number in
-- the month, which may exceed the length of the month
abbrev pub day_number : ℕ → ℕ → ℕ → ℕ
day_number year month day =
    days_of_years (year - 1970) + (sum (take month (month_lengths year)) + (day - 1))

-- the names of the months, abbreviated to three letters and in full, each with the number of the
-- month counted from 0
abbrev pub months : List (List ℕ × ℕ)
months =
    (codes "Jan", 0) ∷ (codes "January", 0) ∷ (codes "Feb", 1) ∷ (codes "February", 1)
    ∷ (codes "Mar", 2) ∷ (codes "March", 2) ∷ (codes "Apr", 3) ∷ (codes "April", 3)
    ∷ (codes "May", 4) ∷ (codes "Jun", 5) ∷ (codes "June", 5)
    ∷ (codes "Jul", 6) ∷ (codes "July", 6) ∷ (codes "Aug", 7) ∷ (codes "August", 7)
    ∷ (codes "Sep", 8) ∷ (codes "September", 8) ∷ (codes "Oct", 9) ∷ (codes "October", 9)
    ∷ (codes "Nov", 10) ∷ (codes "November", 10) ∷ (codes "Dec", 11) ∷ (codes "December", 11) ∷ []

-- the word is one of these names, of three letters and in the same case
abbrev pub is_month_abbreviation : List ℕ → Bool
is_month_abbreviation word = length word == 3 && list_any (λ row. bytes_eq word row.0) months
