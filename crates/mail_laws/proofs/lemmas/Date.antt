-- Days that follow each other.
use Rattle.std.proofs.Common.{◌≡◌, ℕ, suc, ◌+◌, ◌-◌, ◌*◌, ◌/◌, ◌<◌, ◌≤◌, Bool, true, false, cond, ltb, List, [], ◌∷◌, length, take, get_or, sum, refl, sym, ap, ◌∙◌, arith}
use Rattle.std.specs.List.{list_all}
use Rattle.std.proofs.lemmas.Bool.{ltb-true}
use Rattle.std.proofs.lemmas.List.Sums.{AllPass-from_list_all, fold_more}
use Rattle.mail_codec.specs.Calendar.{day_number, days_of_years, is_leap_year, month_lengths, year_length}
use Rattle.mail_codec.proofs.lemmas.Calendar.{days_of_years-closed}

pub leap_days : (year : ℕ) → 1970 ≤ year
    → days_of_years (year - 1970) + ((year - 1) / 100 + 477) ≡ 365 * (year - 1970) + ((year - 1) / 4 + (year - 1) / 400)
leap_days year h =
    let same : 1969 + (year - 1970) ≡ year - 1 = omega arith in
    rw (sym same) (days_of_years-closed (year - 1970))

pub in_month : (year month day : ℕ) → 1 ≤ day → 86400 * day_number year month (day + 1) ≡ 86400 * day_number year month day + 86400
in_month year month day h = omega arith

all_some : (xs : List ℕ) (k : ℕ) → list_all (λ n. ltb 0 n) xs ≡ true → k < length xs → 1 ≤ get_or xs k 0
all_some xs k all h = let some = ltb-true 0 _ (AllPass-from_list_all (λ n. ltb 0 n) xs all k 0 h) in omega arith

-- each month has a day
month_some : (leap : Bool) (k : ℕ) → k < 12 → 1 ≤ get_or (31 ∷ cond leap 29 28 ∷ 31 ∷ 30 ∷ 31 ∷ 30 ∷ 31 ∷ 31 ∷ 30 ∷ 31 ∷ 30 ∷ 31 ∷ []) k 0
month_some true k h = all_some (31 ∷ 29 ∷ 31 ∷ 30 ∷ 31 ∷ 30 ∷ 31 ∷ 31 ∷ 30 ∷ 31 ∷ 30 ∷ 31 ∷ []) k refl h
month_some false k h = all_some (31 ∷ 28 ∷ 31 ∷ 30 ∷ 31 ∷ 30 ∷ 31 ∷ 31 ∷ 30 ∷ 31 ∷ 30 ∷ 31 ∷ []) k refl h

pub to_next_month : (year month : ℕ) → month < 11
    → 86400 * day_number year (month + 1) 1 ≡ 86400 * day_number year month (get_or (month_lengths year) month 0) + 86400
to_next_month year month h =
    let more : sum (take (month + 1) (month_lengths year)) ≡ sum (take month (month_lengths year)) + get_or (month_lengths year) month 0 =
    fold_more (λ a b. a + b) 0 (month_lengths year) month 0 (omega arith) in
    let some = month_some (is_leap_year year) month (omega arith) in
    omega (arith, more, some)

-- a year has the days of its months
year_sum : (leap : Bool) → sum (take 11 (31 ∷ cond leap 29 28 ∷ 31 ∷ 30 ∷ 31 ∷ 30 ∷ 31 ∷ 31 ∷ 30 ∷ 31 ∷ 30 ∷ 31 ∷ [])) + 31 ≡ cond leap 366 365
year_sum true = refl
year_sum false = refl

pub to_next_year : (year : ℕ) → 1970 ≤ year → 86400 * day_number (year + 1) 0 1 ≡ 86400 * day_number year 11 31 + 86400
to_next_year year h =
    let next : (year + 1) - 1970 ≡ suc (year - 1970) = omega arith in
    let same : 1970 + (year - 1970) ≡ year = omega arith in
    let step : days_of_years ((year + 1) - 1970) ≡ days_of_years (year - 1970) + year_length year = ap days_of_years next ∙ ap (λ y. days_of_years (year - 1970) + year_length y) same in
    omega (arith, step, year_sum (is_leap_year year))
