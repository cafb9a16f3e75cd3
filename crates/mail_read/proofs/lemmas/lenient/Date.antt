-- Lemmas on dates as mail writes them.
use Rattle.std.proofs.Common.{◌≡◌, ℕ, zero, suc, ◌+◌, ◌*◌, ◌/◌, ◌-◌, ◌^◌, ◌<◌, ◌≤◌, Bool, true, false, cond, leb, List, [], ◌∷◌, length, take, get_or, refl, arith}
use Rattle.std.specs.Char.{digit_value, is_ascii_digit}
use Rattle.std.specs.Int.{IsInRange}
use Rattle.std.specs.List.{prefix_len}
use Rattle.std.specs.Str.Parse.{AllDigits, digits_value}
use Rattle.std.proofs.Math.Nat.{pow-le-pow_right}
use Rattle.std.proofs.lemmas.Bool.{and_parts, lt-ltb, le-ltb, leb-true}
use Rattle.std.proofs.lemmas.Int.Digits.{digits_value-lt, digits_value_more}
use Rattle.std.proofs.lemmas.Str.Parse.{digit_at, digits_value-take-le}
use Rattle.mail_codec.proofs.lemmas.Calendar.{year_counts}
use Rattle.mail_read.specs.lenient.Date.{days_of_years}

-- ---- digits

digit_is : (b : ℕ) → IsInRange 48 57 b → digit_value b ≡ b - 48
digit_is b h = rw (le-ltb b 48 (omega (arith, h.0)), lt-ltb b 58 (omega (arith, h.1))) refl

-- the number with one digit more
pub value-next : (ds : List ℕ) (i : ℕ) → AllDigits 10 ds → i < length ds → 10 * digits_value 10 (take i ds) + (get_or ds i 0 - 48) ≡ digits_value 10 (take (i + 1) ds)
value-next ds i all lt =
    let digit = digit_is (get_or ds i 0) (digit_at ds i all lt) in
    let next = digits_value_more 10 ds i lt in
    omega (arith, digit, next)

pub value-small : (ds : List ℕ) (i : ℕ) → AllDigits 10 ds → length ds ≤ 9 → digits_value 10 (take i ds) < 10 ^ 9
value-small ds i all short =
    let part = digits_value-take-le 10 ds i (omega arith) in
    let whole = digits_value-lt 10 ds all in
    let most = pow-le-pow_right {n = 10} (omega arith) {i = length ds} {j = 9} short in
    omega (arith, part, whole, most)

pub digit_below : (b : ℕ) → is_ascii_digit b ≡ true → digit_value b < 10
digit_below b h =
    let parts = and_parts (leb 48 b) (leb b 57) h in
    let low = leb-true 48 b parts.0 in
    let high = leb-true b 57 parts.1 in
    let same : digit_value b ≡ b - 48 = digit_is b (low, high) in
    omega (arith, low, high, same)

-- a run of digits
pub run-digits : (bytes : List ℕ) → AllDigits 10 (take (prefix_len is_ascii_digit bytes) bytes)
run-digits [] = tt
run-digits (b ∷ bytes) = go (run-digits bytes) (is_ascii_digit b) refl
  where
    go : AllDigits 10 (take (prefix_len is_ascii_digit bytes) bytes) → (t : Bool) → is_ascii_digit b ≡ t
        → AllDigits 10 (take (cond t (1 + prefix_len is_ascii_digit bytes) 0) (b ∷ bytes))
    go later true e = let one : 1 + prefix_len is_ascii_digit bytes ≡ suc (prefix_len is_ascii_digit bytes) = omega arith in rw one (digit_below b e, later)
    go later false e = tt

-- ---- days of years

-- the closed count
pub days_of_years-closed : (n : ℕ) → days_of_years n + ((1899 + n) / 100 + 460) ≡ 365 * n + ((1899 + n) / 4 + (1899 + n) / 400)
days_of_years-closed zero = refl
days_of_years-closed (suc n) =
    let before = days_of_years-closed n in
    let year = year_counts (1900 + n) (1899 + n) (omega arith) in
    let same : 1899 + suc n ≡ 1900 + n = omega arith in
    rw same (omega arith)
