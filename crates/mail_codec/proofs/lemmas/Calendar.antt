-- Days of years, counted without a recursion.
use Rattle.std.proofs.Common.{◌≡◌, ℕ, zero, suc, ◌+◌, ◌*◌, ◌/◌, ◌%◌, Bool, true, false, cond, not, ◌&&◌, ◌||◌, eqb, refl, arith}
use Rattle.std.proofs.lemmas.Bool.{eqb-true, eqb-false}
use Rattle.mail_codec.specs.Calendar.{days_of_years, year_length}

-- what a year adds to the count of leap years
pub year_counts : (y m : ℕ) → y ≡ m + 1 → year_length y + (y / 100 + (m / 4 + m / 400)) ≡ 365 + (m / 100 + (y / 4 + y / 400))
year_counts y m next = go (eqb (y % 4) 0) (eqb (y % 100) 0) (eqb (y % 400) 0) refl refl refl
  where
    go : (a b c : Bool) → eqb (y % 4) 0 ≡ a → eqb (y % 100) 0 ≡ b → eqb (y % 400) 0 ≡ c
        → cond (a && (not b || c)) 366 365 + (y / 100 + (m / 4 + m / 400)) ≡ 365 + (m / 100 + (y / 4 + y / 400))
    go true true true p q r = let a = eqb-true _ _ p in let b = eqb-true _ _ q in let c = eqb-true _ _ r in omega arith
    go true true false p q r = let a = eqb-true _ _ p in let b = eqb-true _ _ q in let c = eqb-false _ _ r in omega arith
    go true false true p q r = let b = eqb-false _ _ q in let c = eqb-true _ _ r in absurd (omega arith)
    go true false false p q r = let a = eqb-true _ _ p in let b = eqb-false _ _ q in let c = eqb-false _ _ r in omega arith
    go false true c p q r = let a = eqb-false _ _ p in let b = eqb-true _ _ q in absurd (omega arith)
    go false false true p q r = let b = eqb-false _ _ q in let c = eqb-true _ _ r in absurd (omega arith)
    go false false false p q r = let a = eqb-false _ _ p in let b = eqb-false _ _ q in let c = eqb-false _ _ r in omega arith

-- the closed count
pub days_of_years-closed : (n : ℕ) → days_of_years n + ((1969 + n) / 100 + 477) ≡ 365 * n + ((1969 + n) / 4 + (1969 + n) / 400)
days_of_years-closed zero = refl
days_of_years-closed (suc n) =
    let before = days_of_years-closed n in
    let year = year_counts (1970 + n) (1969 + n) (omega arith) in
    let same : 1969 + suc n ≡ 1970 + n = omega arith in
    rw same (omega arith)
