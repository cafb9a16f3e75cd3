-- The least number that passes a test is one number.
use Rattle.std.proofs.Common.{◌≡◌, ℕ, zero, suc, ◌≤◌, Bool, true, false, cond, sym, arith}
use Rattle.mail_codec.specs.Places.{least}
use Rattle.mail_codec.proofs.lemmas.Places.{least-is, least-before, least-passes}
use Rattle.mail_laws.specs.Least.{IsLeast}

least-≤ : (test : ℕ → Bool) (bound : ℕ) → least test bound ≤ bound
least-≤ test zero = omega arith
least-≤ test (suc bound) =
    let more = least-≤ (λ n. test (suc n)) bound in
    elim (test 0) as (λ v. cond v 0 (suc (least (λ n. test (suc n)) bound)) ≤ suc bound) [ true ↦ omega arith | false ↦ omega arith ]

pub least-is_least : (test : ℕ → Bool) (bound : ℕ) → IsLeast test bound (least test bound)
least-is_least test bound = record { within = least-≤ test bound; passes = least-passes test bound; before = least-before test bound }

pub least-only : (test : ℕ → Bool) (bound n : ℕ) → IsLeast test bound n → n ≡ least test bound
least-only test bound n h = sym (least-is test bound n h.within h.before h.passes)
