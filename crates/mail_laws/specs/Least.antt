-- The least number that passes a test.
use Rattle.std.specs.Prelude.{◌≡◌, ℕ, ◌<◌, ◌≤◌, Bool, true, false}

-- n is the least number that passes the test, or the bound if no number below it passes
pub record IsLeast (test : ℕ → Bool) (bound n : ℕ) : Type 0 where
  pub within : n ≤ bound
  pub passes : n < bound → test n ≡ true
  pub before : (k : ℕ) → k < n → test k ≡ false
