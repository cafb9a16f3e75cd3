-- The table of hexadecimal digits.
use Rattle.std.proofs.Common.{◌≡◌, ℕ, ◌<◌, ◌≤◌, true, nat_lt, get_or, refl, arith}
use Rattle.std.specs.Prelude.{unwrap_or}
use Rattle.std.proofs.lemmas.Bool.{agree_below_at, ltb-true}
use Rattle.mail_codec.specs.QuotedPrintable.{digit_value}
use Rattle.mail_codec.specs.declared.transfer.quoted_printable.TheConstants.{DIGIT_VALUES}
use Rattle.mail_codec.proofs.lemmas.CharsetSingleByte.{agree}

-- the table has the value of each digit
pub table_is : (b : ℕ) → b < 256 → get_or DIGIT_VALUES b 0 ≡ unwrap_or (digit_value b) 1000
table_is = agree (λ b. get_or DIGIT_VALUES b 0) (λ b. unwrap_or (digit_value b) 1000) 256 refl

-- the values are small
pub value_small : (b : ℕ) → b < 256 → unwrap_or (digit_value b) 1000 ≤ 1000
value_small b l = omega (arith, ltb-true _ _ (agree_below_at (λ k. nat_lt (unwrap_or (digit_value k) 1000) 1001) (λ _. true) 256 b refl l))
