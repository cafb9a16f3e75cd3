-- Letters and their values.
use Rattle.std.proofs.Common.{◌≡◌, ℕ, ◌==◌, ◌<◌, Bool, true, false, not, ◌&&◌, Option, Some, None, refl, ap}
use Rattle.std.proofs.lemmas.List.Quantifiers.{position-Some}
use Rattle.std.proofs.lemmas.Bool.{eqb-true, and_parts, not-true}
use Rattle.base64.specs.Tables.{all_below}
use Rattle.base64.proofs.Tables.{all_below_at}
use Rattle.mail_codec.specs.Base64.{alphabet, letter, letter_value, padding}

-- a test that an option is this number
abbrev pub is_value : Option ℕ → ℕ → Bool
is_value None v = false
is_value (Some w) v = w == v

pub is_value_true : (o : Option ℕ) (v : ℕ) → is_value o v ≡ true → o ≡ Some v
is_value_true None v h = cc h
is_value_true (Some w) v h = ap Some (eqb-true w v h)

-- each value's letter has that value, and is no padding
abbrev is_read_back : ℕ → Bool
is_read_back v = is_value (letter_value (letter v)) v && not (letter v == padding)

all_read_back : all_below is_read_back 64 ≡ true
unfolding letter_value
all_read_back = refl

pub letter_value-letter : (v : ℕ) → v < 64 → letter_value (letter v) ≡ Some v
letter_value-letter v h = is_value_true _ v (and_parts _ _ (all_below_at is_read_back 64 v all_read_back h)).0

-- a value comes from its letter
pub letter-letter_value : (b v : ℕ) → letter_value b ≡ Some v → (v < 64) × (letter v ≡ b)
unfolding letter_value
letter-letter_value b v h =
    let parts = position-Some (λ x. x == b) alphabet v 0 h in
    (parts.0, eqb-true _ b parts.1)

pub letter_no_padding : (v : ℕ) → v < 64 → (letter v == padding) ≡ false
letter_no_padding v h = not-true _ (and_parts _ _ (all_below_at is_read_back 64 v all_read_back h)).1
