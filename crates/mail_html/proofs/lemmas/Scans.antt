-- Scans for the first byte with a property.
use Rattle.std.proofs.Common.{◌≡◌, ◌∙◌, ℕ, Bool, true, false, cond, List, length, refl, sym, ap, Some, None}
use Rattle.std.specs.Prelude.{not, nat_lt}
use Rattle.std.specs.Option.{unwrap_or}
use Rattle.std.specs.List.{position_or_len, prefix_len}
use Rattle.mail_codec.specs.Places.{begins, first_place}
use Rattle.mail_codec.proofs.lemmas.Places.{first_place-begins}
use Rattle.mail_codec.proofs.lemmas.Utf7.{position_unwrapped}

not_not : (b : Bool) → not (not b) ≡ b
not_not true = refl
not_not false = refl

-- the first byte that passes, or the length
pub first_unwrapped : (test : ℕ → Bool) (xs : List ℕ)
    → unwrap_or (cond (nat_lt (position_or_len test xs) (length xs)) (Some (position_or_len test xs)) None) (length xs) ≡ first_place (begins test) xs
first_unwrapped test xs = position_unwrapped test xs ∙ sym (first_place-begins test xs)

-- the first byte that does not, or the length
pub prefix_unwrapped : (test : ℕ → Bool) (xs : List ℕ)
    → unwrap_or (cond (nat_lt (position_or_len (λ x. not (test x)) xs) (length xs)) (Some (position_or_len (λ x. not (test x)) xs)) None) (length xs) ≡ prefix_len test xs
prefix_unwrapped test xs =
    position_unwrapped (λ x. not (test x)) xs
    ∙ ap (λ (t : ℕ → Bool). prefix_len t xs) {x = λ x. not (not (test x))} {y = test} (λ i x. not_not (test x) i)
