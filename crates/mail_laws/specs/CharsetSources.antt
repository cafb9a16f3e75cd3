-- The candidates for the charset source of a name, by their form (RFC 2231, sections 3 and 4).
use Rattle.std.specs.Prelude.{◌≡◌, ℕ, true, false, nat_eq, List, [], ◌∷◌, ◌++◌}
use Rattle.std.specs.List.{starts_with}
use Rattle.std.specs.Option.{is_some}
use Rattle.mail_codec.specs.Ascii.{asterisk, digit_0}
use Rattle.mailparse.specs.ExtendedValues.{starred}
use Rattle.mailparse.specs.Pairs.{Texts}

-- z is a candidate for the charset source of a name
pub record IsCandidate (keys : Texts) (name z : List ℕ) : Type 0 where
  -- it ends in `*0`
  pub front : List ℕ
  pub initial : z ≡ front ++ asterisk ∷ digit_0 ∷ []
  -- the name begins with it, less its last `0`
  pub begins : starts_with nat_eq name (front ++ asterisk ∷ []) ≡ true
  -- with a star after it, it is a key
  pub starred_key : is_some (keys (starred z)) ≡ true
  -- it is not a key itself
  pub no_key : is_some (keys z) ≡ false
