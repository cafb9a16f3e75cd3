-- Pairs without a star in their keys: none of them is extended or numbered.
use Rattle.std.specs.Prelude.{◌≡◌, ℕ, false, ◌==◌, List, All}
use Rattle.std.specs.List.{list_any}
use Rattle.mail_codec.specs.Ascii.{asterisk}

abbrev pub AreStarFree : List (List ℕ × List ℕ) → Type 0
AreStarFree pairs = All (λ pair. list_any (λ b. b == asterisk) pair.0 ≡ false) pairs
