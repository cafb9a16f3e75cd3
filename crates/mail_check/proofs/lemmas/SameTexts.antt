-- Lemmas on texts that are equal, ignoring ASCII case.
use Rattle.std.proofs.Common.{◌≡◌, ◌∙◌, ℕ, true, false, List, length, sym, ap}
use Rattle.std.specs.Prelude.{nat_eq}
use Rattle.std.specs.Char.{to_ascii_lowercase}
use Rattle.std.specs.Cmp.Lexicographic.{bytes_decides, unequal}
use Rattle.std.specs.Str.{bytes_eq, str_eq_ignore_ascii_case, str_to_ascii_lowercase}
use Rattle.std.proofs.lemmas.Bool.{eqb-false}
use Rattle.std.proofs.lemmas.List.{length-map}

-- texts of different lengths are not
pub other_length : (text other : List ℕ) → nat_eq (length text) (length other) ≡ false → str_eq_ignore_ascii_case text other ≡ false
other_length text other h =
    unequal nat_eq (str_to_ascii_lowercase text) (str_to_ascii_lowercase other)
    (λ e. eqb-false _ _ h (sym (length-map text to_ascii_lowercase) ∙ e ∙ length-map other to_ascii_lowercase))

-- equal texts are
pub same_spelling : (text other : List ℕ) → bytes_eq text other ≡ true → str_eq_ignore_ascii_case text other ≡ true
same_spelling text other h =
    (bytes_decides (str_to_ascii_lowercase text) (str_to_ascii_lowercase other)).1 (ap str_to_ascii_lowercase ((bytes_decides text other).0 h))
