-- Lemmas on the headers of a message.
use Rattle.std.proofs.Common.{◌≡◌, ℕ, Bool, true, false, List, [], ◌∷◌, length, map, refl, Some}
use Rattle.std.specs.Prelude.{filter, nat_eq}
use Rattle.std.proofs.Math.Dec.{eqb-suc-zero}
use Rattle.mail_check.specs.Findings.{has_none}
use Rattle.mail_check.specs.LineViews.{line_view}
use Rattle.mail_check.specs.declared.lines.HeaderLine as code
use Rattle.mail_check.specs.Lines.{HeaderLine, is_named, second_of}
use Rattle.mail_check.specs.private.Seconds.{second_after}

-- ---- the second header with a name

second_next : (line : HeaderLine) (lines : List HeaderLine) → second_of (line ∷ lines) ≡ second_after true lines
second_next line [] = refl
second_next line (second ∷ lines) = refl

-- a header with the name, when none was seen
pub second_begun : (name : List ℕ) (line : HeaderLine) (lines : List HeaderLine) → is_named name line ≡ true
    → second_after false (filter (is_named name) (line ∷ lines)) ≡ second_after true (filter (is_named name) lines)
second_begun name line lines h = rw h (second_next line (filter (is_named name) lines))

-- when one was seen
pub second_is : (name : List ℕ) (line : HeaderLine) (lines : List HeaderLine) → is_named name line ≡ true
    → second_after true (filter (is_named name) (line ∷ lines)) ≡ Some line
second_is name line lines h = rw h refl

-- a header with another name
pub second_passed : (name : List ℕ) (seen : Bool) (line : HeaderLine) (lines : List HeaderLine) → is_named name line ≡ false
    → second_after seen (filter (is_named name) (line ∷ lines)) ≡ second_after seen (filter (is_named name) lines)
second_passed name seen line lines h = rw h refl

-- there is no header exactly if their number is 0
pub none_counted : (lines : List code.HeaderLine) → nat_eq (length lines) 0 ≡ has_none (map line_view lines)
none_counted [] = refl
none_counted (line ∷ lines) = eqb-suc-zero (length lines)
