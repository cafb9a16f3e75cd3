-- Lemmas on headers of one line, which have no folds.
use Rattle.std.proofs.Common.{◌≡◌, ◌∙◌, ◌+◌, ◌<◌, ℕ, Bool, true, false, List, [], ◌∷◌, length, drop, refl, sym, ap, Option, Some, None, arith, inl, inr, drop_of_length-le, length-drop}
use Rattle.std.specs.Prelude.{◌==◌, ◌&&◌, ◌||◌, nat_lt, is_some}
use Rattle.std.proofs.lemmas.Bool.{and_right, cases_lt, eqb-false, ltb-false, ne_eqb}
use Rattle.std.proofs.lemmas.List.{drop-drop}
use Rattle.mail_codec.specs.Places.{begins, byte_place}
use Rattle.mail_codec.proofs.lemmas.Places.{first_place-before}
use Rattle.mail_codec.proofs.lemmas.PlacesSearches.{place_none, place_some}
use Rattle.mail_check.specs.Bytes.{blank_count, byte_at, first_offset, is_blank_fold, is_comment_fold, is_fold, is_line_left}
use Rattle.mail_check.specs.Lines.{HeaderLine, has_blank_fold, has_comment_fold, is_structured}
use Rattle.mail_check.specs.private.Folds.{is_folded, is_inner}
use Rattle.mail_check.proofs.lemmas.Bytes.{and_false, offset-none}

-- no LF comes before the last byte
abbrev pub IsLine : List ℕ → Type 0
IsLine bytes = (k : ℕ) → k + 1 < length bytes → begins (λ b. b == 10) (drop k bytes) ≡ false

-- a header that is not folded is a line
by_place : (bytes : List ℕ) (o : Option ℕ) → o ≡ byte_place bytes 10 → is_inner (length bytes) o ≡ false → IsLine bytes
by_place bytes None is h k low = first_place-before (begins (λ b. b == 10)) bytes k (omega (arith, low, place_none (begins (λ b. b == 10)) bytes is))
by_place bytes (Some p) is h k low =
    first_place-before (begins (λ b. b == 10)) bytes k (omega (arith, low, ltb-false (p + 1) (length bytes) h, (place_some (begins (λ b. b == 10)) bytes p is).0))

pub one_line : (line : HeaderLine) → is_folded line ≡ false → IsLine line.bytes
unfolding is_folded
one_line line h = by_place line.bytes (byte_place line.bytes 10) refl h

-- so is what is left of a line
left : (q : ℕ) (bytes : List ℕ) → IsLine bytes → IsLine (drop q bytes)
left q bytes h k low =
    ap (begins (λ b. b == 10)) (drop-drop k q bytes) ∙ h (q + k) (omega (arith, low, length-drop q bytes))

-- a line begins with no fold
swapped : (a b : ℕ) → (a == b) ≡ false → (b == a) ≡ false
swapped a b h = ne_eqb b a (λ e. eqb-false a b h (sym e))

pub no_fold : (bytes : List ℕ) → IsLine bytes → is_fold bytes ≡ false
no_fold [] h = refl
no_fold (a ∷ []) h = one (10 == a) (13 == a)
  where
    one : (s t : Bool) → ((s && false) || ((s && false) || ((t && false) || (t && false)))) ≡ false
    one true true = refl
    one true false = refl
    one false true = refl
    one false false = refl
no_fold (a ∷ (b ∷ [])) h = rw (swapped a 10 (h 0 (omega arith))) (two (13 == a) (10 == b))
  where
    two : (s t : Bool) → ((s && (t && false)) || (s && (t && false))) ≡ false
    two true true = refl
    two true false = refl
    two false t = refl
no_fold (a ∷ (b ∷ (c ∷ rest))) h = rw (swapped a 10 (h 0 (omega arith)), swapped b 10 (h 1 (omega arith))) (three (13 == a))
  where
    three : (s : Bool) → ((s && false) || (s && false)) ≡ false
    three true = refl
    three false = refl

-- neither of blanks
no_blank_fold_at : (bytes : List ℕ) → IsLine bytes → (p : ℕ) → is_blank_fold bytes p ≡ false
no_blank_fold_at bytes h p = elim (cases_lt (p + 1) (length bytes)) [
  | inl l ↦ and_false (byte_at bytes p 10) _ (h p l)
  | inr g ↦ and_right (byte_at bytes p 10) _ (ap (λ (rest : List ℕ). nat_lt 0 (blank_count rest) && is_line_left (drop (blank_count rest) rest)) (drop_of_length-le bytes g))
]

pub no_blank_fold : (line : HeaderLine) → is_folded line ≡ false → has_blank_fold line ≡ false
no_blank_fold line h = sym (ap (λ (o : Option ℕ). is_some o) (offset-none (is_blank_fold line.bytes) line.bytes (λ k low. no_blank_fold_at line.bytes (one_line line h) k)))

-- nor after a parenthesis
no_comment_fold_at : (bytes : List ℕ) → IsLine bytes → (p : ℕ) → is_comment_fold bytes p ≡ false
no_comment_fold_at bytes h p = and_right (byte_at bytes p 41) _ (no_fold _ (left (blank_count (drop (p + 1) bytes)) (drop (p + 1) bytes) (left (p + 1) bytes h)))

pub no_comment_offset : (line : HeaderLine) → is_folded line ≡ false → None ≡ first_offset (is_comment_fold line.bytes) line.bytes
no_comment_offset line h = offset-none (is_comment_fold line.bytes) line.bytes (λ k low. no_comment_fold_at line.bytes (one_line line h) k)

pub no_comment_fold : (line : HeaderLine) → is_folded line ≡ false → has_comment_fold line ≡ false
unfolding has_comment_fold
no_comment_fold line h = ap (λ (o : Option ℕ). is_structured line && is_some o) (sym (no_comment_offset line h)) ∙ and_right (is_structured line) false refl
