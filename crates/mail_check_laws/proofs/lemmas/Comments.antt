-- Lemmas on closing parentheses before folds in strict messages.
use Rattle.std.proofs.Common.{◌≡◌, ◌∙◌, ◌+◌, ◌<◌, ℕ, zero, suc, Bool, true, false, List, [], ◌∷◌, length, drop, refl, sym, ap, subst, inl, inr, arith}
use Rattle.std.specs.Prelude.{◌⊎◌, ◌&&◌, ◌||◌, ◌==◌, is_some, not}
use Rattle.std.proofs.lemmas.Bool.{eqb-true}
use Rattle.std.proofs.lemmas.Bool.{and_left, cases_Bool, not_from_false, not_from_true, or_from, or_parts}
use Rattle.mail_codec.specs.Ascii.{carriage_return, closing_parenthesis, is_blank, line_feed}
use Rattle.mail_codec.specs.Places.{begins, has_prefix}
use Rattle.mail_codec.proofs.lemmas.Places.{first_place-here, first_place-past}
use Rattle.mail_check.specs.Bytes.{blank_count, byte_at, first_offset, is_comment_fold, is_fold}
use Rattle.mail_check.specs.Clean.{Nowhere}
use Rattle.mail_check.specs.Lines.{HeaderLine, has_comment_fold}
use Rattle.mail_grammar.specs.Headers.{is_address_name, HasNoFold, fold_later, no_fold, other_byte, feed_only, return_only, return_feed_only, HasNoCommentFold, no_comment, no_parenthesis, parenthesis}
use Rattle.mail_check.proofs.lemmas.Booleans.{second_false}
use Rattle.mail_check_laws.proofs.lemmas.Headers.{gap_parts, two_prefix}
use Rattle.mail_grammar.proofs.lemmas.Boundaries.{eq_flip}

-- a header has such a fold if it has a name of these, and one is found
pub comment-opened : (line : HeaderLine) → has_comment_fold line ≡ (is_address_name line.key && is_some (first_offset (is_comment_fold line.bytes) line.bytes))
unfolding has_comment_fold
comment-opened line = refl

three_prefix : (c d e b : ℕ) (xs : List ℕ) → has_prefix (c ∷ d ∷ e ∷ []) (b ∷ xs) ≡ ((b == c) && has_prefix (d ∷ e ∷ []) xs)
three_prefix c d e b xs = ap (λ (t : Bool). t && has_prefix (d ∷ e ∷ []) xs) (eq_flip c b)

-- no blank is the first byte exactly if or_parts a space or_from a tab is
no_blanks : (xs : List ℕ) → begins is_blank xs ≡ false → (begins (λ b. b == 32) xs ≡ false) × (begins (λ b. b == 9) xs ≡ false)
no_blanks [] h = (refl, refl)
no_blanks (b ∷ rest) h = or_parts (b == 32) (b == 9) h

blanks_no : (xs : List ℕ) → begins (λ b. b == 32) xs ≡ false → begins (λ b. b == 9) xs ≡ false → begins is_blank xs ≡ false
blanks_no [] h e = refl
blanks_no (b ∷ rest) h e = or_from (b == 32) (b == 9) h e

-- a fold, by its first bytes
fold_at : (b : ℕ) (xs : List ℕ) → is_fold (b ∷ xs)
    ≡ (((b == 10) && begins (λ x. x == 32) xs) || (((b == 10) && begins (λ x. x == 9) xs)
    || (((b == 13) && has_prefix (10 ∷ 32 ∷ []) xs) || ((b == 13) && has_prefix (10 ∷ 9 ∷ []) xs))))
fold_at b xs =
    ap (λ (t : Bool). t || (has_prefix (10 ∷ 9 ∷ []) (b ∷ xs) || (has_prefix (13 ∷ 10 ∷ 32 ∷ []) (b ∷ xs) || has_prefix (13 ∷ 10 ∷ 9 ∷ []) (b ∷ xs)))) (two_prefix 10 32 b xs)
    ∙ ap (λ (t : Bool). ((b == 10) && begins (λ x. x == 32) xs) || (t || (has_prefix (13 ∷ 10 ∷ 32 ∷ []) (b ∷ xs) || has_prefix (13 ∷ 10 ∷ 9 ∷ []) (b ∷ xs)))) (two_prefix 10 9 b xs)
    ∙ ap (λ (t : Bool). ((b == 10) && begins (λ x. x == 32) xs) || (((b == 10) && begins (λ x. x == 9) xs) || (t || has_prefix (13 ∷ 10 ∷ 9 ∷ []) (b ∷ xs)))) (three_prefix 13 10 32 b xs)
    ∙ ap (λ (t : Bool). ((b == 10) && begins (λ x. x == 32) xs) || (((b == 10) && begins (λ x. x == 9) xs) || (((b == 13) && has_prefix (10 ∷ 32 ∷ []) xs) || t))) (three_prefix 13 10 9 b xs)

-- four tests of which none passes
none_of_four : (s t u v : Bool) → s ≡ false → t ≡ false → u ≡ false → v ≡ false → (s || (t || (u || v))) ≡ false
none_of_four s t u v a b c d = or_from s _ a (or_from t _ b (or_from u v c d))

record NoneOfFour (s t u v : Bool) : Type 0 where
  first : s ≡ false
  second : t ≡ false
  third : u ≡ false
  fourth : v ≡ false

four_none : (s t u v : Bool) → (s || (t || (u || v))) ≡ false → NoneOfFour s t u v
four_none s t u v h =
    let a = or_parts s _ h in
    let b = or_parts t _ a.1 in
    let c = or_parts u v b.1 in
    record { first = a.0; second = b.0; third = c.0; fourth = c.1 }

-- ---- blanks and what follows them

no_fold_left : (rest : List ℕ) → HasNoFold rest → is_fold (drop (blank_count rest) rest) ≡ false
no_fold_left rest no_fold = refl
no_fold_left rest (fold_later {b = b} {rest = more} is left) =
    ap (λ (n : ℕ). is_fold (drop n (b ∷ more))) (first_place-past (begins (λ x. not (is_blank x))) b more (not_from_true (is_blank b) is)) ∙ no_fold_left more left
no_fold_left rest (other_byte {b = b} {rest = more} is) =
    let parts = gap_parts b is in
    ap (λ (n : ℕ). is_fold (drop n (b ∷ more))) (first_place-here (begins (λ x. not (is_blank x))) (b ∷ more) (not_from_false (is_blank b) parts.0))
    ∙ fold_at b more
    ∙ none_of_four _ _ _ _ (and_left (b == 10) (begins (λ x. x == 32) more) parts.2) (and_left (b == 10) (begins (λ x. x == 9) more) parts.2)
    (and_left (b == 13) (has_prefix (10 ∷ 32 ∷ []) more) parts.1) (and_left (b == 13) (has_prefix (10 ∷ 9 ∷ []) more) parts.1)
no_fold_left rest (feed_only {rest = more} none made) =
    let both = no_blanks more none in
    subst (λ (xs : List ℕ). is_fold (drop (blank_count xs) xs) ≡ false) (sym made) (fold_at 10 more ∙ none_of_four (begins (λ x. x == 32) more) (begins (λ x. x == 9) more) false false both.0 both.1 refl refl)
no_fold_left rest (return_only {rest = more} none made) =
    subst (λ (xs : List ℕ). is_fold (drop (blank_count xs) xs) ≡ false) (sym made)
    (fold_at 13 more ∙ none_of_four false false (has_prefix (10 ∷ 32 ∷ []) more) (has_prefix (10 ∷ 9 ∷ []) more) refl refl (no_pair 32 more none) (no_pair 9 more none))
  where
    no_pair : (c : ℕ) (xs : List ℕ) → begins (λ x. x == 10) xs ≡ false → has_prefix (10 ∷ c ∷ []) xs ≡ false
    no_pair c [] h = refl
    no_pair c (x ∷ xs) h = two_prefix 10 c x xs ∙ and_left (x == 10) _ h
no_fold_left rest (return_feed_only {rest = more} none made) =
    let both = no_blanks more none in
    subst (λ (xs : List ℕ). is_fold (drop (blank_count xs) xs) ≡ false) (sym made)
    (fold_at 13 (10 ∷ more) ∙ none_of_four false false (has_prefix (10 ∷ 32 ∷ []) (10 ∷ more)) (has_prefix (10 ∷ 9 ∷ []) (10 ∷ more)) refl refl
    (two_prefix 10 32 10 more ∙ both.0) (two_prefix 10 9 10 more ∙ both.1))

fold_free : (xs : List ℕ) → is_fold (drop (blank_count xs) xs) ≡ false → HasNoFold xs
fold_free [] h = no_fold
fold_free (b ∷ rest) h = elim (cases_Bool (is_blank b)) [
  | inl e ↦ fold_later e (fold_free rest (sym (ap (λ (n : ℕ). is_fold (drop n (b ∷ rest))) (first_place-past (begins (λ x. not (is_blank x))) b rest (not_from_true (is_blank b) e))) ∙ h))
  | inr e ↦
      let here = sym (ap (λ (n : ℕ). is_fold (drop n (b ∷ rest))) (first_place-here (begins (λ x. not (is_blank x))) (b ∷ rest) (not_from_false (is_blank b) e))) ∙ h in
      by_byte e (cases_Bool (b == 10)) (cases_Bool (b == 13)) (four_none _ _ _ _ (sym (fold_at b rest) ∙ here))
]
  where
    by_rest : (rest : List ℕ) → has_prefix (10 ∷ 32 ∷ []) rest ≡ false → has_prefix (10 ∷ 9 ∷ []) rest ≡ false → b ∷ rest ≡ 13 ∷ rest → HasNoFold (b ∷ rest)
    by_rest [] h k made = return_only refl made
    by_rest (c ∷ more) h k made = elim (cases_Bool (c == 10)) [
      | inr f ↦ return_only f made
      | inl f ↦ return_feed_only
          (blanks_no more (second_false (c == 10) _ f (sym (two_prefix 10 32 c more) ∙ h)) (second_false (c == 10) _ f (sym (two_prefix 10 9 c more) ∙ k)))
          (made ∙ ap (λ (x : ℕ). 13 ∷ x ∷ more) (eqb-true c 10 f))
    ]

    by_byte : is_blank b ≡ false → ((b == 10) ≡ true) ⊎ ((b == 10) ≡ false) → ((b == 13) ≡ true) ⊎ ((b == 13) ≡ false)
        → NoneOfFour ((b == 10) && begins (λ x. x == 32) rest) ((b == 10) && begins (λ x. x == 9) rest) ((b == 13) && has_prefix (10 ∷ 32 ∷ []) rest) ((b == 13) && has_prefix (10 ∷ 9 ∷ []) rest)
        → HasNoFold (b ∷ rest)
    by_byte e (inl f) g four =
        feed_only (blanks_no rest (second_false (b == 10) _ f four.first) (second_false (b == 10) _ f four.second)) (ap (λ (x : ℕ). x ∷ rest) (eqb-true b 10 f))
    by_byte e (inr f) (inl g) four =
        by_rest rest (second_false (b == 13) _ g four.third) (second_false (b == 13) _ g four.fourth) (ap (λ (x : ℕ). x ∷ rest) (eqb-true b 13 g))
    by_byte e (inr f) (inr g) four = other_byte (not_from_false (is_blank b || (b == carriage_return || b == line_feed)) (or_from (is_blank b) _ e (or_from (b == carriage_return) (b == line_feed) g f)))

-- ---- parentheses

next_of : (p : ℕ) → suc p + 1 ≡ suc (p + 1)
next_of p = omega arith

comment_next : (b : ℕ) (rest : List ℕ) (p : ℕ) → is_comment_fold (b ∷ rest) (suc p) ≡ is_comment_fold rest p
comment_next b rest p =
    ap (λ (n : ℕ). byte_at rest p closing_parenthesis && is_fold (drop (blank_count (drop n (b ∷ rest))) (drop n (b ∷ rest)))) (next_of p)

past_parenthesis : (rest : List ℕ) → is_fold (drop (blank_count rest) rest) ≡ false → Nowhere (is_comment_fold rest) rest
    → Nowhere (is_comment_fold (closing_parenthesis ∷ rest)) (closing_parenthesis ∷ rest)
past_parenthesis rest none h zero low = none
past_parenthesis rest none h (suc p) low = comment_next closing_parenthesis rest p ∙ h p (omega arith)

pub comments_nowhere : (bytes : List ℕ) → HasNoCommentFold bytes → Nowhere (is_comment_fold bytes) bytes
comments_nowhere bytes no_comment p low = absurd (omega arith)
comments_nowhere bytes (no_parenthesis {b = b} {rest = rest} other more) zero low = and_left (b == closing_parenthesis) _ other
comments_nowhere bytes (no_parenthesis {b = b} {rest = rest} other more) (suc p) low = comment_next b rest p ∙ comments_nowhere rest more p (omega arith)
comments_nowhere bytes (parenthesis {rest = rest} none more made) p low =
    subst (λ (xs : List ℕ). is_comment_fold xs p ≡ false) (sym made)
    (past_parenthesis rest (no_fold_left rest none) (comments_nowhere rest more) p (subst (λ (xs : List ℕ). p < length xs) made low))

pub nowhere_comments : (bytes : List ℕ) → Nowhere (is_comment_fold bytes) bytes → HasNoCommentFold bytes
nowhere_comments [] h = no_comment
nowhere_comments (b ∷ rest) h = elim (cases_Bool (b == closing_parenthesis)) [
  | inr e ↦ no_parenthesis e (nowhere_comments rest (λ p low. sym (comment_next b rest p) ∙ h (suc p) (omega arith)))
  | inl e ↦
      parenthesis (fold_free rest (second_false (b == closing_parenthesis) _ e (h 0 (omega arith))))
      (nowhere_comments rest (λ p low. sym (comment_next b rest p) ∙ h (suc p) (omega arith))) (ap (λ (x : ℕ). x ∷ rest) (eqb-true b closing_parenthesis e))
]
