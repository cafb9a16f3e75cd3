-- How the kit's parser reads a written string: each byte and each character has an escape that is read back, or is
-- unchanged.
use Rattle.std.proofs.Common.{◌≡◌, ℕ, zero, suc, ◌≤◌, ◌/◌, Bool, true, false, cond, not, ◌&&◌, ◌||◌, ◌==◌, nat_le, List, [], ◌∷◌, ◌++◌, take, drop, Option, Some, None, inl, inr, refl, sym, ap, ap₂, subst, ◌∙◌, arith, append_assoc, append-nil, bytes_eq, true≢false}
use Rattle.std.proofs.lemmas.Bool.{agree_below, agree_below_at, and_parts, and_from, cases_lt, cases_Bool, eqb-true, le-leb, le-ltb, ne_eqb, or_cases, or_parts, not-true, eqb-false, ltb-false, false≢true}
use Rattle.std.proofs.lemmas.List.{take-append-drop}
use Rattle.std.proofs.lemmas.List.Folds.{list_all-append}
use Rattle.std.proofs.lemmas.Slice.Eq.{bytes_eq-Decides}
use Rattle.std.specs.Char.{encode_utf8}
use Rattle.std.specs.List.{list_all}
use Rattle.json.proofs.Printed.Strings.{escape_byte_plain}
use Rattle.json.specs.Lex.{Lexeme, token, Mode, lex, lex_byte, between, in_string, operator, space, other, string_token}
use Rattle.json.specs.Token.{Token}
use Rattle.json.specs.Print.{escape_byte}
use Rattle.json.specs.Run.{is_plain}
use Rattle.json.specs.Text.{content, plain, prepend, code_unit, short_escape, is_high_surrogate, is_low_surrogate}
use Rattle.json.specs.Word.{is_operator, is_space}
use Rattle.mail_json_text.specs.JsonText.{begins_three, begins_two, byte_text, escaped, escaped_after, first_text, four_digits, json_text, more_bytes, three_number, two_number}
use Rattle.mail_json_text.specs.JsonLine.{is_within_line}

-- how both readers read a piece of a string before any text; and no byte of the piece is a control
pub record Passes (bytes piece : List ℕ) : Type 0 where
  pub read : (r : List ℕ) → content plain (piece ++ r) ≡ prepend bytes (content plain r)
  pub lexed : (r : List ℕ) → lex in_string (piece ++ r) ≡ lex in_string r
  pub one_line : list_all is_within_line piece ≡ true

abbrev same_option : List ℕ → Option ℕ → Bool
same_option bytes None = false
same_option bytes (Some x) = bytes_eq bytes (x ∷ [])

abbrev spells : List ℕ → Option ℕ → Bool
spells bytes None = false
spells bytes (Some u) = not (is_high_surrogate u) && not (is_low_surrogate u) && bytes_eq bytes (encode_utf8 u)

-- a byte that is itself in a string, and is not DEL
abbrev is_inside : ℕ → Bool
is_inside x = is_plain x && not (x == 127)

-- the piece is read as the bytes: a plain byte, a short escape, or `\u` and four digits
abbrev stands_for : List ℕ → List ℕ → Bool
stands_for bytes [] = false
stands_for bytes (x ∷ []) = is_inside x && bytes_eq bytes (x ∷ [])
stands_for bytes (e ∷ x ∷ []) = (e == 92) && not (x == 117) && is_within_line x && same_option bytes (short_escape x)
stands_for bytes (e ∷ u ∷ a ∷ []) = false
stands_for bytes (e ∷ u ∷ a ∷ b ∷ []) = false
stands_for bytes (e ∷ u ∷ a ∷ b ∷ c ∷ []) = false
stands_for bytes (e ∷ u ∷ a ∷ b ∷ c ∷ d ∷ []) =
    (e == 92) && (u == 117) && (is_inside a && is_inside b && is_inside c && is_inside d) && spells bytes (code_unit a b c d)
stands_for bytes (e ∷ u ∷ a ∷ b ∷ c ∷ d ∷ f ∷ rest) = false

-- ---- the three shapes are read

plain_tests : (x : ℕ) → is_inside x ≡ true → (x ≡ 34 → ⊥) × (x ≡ 92 → ⊥) × (32 ≤ x) × (x ≡ 127 → ⊥)
plain_tests x e =
    let both = and_parts (is_plain x) _ e in
    let none = or_parts ((x == 34) || (x == 92)) _ (not-true _ both.0) in
    let tests = or_parts (x == 34) _ none.0 in
    (eqb-false x 34 tests.0, eqb-false x 92 tests.1, ltb-false x 32 none.1, eqb-false x 127 (not-true _ both.1))

stays_inside : (o s : Bool) (x : ℕ) (r : List ℕ) (k : Mode → List Lexeme) → lex_byte in_string (cond o operator (cond s space other)) x r k ≡ k in_string
stays_inside true s x r k = refl
stays_inside false true x r k = refl
stays_inside false false x r k = refl

within : (x : ℕ) → 32 ≤ x → (x ≡ 127 → ⊥) → is_within_line x ≡ true
within x l d = and_from (nat_le 32 x) (not (x == 127)) (le-leb 32 x l) (ap not (ne_eqb x 127 d))

plain_passes : (x : ℕ) → (x ≡ 34 → ⊥) → (x ≡ 92 → ⊥) → 32 ≤ x → (x ≡ 127 → ⊥) → Passes (x ∷ []) (x ∷ [])
unfolding content lex
plain_passes x q b l d = record {
  read = λ r. rw (ne_eqb x 34 q, ne_eqb x 92 b, le-ltb x 32 l);
  lexed = λ r. rw (ne_eqb x 34 q, ne_eqb x 92 b) (stays_inside (is_operator x) (is_space x) x r (λ m. lex m r));
  one_line = and_from (is_within_line x) true (within x l d) refl;
}

short_passes : (x v : ℕ) → (x == 117) ≡ false → is_within_line x ≡ true → short_escape x ≡ Some v → Passes (v ∷ []) (92 ∷ x ∷ [])
unfolding content lex
short_passes x v n m found = record {
  read = λ r. rw (n, found);
  lexed = λ r. refl;
  one_line = and_from (is_within_line x) true m refl;
}

four_within : (a b c d : ℕ) → is_within_line a ≡ true → is_within_line b ≡ true → is_within_line c ≡ true → is_within_line d ≡ true
    → list_all is_within_line (92 ∷ 117 ∷ a ∷ b ∷ c ∷ d ∷ []) ≡ true
four_within a b c d p q r s =
    and_from (is_within_line a) (is_within_line b && (is_within_line c && (is_within_line d && true))) p
    (and_from (is_within_line b) (is_within_line c && (is_within_line d && true)) q
    (and_from (is_within_line c) (is_within_line d && true) r (and_from (is_within_line d) true s refl)))

long_passes : (a b c d u : ℕ) → is_inside a ≡ true → is_inside b ≡ true → is_inside c ≡ true → is_inside d ≡ true → code_unit a b c d ≡ Some u
    → is_high_surrogate u ≡ false → is_low_surrogate u ≡ false → Passes (encode_utf8 u) (92 ∷ 117 ∷ a ∷ b ∷ c ∷ d ∷ [])
unfolding content lex
long_passes a b c d u pa pb pc pd found high low =
    let fa = plain_tests a pa in
    let fb = plain_tests b pb in
    let fc = plain_tests c pc in
    let fd = plain_tests d pd in
    let ra = plain_passes a fa.0 fa.1 fa.2 fa.3 in
    let rb = plain_passes b fb.0 fb.1 fb.2 fb.3 in
    let rc = plain_passes c fc.0 fc.1 fc.2 fc.3 in
    let rd = plain_passes d fd.0 fd.1 fd.2 fd.3 in
    record {
      read = λ r. rw (found, high, low);
      lexed = λ r. ra.lexed (b ∷ c ∷ d ∷ r) ∙ rb.lexed (c ∷ d ∷ r) ∙ rc.lexed (d ∷ r) ∙ rd.lexed r;
      one_line = four_within a b c d (within a fa.2 fa.3) (within b fb.2 fb.3) (within c fc.2 fc.3) (within d fd.2 fd.3);
    }

read_short : (bytes : List ℕ) (x : ℕ) (o : Option ℕ) → short_escape x ≡ o → (x == 117) ≡ false → is_within_line x ≡ true → same_option bytes o ≡ true
    → Passes bytes (92 ∷ x ∷ [])
read_short bytes x None found n m e = absurd (true≢false (sym e))
read_short bytes x (Some v) found n m e = subst (λ bs. Passes bs (92 ∷ x ∷ [])) (sym ((bytes_eq-Decides bytes (v ∷ [])).0 e)) (short_passes x v n m found)

read_long : (bytes : List ℕ) (a b c d : ℕ) (o : Option ℕ) → code_unit a b c d ≡ o → is_inside a ≡ true → is_inside b ≡ true → is_inside c ≡ true
    → is_inside d ≡ true → spells bytes o ≡ true → Passes bytes (92 ∷ 117 ∷ a ∷ b ∷ c ∷ d ∷ [])
read_long bytes a b c d None found pa pb pc pd e = absurd (true≢false (sym e))
read_long bytes a b c d (Some u) found pa pb pc pd e =
    let p = and_parts (not (is_high_surrogate u) && not (is_low_surrogate u)) _ e in
    let q = and_parts (not (is_high_surrogate u)) _ p.0 in
    subst (λ bs. Passes bs (92 ∷ 117 ∷ a ∷ b ∷ c ∷ d ∷ [])) (sym ((bytes_eq-Decides bytes (encode_utf8 u)).0 p.1))
    (long_passes a b c d u pa pb pc pd found (not-true _ q.0) (not-true _ q.1))

stands_for-passes : (bytes text : List ℕ) → stands_for bytes text ≡ true → Passes bytes text
stands_for-passes bytes [] e = absurd (true≢false (sym e))
stands_for-passes bytes (x ∷ []) e =
    let p = and_parts (is_inside x) _ e in
    let f = plain_tests x p.0 in
    subst (λ bs. Passes bs (x ∷ [])) (sym ((bytes_eq-Decides bytes (x ∷ [])).0 p.1)) (plain_passes x f.0 f.1 f.2 f.3)
stands_for-passes bytes (e ∷ x ∷ []) h =
    let p = and_parts ((e == 92) && not (x == 117) && is_within_line x) _ h in
    let q = and_parts ((e == 92) && not (x == 117)) _ p.0 in
    let r = and_parts (e == 92) _ q.0 in
    subst (λ b. Passes bytes (b ∷ x ∷ [])) (sym (eqb-true e 92 r.0)) (read_short bytes x _ refl (not-true _ r.1) q.1 p.1)
stands_for-passes bytes (e ∷ u ∷ a ∷ []) h = absurd (true≢false (sym h))
stands_for-passes bytes (e ∷ u ∷ a ∷ b ∷ []) h = absurd (true≢false (sym h))
stands_for-passes bytes (e ∷ u ∷ a ∷ b ∷ c ∷ []) h = absurd (true≢false (sym h))
stands_for-passes bytes (e ∷ u ∷ a ∷ b ∷ c ∷ d ∷ []) h =
    let p = and_parts ((e == 92) && (u == 117) && (is_inside a && is_inside b && is_inside c && is_inside d)) _ h in
    let q = and_parts ((e == 92) && (u == 117)) _ p.0 in
    let r = and_parts (e == 92) _ q.0 in
    let abc = and_parts (is_inside a && is_inside b && is_inside c) _ q.1 in
    let ab = and_parts (is_inside a && is_inside b) _ abc.0 in
    let both = and_parts (is_inside a) _ ab.0 in
    subst (λ x. Passes bytes (x ∷ u ∷ a ∷ b ∷ c ∷ d ∷ [])) (sym (eqb-true e 92 r.0))
    (subst (λ x. Passes bytes (92 ∷ x ∷ a ∷ b ∷ c ∷ d ∷ [])) (sym (eqb-true u 117 r.1))
    (read_long bytes a b c d _ refl both.0 both.1 ab.1 abc.1 p.1))
stands_for-passes bytes (e ∷ u ∷ a ∷ b ∷ c ∷ d ∷ f ∷ rest) h = absurd (true≢false (sym h))

-- ---- pieces one after another

prepend-nil : (r : Option (List ℕ)) → prepend [] r ≡ r
prepend-nil None = refl
prepend-nil (Some s) = refl

prepend-prepend : (a b : List ℕ) (r : Option (List ℕ)) → prepend a (prepend b r) ≡ prepend (a ++ b) r
prepend-prepend a b None = refl
prepend-prepend a b (Some s) = ap Some (sym (append_assoc a b s))

passes_nil : Passes [] []
passes_nil = record { read = λ r. sym (prepend-nil _); lexed = λ r. refl; one_line = refl }

passes_then : (a b p q : List ℕ) → Passes a p → Passes b q → Passes (a ++ b) (p ++ q)
passes_then a b p q f g = record {
  read = λ r. ap (content plain) (append_assoc p q r) ∙ f.read (q ++ r) ∙ ap (prepend a) (g.read r) ∙ prepend-prepend a b (content plain r);
  lexed = λ r. ap (lex in_string) (append_assoc p q r) ∙ f.lexed (q ++ r) ∙ g.lexed r;
  one_line = list_all-append is_within_line p q ∙ and_from _ _ f.one_line g.one_line;
}

-- ---- the text of a byte

bytes_read : agree_below (λ x. stands_for (x ∷ []) (byte_text x)) (λ x. true) 128 ≡ true
unfolding escape_byte short_escape code_unit encode_utf8
bytes_read = refl

byte_passes : (x : ℕ) → Passes (x ∷ []) (byte_text x)
byte_passes x = elim (cases_lt x 128) [
  | inl low ↦ stands_for-passes (x ∷ []) (byte_text x) (agree_below_at (λ y. stands_for (y ∷ []) (byte_text y)) (λ y. true) 128 x bytes_read low)
  | inr high ↦ rw (ne_eqb x 127 (λ e. omega arith)) (subst (Passes (x ∷ [])) (sym (escape_byte_plain x (λ e. omega arith) (λ e. omega arith) (omega arith)))
      (plain_passes x (λ e. omega arith) (λ e. omega arith) (omega arith) (λ e. omega arith)))
]

-- ---- the text of a hidden character

given : (t u : Bool) → not t || u ≡ true → t ≡ true → u ≡ true
given true u h e = h
given false u h e = absurd (false≢true e)

-- the escape of a character of two bytes is read as these, and that of one of three
abbrev is_two_read : ℕ → ℕ → Bool
is_two_read a b = stands_for (a ∷ b ∷ []) (four_digits (two_number (a ∷ b ∷ [])))

abbrev is_three_read : ℕ → ℕ → Bool
is_three_read b c = stands_for (226 ∷ b ∷ c ∷ []) (four_digits (three_number (226 ∷ b ∷ c ∷ [])))

-- whatever the last byte is
abbrev are_read : ℕ → Bool
are_read c = not (c / 64 == 2) || (is_two_read 194 c && is_two_read 216 c && is_three_read 128 c && is_three_read 129 c)

all_read : agree_below are_read (λ c. true) 192 ≡ true
unfolding short_escape code_unit encode_utf8
all_read = refl

read_at : (c : ℕ) → (c / 64 == 2) ≡ true → is_two_read 194 c && is_two_read 216 c && is_three_read 128 c && is_three_read 129 c ≡ true
read_at c e =
    let is = eqb-true (c / 64) 2 e in
    given (c / 64 == 2) (is_two_read 194 c && is_two_read 216 c && is_three_read 128 c && is_three_read 129 c)
    (agree_below_at are_read (λ d. true) 192 c all_read (omega (arith, is))) e

two_passes : (a b : ℕ) → (a == 194 || a == 216) ≡ true → (b / 64 == 2) ≡ true → Passes (a ∷ b ∷ []) (four_digits (two_number (a ∷ b ∷ [])))
two_passes a b lead e =
    let three = and_parts (is_two_read 194 b && is_two_read 216 b && is_three_read 128 b) _ (read_at b e) in
    let two = and_parts (is_two_read 194 b && is_two_read 216 b) _ three.0 in
    let one = and_parts (is_two_read 194 b) _ two.0 in
    elim (or_cases (a == 194) (a == 216) lead) [
      | inl is ↦ subst (λ d. Passes (d ∷ b ∷ []) (four_digits (two_number (d ∷ b ∷ [])))) (sym (eqb-true a 194 is))
          (stands_for-passes (194 ∷ b ∷ []) (four_digits (two_number (194 ∷ b ∷ []))) one.0)
      | inr is ↦ subst (λ d. Passes (d ∷ b ∷ []) (four_digits (two_number (d ∷ b ∷ [])))) (sym (eqb-true a 216 is))
          (stands_for-passes (216 ∷ b ∷ []) (four_digits (two_number (216 ∷ b ∷ []))) one.1)
    ]

three_passes : (b c : ℕ) → (b == 128 || b == 129) ≡ true → (c / 64 == 2) ≡ true → Passes (226 ∷ b ∷ c ∷ []) (four_digits (three_number (226 ∷ b ∷ c ∷ [])))
three_passes b c second e =
    let three = and_parts (is_two_read 194 c && is_two_read 216 c && is_three_read 128 c) _ (read_at c e) in
    let two = and_parts (is_two_read 194 c && is_two_read 216 c) _ three.0 in
    elim (or_cases (b == 128) (b == 129) second) [
      | inl is ↦ subst (λ d. Passes (226 ∷ d ∷ c ∷ []) (four_digits (three_number (226 ∷ d ∷ c ∷ [])))) (sym (eqb-true b 128 is))
          (stands_for-passes (226 ∷ 128 ∷ c ∷ []) (four_digits (three_number (226 ∷ 128 ∷ c ∷ []))) two.1)
      | inr is ↦ subst (λ d. Passes (226 ∷ d ∷ c ∷ []) (four_digits (three_number (226 ∷ d ∷ c ∷ [])))) (sym (eqb-true b 129 is))
          (stands_for-passes (226 ∷ 129 ∷ c ∷ []) (four_digits (three_number (226 ∷ 129 ∷ c ∷ []))) three.1)
    ]

-- ---- what the bytes begin with

two_first : (a : ℕ) (bytes : List ℕ) → begins_two (a ∷ bytes) ≡ true → Passes (a ∷ take 1 bytes) (four_digits (two_number (a ∷ bytes)))
two_first a [] e = absurd (true≢false (sym (and_parts (a == 194 || a == 216) _ e).1))
two_first a (b ∷ bytes) e =
    let p = and_parts (a == 194 || a == 216) _ e in
    two_passes a b p.0 (and_parts (b / 64 == 2) _ p.1).0

three_first : (a : ℕ) (bytes : List ℕ) → begins_three (a ∷ bytes) ≡ true → Passes (a ∷ take 2 bytes) (four_digits (three_number (a ∷ bytes)))
three_first a [] e = absurd (true≢false (sym (and_parts (a == 226) _ e).1))
three_first a (b ∷ []) e =
    let p = and_parts (a == 226) _ e in absurd (true≢false (sym (and_parts (b == 128 || b == 129) _ p.1).1))
three_first a (b ∷ c ∷ bytes) e =
    let p = and_parts (a == 226) _ e in
    let q = and_parts (b == 128 || b == 129) _ p.1 in
    subst (λ d. Passes (d ∷ b ∷ c ∷ []) (four_digits (three_number (d ∷ b ∷ c ∷ [])))) (sym (eqb-true a 226 p.0))
    (three_passes b c q.0 (and_parts (c / 64 == 2) _ q.1).0)

first_passes : (b : ℕ) (bytes : List ℕ) → Passes (b ∷ take (more_bytes (b ∷ bytes)) bytes) (first_text (b ∷ bytes))
unfolding first_text more_bytes
first_passes b bytes = elim (cases_Bool (begins_two (b ∷ bytes))) [
  | inl e ↦ rw e (two_first b bytes e)
  | inr e ↦ elim (cases_Bool (begins_three (b ∷ bytes))) [
    | inl f ↦ rw (e, f) (three_first b bytes f)
    | inr f ↦ rw (e, f) (byte_passes b)
  ]
]

-- ---- a string

after_passes : (k : ℕ) (bytes : List ℕ) → Passes (drop k bytes) (escaped_after k bytes)
unfolding escaped_after
after_passes zero [] = passes_nil
after_passes (suc k) [] = passes_nil
after_passes zero (b ∷ bytes) =
    let m = more_bytes (b ∷ bytes) in
    subst (λ t. Passes t (first_text (b ∷ bytes) ++ escaped_after m bytes)) (ap (λ t. b ∷ t) (take-append-drop m bytes))
    (passes_then (b ∷ take m bytes) (drop m bytes) (first_text (b ∷ bytes)) (escaped_after m bytes) (first_passes b bytes) (after_passes m bytes))
after_passes (suc k) (b ∷ bytes) = after_passes k bytes

escaped_passes : (text : List ℕ) → Passes text (escaped text)
escaped_passes text = after_passes 0 text

-- the lexer reads a string as the text
pub lex-json_text : (text r : List ℕ) → lex between (json_text text ++ r) ≡ token (Token.string text) ∷ lex between r
unfolding lex content json_text
lex-json_text text r =
    let f = escaped_passes text in
    ap (λ t. lex between (34 ∷ t)) (append_assoc (escaped text) (34 ∷ []) r)
    ∙ ap₂ (λ o l. token (string_token o) ∷ l)
    (f.read (34 ∷ r) ∙ ap Some (append-nil text)) (f.lexed (34 ∷ r))

-- no byte of a string is a control
pub one_line-json_text : (text : List ℕ) → list_all is_within_line (json_text text) ≡ true
unfolding json_text
one_line-json_text text = list_all-append is_within_line (escaped text) (34 ∷ []) ∙ and_from _ _ (escaped_passes text).one_line refl
