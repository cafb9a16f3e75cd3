-- The headers of a message in which no header is repeated, and no encoding, type and boundary is found, are those of the grammar
-- of strict messages.
use Rattle.std.proofs.Common.{◌≡◌, ◌∙◌, ◌-◌, ◌<◌, ◌≤◌, ℕ, zero, suc, Bool, true, false, not, cond, List, [], ◌∷◌, ◌++◌, length, map, drop, Option, Some, None, refl, sym, ap, subst, inl, inr, arith}
use Rattle.std.specs.Prelude.{◌⊎◌, ◌&&◌, ◌||◌, ◌==◌, nat_eq, nat_lt, filter, is_none, is_some, codes}
use Rattle.std.specs.List.{ends_with, list_all, list_any}
use Rattle.std.specs.Str.{bytes_eq, str_eq_ignore_ascii_case, str_to_ascii_lowercase}
use Rattle.std.proofs.lemmas.Bool.{cases_lt, lt-ltb, le-ltb, eqb-true}
use Rattle.std.proofs.lemmas.Bool.{and_from, and_left, and_parts, and_right, cases_Bool, not-false, not-true, not_from_false, not_from_true}
use Rattle.std.proofs.lemmas.Slice.Eq.{bytes_eq-Decides}
use Rattle.mail_codec.specs.Ascii.{is_blank}
use Rattle.mail_codec.specs.Places.{begins, has_prefix, is_empty}
use Rattle.mail_codec.proofs.lemmas.Places.{first_place-here, first_place-past}
use Rattle.mailparse.specs.ContentType.{ContentType}
use Rattle.mailparse.specs.Header.{Header}
use Rattle.mail_check.specs.Bytes.{blank_count}
use Rattle.mail_check.specs.Lines.{HeaderLine, is_bad_encoding, is_encoding, is_named, is_other_message, second_named, second_of}
use Rattle.mail_check.specs.Multiparts.{dash_with, is_bad_boundary, is_boundary, is_boundary_byte}
use Rattle.mail_grammar.specs.Fields.{HasNone, none_named, another, HasAtMostOne, no_more_headers, other_name, the_one, encoding_names, IsOneOf, name_here, blank_before}
use Rattle.mail_grammar.specs.Fields.{IsBoundary, last_character, more_characters, HasBoundary, of_multipart, of_other}
use Rattle.mail_check.proofs.lemmas.Booleans.{second_false}
use Rattle.mail_check_laws.proofs.lemmas.Keys.{of_line}
use Rattle.mail_grammar.proofs.lemmas.Boundaries.{eq_flip}

-- ---- repeated headers

abbrev first_in : Header → List Header → Header
first_in other [] = other
first_in other (h ∷ hs) = h

only_one : (line : HeaderLine) (lines : List HeaderLine) → second_of (line ∷ lines) ≡ None → lines ≡ []
only_one line [] h = refl
only_one line (second ∷ lines) h = absurd (cc)

module _ (name : List ℕ) where
  none_in : (lines : List HeaderLine) → filter (is_named name) lines ≡ [] → HasNone name (map of_line lines)
  none_in [] h = none_named
  none_in (line ∷ lines) h = elim (cases_Bool (is_named name line)) [
    | inl e ↦ let s = rw e at h in absurd (cc)
    | inr e ↦ let s = rw e at h in another e (none_in lines s)
  ]

  pub most_one : (lines : List HeaderLine) → second_named name lines ≡ None → HasAtMostOne name (map of_line lines)
  most_one [] h = no_more_headers
  most_one (line ∷ lines) h = elim (cases_Bool (is_named name line)) [
    | inl e ↦ let s = rw e at h in the_one e (none_in lines (only_one line (filter (is_named name) lines) s))
    | inr e ↦ let s = rw e at h in other_name e (most_one lines s)
  ]

  in_none : (headers : List Header) → HasNone name headers → (lines : List HeaderLine) → map of_line lines ≡ headers → filter (is_named name) lines ≡ []
  in_none headers none_named [] e = refl
  in_none headers none_named (line ∷ lines) e = absurd (cc)
  in_none headers (another other more) [] e = absurd (cc)
  in_none headers (another {header = header} {headers = rest} other more) (line ∷ lines) e =
      let first : of_line line ≡ header = ap (first_in header) e in
      let left : map of_line lines ≡ rest = ap (drop 1) e in
      let no : is_named name line ≡ false = ap (λ (h : Header). str_eq_ignore_ascii_case h.key name) first ∙ other in
      rw no (in_none rest more lines left)

  pub one_most : (headers : List Header) → HasAtMostOne name headers → (lines : List HeaderLine) → map of_line lines ≡ headers → second_named name lines ≡ None
  one_most headers no_more_headers [] e = refl
  one_most headers no_more_headers (line ∷ lines) e = absurd (cc)
  one_most headers (other_name other more) [] e = refl
  one_most headers (other_name {header = header} {headers = rest} other more) (line ∷ lines) e =
      let first : of_line line ≡ header = ap (first_in header) e in
      let left : map of_line lines ≡ rest = ap (drop 1) e in
      let no : is_named name line ≡ false = ap (λ (h : Header). str_eq_ignore_ascii_case h.key name) first ∙ other in
      rw no (one_most rest more lines left)
  one_most headers (the_one is none) [] e = refl
  one_most headers (the_one {header = header} {headers = rest} is none) (line ∷ lines) e =
      let first : of_line line ≡ header = ap (first_in header) e in
      let left : map of_line lines ≡ rest = ap (drop 1) e in
      let yes : is_named name line ≡ true = ap (λ (h : Header). str_eq_ignore_ascii_case h.key name) first ∙ is in
      rw yes (ap (λ (ls : List HeaderLine). second_of (line ∷ ls)) (in_none rest none lines left))

-- ---- transfer encodings

pub blanks : (b : ℕ) → is_blank b ≡ true → (b ≡ 32) ⊎ (b ≡ 9)
blanks b h = by_test (b == 32) (b == 9) refl refl h
  where
    by_test : (s t : Bool) → (b == 32) ≡ s → (b == 9) ≡ t → (s || t) ≡ true → (b ≡ 32) ⊎ (b ≡ 9)
    by_test true t e f h = inl (eqb-true b 32 e)
    by_test false true e f h = inr (eqb-true b 9 f)
    by_test false false e f h = absurd (cc)

-- no name begins with a blank
no_blank_name : (composite : Bool) (b : ℕ) (rest : List ℕ) → is_blank b ≡ true → list_any (str_eq_ignore_ascii_case (b ∷ rest)) (encoding_names composite) ≡ false
no_blank_name true b rest h = elim (blanks b h) [
  | inl e ↦ subst (λ (x : ℕ). list_any (str_eq_ignore_ascii_case (x ∷ rest)) (encoding_names true) ≡ false) (sym e) refl
  | inr e ↦ subst (λ (x : ℕ). list_any (str_eq_ignore_ascii_case (x ∷ rest)) (encoding_names true) ≡ false) (sym e) refl
]
no_blank_name false b rest h = elim (blanks b h) [
  | inl e ↦ subst (λ (x : ℕ). list_any (str_eq_ignore_ascii_case (x ∷ rest)) (encoding_names false) ≡ false) (sym e) refl
  | inr e ↦ subst (λ (x : ℕ). list_any (str_eq_ignore_ascii_case (x ∷ rest)) (encoding_names false) ≡ false) (sym e) refl
]

abbrev pub trimmed : List ℕ → List ℕ
trimmed value = drop (blank_count value) value

pub trimmed_past : (b : ℕ) (rest : List ℕ) → is_blank b ≡ true → trimmed (b ∷ rest) ≡ trimmed rest
trimmed_past b rest h = ap (λ (n : ℕ). drop n (b ∷ rest)) (first_place-past (begins (λ x. not (is_blank x))) b rest (not_from_true (is_blank b) h))

pub trimmed_here : (b : ℕ) (rest : List ℕ) → is_blank b ≡ false → trimmed (b ∷ rest) ≡ b ∷ rest
trimmed_here b rest h = ap (λ (n : ℕ). drop n (b ∷ rest)) (first_place-here (begins (λ x. not (is_blank x))) (b ∷ rest) (not_from_false (is_blank b) h))

one_of : (names : List (List ℕ)) (value : List ℕ) → list_any (str_eq_ignore_ascii_case (trimmed value)) names ≡ true → IsOneOf names value
one_of names [] h = name_here h
one_of names (b ∷ rest) h = elim (cases_Bool (is_blank b)) [
  | inl e ↦ blank_before e (one_of names rest (sym (ap (λ (xs : List ℕ). list_any (str_eq_ignore_ascii_case xs) names) (trimmed_past b rest e)) ∙ h))
  | inr e ↦ name_here (sym (ap (λ (xs : List ℕ). list_any (str_eq_ignore_ascii_case xs) names) (trimmed_here b rest e)) ∙ h)
]

of_one : (composite : Bool) (value : List ℕ) → IsOneOf (encoding_names composite) value → list_any (str_eq_ignore_ascii_case (trimmed value)) (encoding_names composite) ≡ true
of_one composite value (blank_before {b = b} {rest = rest} is more) =
    ap (λ (xs : List ℕ). list_any (str_eq_ignore_ascii_case xs) (encoding_names composite)) (trimmed_past b rest is) ∙ of_one composite rest more
of_one composite [] (name_here is) = is
of_one composite (b ∷ rest) (name_here is) = elim (cases_Bool (is_blank b)) [
  | inl e ↦ let no = no_blank_name composite b rest e in absurd (cc)
  | inr e ↦ ap (λ (xs : List ℕ). list_any (str_eq_ignore_ascii_case xs) (encoding_names composite)) (trimmed_here b rest e) ∙ is
]

any_five : (t u v w x : Bool) → not (t || (u || (v || (w || x)))) ≡ false → (t || (u || (v || (w || (x || false))))) ≡ true
any_five true u v w x h = refl
any_five false true v w x h = refl
any_five false false true w x h = refl
any_five false false false true x h = refl
any_five false false false false true h = refl
any_five false false false false false h = absurd (cc)

any_three : (t u v w x : Bool) → not (t || (u || (v || (w || x)))) ≡ false → (w || x) ≡ false → (t || (u || (v || false))) ≡ true
any_three true u v w x h e = refl
any_three false true v w x h e = refl
any_three false false true w x h e = refl
any_three false false false true x h e = absurd (cc)
any_three false false false false true h e = absurd (cc)
any_three false false false false false h e = absurd (cc)

five_any : (t u v w x : Bool) → (t || (u || (v || (w || (x || false))))) ≡ true → not (t || (u || (v || (w || x)))) ≡ false
five_any true u v w x h = refl
five_any false true v w x h = refl
five_any false false true w x h = refl
five_any false false false true x h = refl
five_any false false false false true h = refl
five_any false false false false false h = absurd (cc)

three_any : (t u v w x : Bool) → (t || (u || (v || false))) ≡ true → not (t || (u || (v || (w || x)))) ≡ false
three_any true u v w x h = refl
three_any false true v w x h = refl
three_any false false true w x h = refl
three_any false false false w x h = absurd (cc)

-- a text that is one name is no other
pub apart : (v a b : List ℕ) → str_eq_ignore_ascii_case v a ≡ true → str_eq_ignore_ascii_case a b ≡ false
    → str_eq_ignore_ascii_case v b ≡ false
apart v a b e f = ap (λ (xs : List ℕ). bytes_eq xs (str_to_ascii_lowercase b)) ((bytes_eq-Decides (str_to_ascii_lowercase v) (str_to_ascii_lowercase a)).0 e) ∙ f

nor_both : (s t : Bool) → s ≡ false → t ≡ false → (s || t) ≡ false
nor_both false t h e = e
nor_both true t h e = absurd (cc)

not_encoded : (v : List ℕ) → list_any (str_eq_ignore_ascii_case v) (encoding_names true) ≡ true
    → (str_eq_ignore_ascii_case v (codes "base64") || str_eq_ignore_ascii_case v (codes "quoted-printable")) ≡ false
not_encoded v h = by_name (str_eq_ignore_ascii_case v (codes "7bit")) (str_eq_ignore_ascii_case v (codes "8bit")) (str_eq_ignore_ascii_case v (codes "binary")) refl refl refl h
  where
    no : (a : List ℕ) → str_eq_ignore_ascii_case v a ≡ true → str_eq_ignore_ascii_case a (codes "base64") ≡ false → str_eq_ignore_ascii_case a (codes "quoted-printable") ≡ false
        → (str_eq_ignore_ascii_case v (codes "base64") || str_eq_ignore_ascii_case v (codes "quoted-printable")) ≡ false
    no a e f g = nor_both (str_eq_ignore_ascii_case v (codes "base64")) (str_eq_ignore_ascii_case v (codes "quoted-printable")) (apart v a (codes "base64") e f) (apart v a (codes "quoted-printable") e g)

    by_name : (s t u : Bool) → str_eq_ignore_ascii_case v (codes "7bit") ≡ s → str_eq_ignore_ascii_case v (codes "8bit") ≡ t → str_eq_ignore_ascii_case v (codes "binary") ≡ u → (s || (t || (u || false))) ≡ true
        → (str_eq_ignore_ascii_case v (codes "base64") || str_eq_ignore_ascii_case v (codes "quoted-printable")) ≡ false
    by_name true t u e f g h = no (codes "7bit") e refl refl
    by_name false true u e f g h = no (codes "8bit") f refl refl
    by_name false false true e f g h = no (codes "binary") g refl refl
    by_name false false false e f g h = absurd (cc)

module _ (line : HeaderLine) where
  abbrev has : List ℕ → Bool
  has text = str_eq_ignore_ascii_case (trimmed line.value) text

  bad_opened : is_bad_encoding line
      ≡ (is_named (codes "Content-Transfer-Encoding") line && not (has (codes "7bit") || (has (codes "8bit") || (has (codes "binary") || (has (codes "base64") || has (codes "quoted-printable"))))))
  unfolding is_bad_encoding
  bad_opened = refl

  pub found_encoding : (composite : Bool) → is_bad_encoding line ≡ false → (is_encoding line && composite) ≡ false
      → is_named (codes "Content-Transfer-Encoding") line ≡ true → IsOneOf (encoding_names composite) line.value
  found_encoding false bad encoded is =
      let some = second_false (is_named (codes "Content-Transfer-Encoding") line) _ is (sym bad_opened ∙ bad) in
      one_of (encoding_names false) line.value (any_five (has (codes "7bit")) (has (codes "8bit")) (has (codes "binary")) (has (codes "base64")) (has (codes "quoted-printable")) some)
  found_encoding true bad encoded is =
      let some = second_false (is_named (codes "Content-Transfer-Encoding") line) _ is (sym bad_opened ∙ bad) in
      let two = second_false (is_named (codes "Content-Transfer-Encoding") line) (has (codes "base64") || has (codes "quoted-printable")) is (without_true (is_encoding line) encoded) in
      one_of (encoding_names true) line.value (any_three (has (codes "7bit")) (has (codes "8bit")) (has (codes "binary")) (has (codes "base64")) (has (codes "quoted-printable")) some two)
    where
      without_true : (t : Bool) → (t && true) ≡ false → t ≡ false
      without_true false h = refl
      without_true true h = h

  pub encoding_found : (composite : Bool)
      → (is_named (codes "Content-Transfer-Encoding") line ≡ true → IsOneOf (encoding_names composite) line.value)
      → (is_bad_encoding line ≡ false) × ((is_encoding line && composite) ≡ false)
  encoding_found composite h = elim (cases_Bool (is_named (codes "Content-Transfer-Encoding") line)) [
    | inr e ↦ (
      bad_opened ∙ and_left (is_named (codes "Content-Transfer-Encoding") line) _ e,
      and_left (is_encoding line) composite (and_left (is_named (codes "Content-Transfer-Encoding") line) _ e),
    )
    | inl e ↦ by_type composite (of_one composite line.value (h e))
  ]
    where
      by_type : (composite : Bool) → list_any (str_eq_ignore_ascii_case (trimmed line.value)) (encoding_names composite) ≡ true
          → (is_bad_encoding line ≡ false) × ((is_encoding line && composite) ≡ false)
      by_type false some = (
        bad_opened ∙ and_right (is_named (codes "Content-Transfer-Encoding") line) _ (five_any (has (codes "7bit")) (has (codes "8bit")) (has (codes "binary")) (has (codes "base64")) (has (codes "quoted-printable")) some),
        and_right (is_encoding line) false refl,
      )
      by_type true some = (
        bad_opened ∙ and_right (is_named (codes "Content-Transfer-Encoding") line) _ (three_any (has (codes "7bit")) (has (codes "8bit")) (has (codes "binary")) (has (codes "base64")) (has (codes "quoted-printable")) some),
        and_left (is_encoding line) true (and_right (is_named (codes "Content-Transfer-Encoding") line) _ (not_encoded (trimmed line.value) some)),
      )

-- ---- boundaries

ends_space : List ℕ → Bool
ends_space text = ends_with nat_eq text (codes " ")

ends_later : (b c : ℕ) (rest : List ℕ) → ends_space (b ∷ (c ∷ rest)) ≡ ends_space (c ∷ rest)
unfolding ends_space
ends_later b c rest =
    let first : suc (suc (length rest)) - 1 ≡ suc (length rest) = omega arith in
    let second : suc (length rest) - 1 ≡ length rest = omega arith in
    rw (first, second) refl

ends_one : (b : ℕ) → ends_space (b ∷ []) ≡ (32 == b)
unfolding ends_space
ends_one b = right_true (32 == b)
  where
    right_true : (t : Bool) → (t && true) ≡ t
    right_true true = refl
    right_true false = refl

boundary_of : (most : ℕ) (text : List ℕ) → length text ≤ most → is_empty text ≡ false → list_all is_boundary_byte text ≡ true → ends_space text ≡ false → IsBoundary most text
boundary_of zero [] low some all last = absurd (cc)
boundary_of zero (b ∷ rest) low some all last = absurd (omega (arith, low))
boundary_of (suc most) [] low some all last = absurd (cc)
boundary_of (suc most) (b ∷ []) low some all last =
    last_character (and_parts (is_boundary_byte b) true all).0 (eq_flip b 32 ∙ sym (ends_one b) ∙ last)
boundary_of (suc most) (b ∷ (c ∷ rest)) low some all last =
    let both = and_parts (is_boundary_byte b) (list_all is_boundary_byte (c ∷ rest)) all in
    more_characters both.0 (boundary_of most (c ∷ rest) (omega (arith, low)) refl both.1 (sym (ends_later b c rest) ∙ last))

-- what the grammar says of a boundary
record Bounded (most : ℕ) (text : List ℕ) : Type 0 where
  short : length text ≤ most
  some : is_empty text ≡ false
  all : list_all is_boundary_byte text ≡ true
  last : ends_space text ≡ false

of_boundary : (most : ℕ) (text : List ℕ) → IsBoundary most text → Bounded most text
of_boundary most text (last_character {most = less} {b = b} is other) = record {
  short = omega arith;
  some = refl;
  all = and_from (is_boundary_byte b) true is refl;
  last = ends_one b ∙ eq_flip 32 b ∙ other;
}
of_boundary most text (more_characters {most = less} {b = b} {rest = rest} is more) = longer rest (of_boundary less rest more)
  where
    longer : (rest : List ℕ) → Bounded less rest → Bounded (suc less) (b ∷ rest)
    longer [] h = let no = h.some in absurd (cc)
    longer (c ∷ rest) h = record {
      short = let low = h.short in omega (arith, low);
      some = refl;
      all = and_from (is_boundary_byte b) (list_all is_boundary_byte (c ∷ rest)) is h.all;
      last = ends_later b c rest ∙ h.last;
    }

pub below_true : (m n : ℕ) → nat_lt m n ≡ true → m < n
below_true m n h = elim (cases_lt m n) [
  | inl l ↦ l
  | inr g ↦ let no = le-ltb m n g in absurd (cc)
]

pub boundary_found : (text : List ℕ) → is_boundary text ≡ true → IsBoundary 70 text
unfolding is_boundary ends_space
boundary_found text h =
    let first = and_parts (not (is_empty text)) _ h in
    let second = and_parts (nat_lt (length text) 71) _ first.1 in
    let third = and_parts (list_all is_boundary_byte text) (not (ends_with nat_eq text (codes " "))) second.1 in
    let low = below_true (length text) 71 second.0 in
    boundary_of 70 text (omega (arith, low)) (not-true (is_empty text) first.0) third.0 (not-true (ends_with nat_eq text (codes " ")) third.1)

pub found_boundary : (text : List ℕ) → IsBoundary 70 text → is_boundary text ≡ true
unfolding is_boundary ends_space
found_boundary text h =
    let is = of_boundary 70 text h in
    let low = is.short in
    and_from (not (is_empty text)) _ (not_from_false (is_empty text) is.some)
    (and_from (nat_lt (length text) 71) _ (lt-ltb (length text) 71 (omega (arith, low)))
    (and_from (list_all is_boundary_byte text) (not (ends_with nat_eq text (codes " "))) is.all (not_from_false (ends_with nat_eq text (codes " ")) is.last)))

-- ---- types

none_some : (o : Option (List ℕ)) → is_some o ≡ false → o ≡ None
none_some None h = refl
none_some (Some x) h = absurd (cc)

-- what begins with a text begins with each start of it
shorter_prefix : (xs ys zs : List ℕ) → has_prefix (xs ++ ys) zs ≡ true → has_prefix xs zs ≡ true
shorter_prefix [] ys zs h = refl
shorter_prefix (x ∷ xs) ys [] h = absurd (cc)
shorter_prefix (x ∷ xs) ys (z ∷ zs) h =
    let both = and_parts (x == z) (has_prefix (xs ++ ys) zs) h in
    and_from (x == z) (has_prefix xs zs) both.0 (shorter_prefix xs ys zs both.1)

-- a type with this boundary, if it is a multipart and if it begins with `multipart/`
abbrev bad_with : Bool → Bool → Option (List ℕ) → Bool
bad_with several one text = cond several (is_none (cond one (dash_with text) None)) (is_some text)

module _ (ctype : ContentType) where
  bad_boundary : is_bad_boundary ctype ≡ bad_with (has_prefix (codes "multipart") ctype.mimetype) (has_prefix (codes "multipart/") ctype.mimetype) (ctype.params (codes "boundary"))
  unfolding is_bad_boundary
  bad_boundary = refl

  pub has_boundary : is_bad_boundary ctype ≡ false → HasBoundary ctype
  has_boundary h = by_type (has_prefix (codes "multipart") ctype.mimetype) (has_prefix (codes "multipart/") ctype.mimetype) (ctype.params (codes "boundary")) refl refl refl (sym bad_boundary ∙ h)
    where
      by_text : (text : List ℕ) (t : Bool) → is_boundary text ≡ t → has_prefix (codes "multipart/") ctype.mimetype ≡ true → ctype.params (codes "boundary") ≡ Some text
          → is_none (cond t (Some (codes "--" ++ text)) None) ≡ false → HasBoundary ctype
      by_text text true i f g h = of_multipart f g (boundary_found text i)
      by_text text false i f g h = absurd (cc)

      by_type : (s t : Bool) (o : Option (List ℕ)) → has_prefix (codes "multipart") ctype.mimetype ≡ s → has_prefix (codes "multipart/") ctype.mimetype ≡ t
          → ctype.params (codes "boundary") ≡ o → bad_with s t o ≡ false → HasBoundary ctype
      by_type false t o e f g h = of_other e (g ∙ none_some o h)
      by_type true false o e f g h = absurd (cc)
      by_type true true None e f g h = absurd (cc)
      by_type true true (Some text) e f g h = by_text text (is_boundary text) refl f g h

  pub boundary_has : HasBoundary ctype → is_bad_boundary ctype ≡ false
  boundary_has (of_multipart {text = text} f g is) =
      bad_boundary
      ∙ ap (λ (s : Bool). bad_with s (has_prefix (codes "multipart/") ctype.mimetype) (ctype.params (codes "boundary"))) (shorter_prefix (codes "multipart") (codes "/") ctype.mimetype f)
      ∙ ap (λ (t : Bool). bad_with true t (ctype.params (codes "boundary"))) f
      ∙ ap (bad_with true true) g
      ∙ ap (λ (t : Bool). is_none (cond t (Some (codes "--" ++ text)) None)) (found_boundary text is)
  boundary_has (of_other e g) =
      bad_boundary
      ∙ ap (λ (s : Bool). bad_with s (has_prefix (codes "multipart/") ctype.mimetype) (ctype.params (codes "boundary"))) e
      ∙ ap (λ (o : Option (List ℕ)). is_some o) g

  abbrev is_known : Bool
  is_known = bytes_eq ctype.mimetype (codes "message/rfc822") || (bytes_eq ctype.mimetype (codes "message/delivery-status") || bytes_eq ctype.mimetype (codes "message/disposition-notification"))

  other_opened : is_other_message ctype ≡ (has_prefix (codes "message/") ctype.mimetype && not is_known)
  unfolding is_other_message
  other_opened = refl

  abbrev KnownMessage : Type 0
  KnownMessage = has_prefix (codes "message/") ctype.mimetype ≡ true
      → list_any (bytes_eq ctype.mimetype) (codes "message/rfc822" ∷ codes "message/delivery-status" ∷ codes "message/disposition-notification" ∷ []) ≡ true

  three_of : (t u v : Bool) → (t || (u || v)) ≡ true → (t || (u || (v || false))) ≡ true
  three_of true u v h = refl
  three_of false true v h = refl
  three_of false false true h = refl
  three_of false false false h = absurd (cc)

  of_three : (t u v : Bool) → (t || (u || (v || false))) ≡ true → (t || (u || v)) ≡ true
  of_three true u v h = refl
  of_three false true v h = refl
  of_three false false true h = refl
  of_three false false false h = absurd (cc)

  pub known_message : is_other_message ctype ≡ false → KnownMessage
  known_message h e =
      three_of (bytes_eq ctype.mimetype (codes "message/rfc822")) (bytes_eq ctype.mimetype (codes "message/delivery-status")) (bytes_eq ctype.mimetype (codes "message/disposition-notification"))
      (not-false is_known (second_false (has_prefix (codes "message/") ctype.mimetype) (not is_known) e (sym other_opened ∙ h)))

  pub message_known : KnownMessage → is_other_message ctype ≡ false
  message_known h = other_opened ∙ by_type (has_prefix (codes "message/") ctype.mimetype) h
    where
      by_type : (t : Bool) → (t ≡ true → list_any (bytes_eq ctype.mimetype) (codes "message/rfc822" ∷ codes "message/delivery-status" ∷ codes "message/disposition-notification" ∷ []) ≡ true)
          → (t && not is_known) ≡ false
      by_type false h = refl
      by_type true h = not_from_true is_known (of_three (bytes_eq ctype.mimetype (codes "message/rfc822")) (bytes_eq ctype.mimetype (codes "message/delivery-status"))
          (bytes_eq ctype.mimetype (codes "message/disposition-notification")) (h refl))
