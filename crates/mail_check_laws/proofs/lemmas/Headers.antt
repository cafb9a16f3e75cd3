-- Lemmas on the headers of strict messages.
use Rattle.std.proofs.Common.{◌≡◌, ◌∙◌, ◌+◌, ◌-◌, ◌<◌, ◌≤◌, ℕ, zero, suc, Bool, true, false, not, cond, List, [], ◌∷◌, ◌++◌, length, drop, take, refl, sym, ap, subst, inl, inr, arith, append_assoc, length-append, length-drop, length-take, take-append-drop}
use Rattle.std.specs.Prelude.{◌⊎◌, ◌&&◌, ◌||◌, ◌==◌, nat_lt, None, is_some, codes}
use Rattle.std.specs.List.{list_all}
use Rattle.std.proofs.lemmas.Bool.{cases_lt, lt-ltb, le-ltb, eqb-true, eq-eqb}
use Rattle.std.proofs.lemmas.Bool.{and_from, and_left, and_parts, and_right, cases_Bool, not-false, not-true, not_from_false, not_from_true, or_from, or_parts}
use Rattle.std.proofs.lemmas.List.{drop-take, drop-drop}
use Rattle.mail_codec.specs.Ascii.{carriage_return, colon, is_blank, line_feed, space, tilde}
use Rattle.mail_codec.specs.Places.{begins, first_place, has_prefix, is_empty}
use Rattle.mail_codec.proofs.lemmas.Places.{first_place-here, first_place-past, first_place-≤}
use Rattle.mailparse.specs.Header.{ends_header, ends_key, has_colon, header_end, header_length, key_end}
use Rattle.mailparse.proofs.lemmas.Header.{header_end->, header_end-key, key_end-≤}
use Rattle.mail_check.specs.Bytes.{blank_count, byte_at, first_byte, is_blank_fold, is_high, is_line_left}
use Rattle.mail_check.specs.Clean.{Nowhere}
use Rattle.mail_check.specs.Lines.{HeaderLine, has_second_colon, is_bad_key, is_visible}
use Rattle.mail_grammar.specs.Headers.{is_address_name, HasNoCommentFold, is_name_byte, is_value_byte, is_text_byte, HasText, blank_first, text_first, return_first, IsValue, value_ends, value_byte, value_folds, HasNoColonFirst, colon_later, other_first, IsHeader}
use Rattle.mail_check.proofs.lemmas.Booleans.{second_false}
use Rattle.mail_grammar.proofs.lemmas.Boundaries.{all_head, all_tail, eq_flip}

-- ---- truth values and bytes

and_true : (t : Bool) → (t && true) ≡ t
and_true true = refl
and_true false = refl

pub one_prefix : (c : ℕ) (xs : List ℕ) → has_prefix (c ∷ []) xs ≡ begins (λ b. b == c) xs
one_prefix c [] = refl
one_prefix c (b ∷ rest) = and_true (c == b) ∙ eq_flip c b

pub two_prefix : (c d b : ℕ) (xs : List ℕ) → has_prefix (c ∷ d ∷ []) (b ∷ xs) ≡ ((b == c) && begins (λ x. x == d) xs)
two_prefix c d b [] = and_right (c == b) false refl ∙ sym (and_right (b == c) false refl)
two_prefix c d b (x ∷ xs) =
    ap (λ (t : Bool). (c == b) && t) (and_true (d == x) ∙ eq_flip d x) ∙ ap (λ (t : Bool). t && (x == d)) (eq_flip c b)

-- nothing of a line is left exactly if these bytes are there
pub left_at : (b : ℕ) (xs : List ℕ) → is_line_left (b ∷ xs) ≡ ((b == line_feed) || ((b == carriage_return) && begins (λ x. x == line_feed) xs))
left_at b xs = ap (λ (t : Bool). t || has_prefix (carriage_return ∷ line_feed ∷ []) (b ∷ xs)) (one_prefix line_feed (b ∷ xs))
    ∙ ap (λ (t : Bool). (b == line_feed) || t) (two_prefix carriage_return line_feed b xs)

begins_more : (test : ℕ → Bool) (xs ys : List ℕ) → begins test xs ≡ true → begins test (xs ++ ys) ≡ true
begins_more test [] ys h = absurd (cc)
begins_more test (x ∷ xs) ys h = h

begins_take : (test : ℕ → Bool) (n : ℕ) (xs : List ℕ) → begins test (take (suc n) xs) ≡ begins test xs
begins_take test n [] = refl
begins_take test n (x ∷ xs) = refl

-- ---- names

pub name_parts : (b : ℕ) → is_name_byte b ≡ true → (nat_lt space b ≡ true) × (nat_lt tilde b ≡ false) × ((b == colon) ≡ false)
name_parts b h =
    let first = and_parts (nat_lt space b) _ h in
    let second = and_parts (not (nat_lt tilde b)) (not (b == colon)) first.1 in
    (first.0, not-true (nat_lt tilde b) second.0, not-true (b == colon) second.1)

name_byte : (b : ℕ) → is_visible b ≡ true → (b == colon) ≡ false → is_name_byte b ≡ true
name_byte b h e =
    let both = and_parts (nat_lt space b) (not (nat_lt tilde b)) h in
    and_from (nat_lt space b) _ both.0 (and_from (not (nat_lt tilde b)) (not (b == colon)) both.1 (not_from_false (b == colon) e))

pub no_feed : (b : ℕ) → nat_lt space b ≡ true → (b == line_feed) ≡ false
no_feed b h = elim (cases_Bool (b == line_feed)) [
  | inr e ↦ e
  | inl e ↦ let no : nat_lt space line_feed ≡ true = subst (λ (x : ℕ). nat_lt space x ≡ true) (eqb-true b line_feed e) h in absurd (cc)
]

no_key_end : (b : ℕ) → is_name_byte b ≡ true → ends_key b ≡ false
no_key_end b h = let parts = name_parts b h in or_from (b == colon) (b == line_feed) parts.2 (no_feed b parts.0)

names_visible : (name : List ℕ) → list_all is_name_byte name ≡ true → list_all is_visible name ≡ true
names_visible [] h = refl
names_visible (b ∷ name) h =
    let parts = name_parts b (all_head is_name_byte b name h) in
    and_from (is_visible b) _ (and_from (nat_lt space b) (not (nat_lt tilde b)) parts.0 (not_from_false (nat_lt tilde b) parts.1)) (names_visible name (all_tail is_name_byte b name h))

name_ends : (name rest : List ℕ) → list_all is_name_byte name ≡ true → first_place (begins ends_key) (name ++ colon ∷ rest) ≡ length name
name_ends [] rest h = refl
name_ends (b ∷ name) rest h =
    first_place-past (begins ends_key) b (name ++ colon ∷ rest) (no_key_end b (all_head is_name_byte b name h))
    ∙ ap suc (name_ends name rest (all_tail is_name_byte b name h))

pub past_name : (name rest : List ℕ) → drop (length name) (name ++ rest) ≡ rest
past_name [] rest = refl
past_name (b ∷ name) rest = past_name name rest

past_colon : (name rest : List ℕ) → drop (suc (length name)) (name ++ colon ∷ rest) ≡ rest
past_colon [] rest = refl
past_colon (b ∷ name) rest = past_colon name rest

pub front : (name rest : List ℕ) → take (length name) (name ++ rest) ≡ name
front [] rest = refl
front (b ∷ name) rest = ap (λ (xs : List ℕ). b ∷ xs) (front name rest)

-- ---- values

value_parts : (b : ℕ) → is_value_byte b ≡ true → (nat_lt b 128 ≡ true) × ((b == line_feed) ≡ false)
value_parts b h = let both = and_parts (nat_lt b 128) (not (b == line_feed)) h in (both.0, not-true (b == line_feed) both.1)

-- the first LF that no blank follows is the last byte of a value
value_end_at : (value rest : List ℕ) → IsValue value → begins is_blank rest ≡ false → suc (first_place ends_header (value ++ rest)) ≡ length value
value_end_at value rest value_ends after = ap suc (first_place-here ends_header (line_feed ∷ rest) (not_from_false (begins is_blank rest) after))
value_end_at value rest (value_byte {b = b} {rest = more} is left) after =
    ap suc (first_place-past ends_header b (more ++ rest) (and_left (b == line_feed) _ (value_parts b is).1) ∙ value_end_at more rest left after)
value_end_at value rest (value_folds {rest = more} blank text left made) after =
    subst (λ (xs : List ℕ). suc (first_place ends_header (xs ++ rest)) ≡ length xs) (sym made)
    (ap suc (first_place-past ends_header line_feed (more ++ rest) (not_from_true (begins is_blank (more ++ rest)) (begins_more is_blank more rest blank)) ∙ value_end_at more rest left after))

value_low : (value : List ℕ) → IsValue value → list_all (λ b. nat_lt b 128) value ≡ true
value_low value value_ends = refl
value_low value (value_byte {b = b} {rest = more} is left) = and_from (nat_lt b 128) _ (value_parts b is).0 (value_low more left)
value_low value (value_folds {rest = more} blank text left made) = subst (λ (xs : List ℕ). list_all (λ b. nat_lt b 128) xs ≡ true) (sym made) (value_low more left)

-- ---- a header in the grammar, with bytes after it

module _ (name value rest : List ℕ) (is_name : list_all is_name_byte name ≡ true) (is_value : IsValue value) (after : begins is_blank rest ≡ false) where
  pub key_at : key_end (name ++ colon ∷ (value ++ rest)) ≡ length name
  unfolding key_end
  key_at = name_ends name (value ++ rest) is_name

  pub colon_at : has_colon (name ++ colon ∷ (value ++ rest)) ≡ true
  unfolding has_colon
  colon_at =
      ap (λ (n : ℕ). begins (λ b. b == colon) (drop n (name ++ colon ∷ (value ++ rest)))) key_at
      ∙ ap (begins (λ b. b == colon)) (past_name name (colon ∷ (value ++ rest)))

  pub end_at : header_end (name ++ colon ∷ (value ++ rest)) ≡ suc (length name) + first_place ends_header (value ++ rest)
  unfolding header_end
  end_at =
      ap (λ (t : Bool). cond t (suc (key_end (name ++ colon ∷ (value ++ rest)))
      + first_place ends_header (drop (suc (key_end (name ++ colon ∷ (value ++ rest)))) (name ++ colon ∷ (value ++ rest)))) (key_end (name ++ colon ∷ (value ++ rest)))) colon_at
      ∙ ap (λ (n : ℕ). suc n + first_place ends_header (drop (suc n) (name ++ colon ∷ (value ++ rest)))) key_at
      ∙ ap (λ (xs : List ℕ). suc (length name) + first_place ends_header xs) (past_colon name (value ++ rest))

  pub length_at : header_length (name ++ colon ∷ (value ++ rest)) ≡ length (name ++ colon ∷ value)
  unfolding header_length
  length_at =
      let end = end_at in
      let last = value_end_at value rest is_value after in
      let whole = length-append name (colon ∷ (value ++ rest)) in
      let own = length-append name (colon ∷ value) in
      let more = length-append value rest in
      omega (arith, end, last, whole, own, more)

-- ---- what is not found in it

-- no second colon
no_second : (value : List ℕ) → HasNoColonFirst value → has_second_colon value ≡ false
no_second value (colon_later {b = b} {rest = rest} is left) =
    ap (λ (n : ℕ). has_prefix (colon ∷ []) (drop n (b ∷ rest))) (first_place-past (begins (λ x. not (is_blank x))) b rest (not_from_true (is_blank b) is))
    ∙ no_second rest left
no_second value (other_first {b = b} {rest = rest} is other) =
    ap (λ (n : ℕ). has_prefix (colon ∷ []) (drop n (b ∷ rest))) (first_place-here (begins (λ x. not (is_blank x))) (b ∷ rest) (not_from_false (is_blank b) is))
    ∙ one_prefix colon (b ∷ rest) ∙ other

-- what `is_bad_key` says of a key and what follows it
pub bad : List ℕ → List ℕ → Bool
bad key rest = not (has_prefix (codes ":") rest) || (is_empty key || not (list_all is_visible key)) || has_second_colon (drop 1 rest)

pub bad-opened : (line : HeaderLine) → is_bad_key line ≡ bad line.key (drop (length line.key) line.bytes)
unfolding is_bad_key bad
bad-opened line = refl

good-opened : (first : ℕ) (others value : List ℕ) → list_all is_visible (first ∷ others) ≡ true → has_second_colon value ≡ false → bad (first ∷ others) (colon ∷ value) ≡ false
unfolding bad
good-opened first others value visible second = rw (visible, second) refl

pub good_key : (line : HeaderLine) (first : ℕ) (others value : List ℕ) → list_all is_name_byte (first ∷ others) ≡ true → HasNoColonFirst value
    → line.key ≡ first ∷ others → line.bytes ≡ (first ∷ others) ++ colon ∷ value → is_bad_key line ≡ false
good_key line first others value is_name one key bytes =
    bad-opened line
    ∙ ap (λ (xs : List ℕ). bad xs (drop (length xs) line.bytes)) key
    ∙ ap (λ (xs : List ℕ). bad (first ∷ others) (drop (length (first ∷ others)) xs)) bytes
    ∙ ap (bad (first ∷ others)) (past_name (first ∷ others) (colon ∷ value))
    ∙ good-opened first others value (names_visible (first ∷ others) is_name) (no_second value one)

-- no line of blanks
next_of : (p : ℕ) → suc p + 1 ≡ suc (p + 1)
next_of p = omega arith

fold_next : (b : ℕ) (rest : List ℕ) (p : ℕ) → is_blank_fold (b ∷ rest) (suc p) ≡ is_blank_fold rest p
fold_next b rest p =
    ap (λ (n : ℕ). byte_at rest p line_feed && (nat_lt 0 (blank_count (drop n (b ∷ rest))) && is_line_left (drop (blank_count (drop n (b ∷ rest))) (drop n (b ∷ rest))))) (next_of p)

past_byte : (b : ℕ) (rest : List ℕ) → (b == line_feed) ≡ false → Nowhere (is_blank_fold rest) rest → Nowhere (is_blank_fold (b ∷ rest)) (b ∷ rest)
past_byte b rest other h zero low = and_left (b == line_feed) _ other
past_byte b rest other h (suc p) low = fold_next b rest p ∙ h p (omega arith)

past_text : (name rest : List ℕ) → list_all is_name_byte name ≡ true → Nowhere (is_blank_fold rest) rest → Nowhere (is_blank_fold (name ++ rest)) (name ++ rest)
past_text [] rest is h = h
past_text (b ∷ name) rest is h =
    past_byte b (name ++ rest) (no_feed b (name_parts b (all_head is_name_byte b name is)).0) (past_text name rest (all_tail is_name_byte b name is) h)

pub gap_parts : (b : ℕ) → is_text_byte b ≡ true → (is_blank b ≡ false) × ((b == carriage_return) ≡ false) × ((b == line_feed) ≡ false)
gap_parts b h =
    let first = or_parts (is_blank b) _ (not-true (is_blank b || (b == carriage_return || b == line_feed)) h) in
    let second = or_parts (b == carriage_return) (b == line_feed) first.1 in
    (first.0, second.0, second.1)

text_left : (rest : List ℕ) → HasText rest → is_line_left (drop (blank_count rest) rest) ≡ false
text_left rest (blank_first {b = b} {rest = more} is left) =
    ap (λ (n : ℕ). is_line_left (drop n (b ∷ more))) (first_place-past (begins (λ x. not (is_blank x))) b more (not_from_true (is_blank b) is)) ∙ text_left more left
text_left rest (text_first {b = b} {rest = more} is) =
    let parts = gap_parts b is in
    ap (λ (n : ℕ). is_line_left (drop n (b ∷ more))) (first_place-here (begins (λ x. not (is_blank x))) (b ∷ more) (not_from_false (is_blank b) parts.0))
    ∙ left_at b more ∙ or_from (b == line_feed) _ parts.2 (and_left (b == carriage_return) _ parts.1)
text_left rest (return_first {rest = more} other made) =
    subst (λ (xs : List ℕ). is_line_left (drop (blank_count xs) xs) ≡ false) (sym made) (left_at carriage_return more ∙ other)

value_folds_text : (value : List ℕ) → IsValue value → Nowhere (is_blank_fold value) value
value_folds_text value value_ends zero low = refl
value_folds_text value value_ends (suc p) low = absurd (omega arith)
value_folds_text value (value_byte {b = b} {rest = more} is left) p low = past_byte b more (value_parts b is).1 (value_folds_text more left) p low
value_folds_text value (value_folds {rest = more} blank text left made) p low =
    subst (λ (xs : List ℕ). is_blank_fold xs p ≡ false) (sym made) (past_feed more (text_left more text) (value_folds_text more left) p (subst (λ (xs : List ℕ). p < length xs) made low))
  where
    past_feed : (more : List ℕ) → is_line_left (drop (blank_count more) more) ≡ false → Nowhere (is_blank_fold more) more
        → Nowhere (is_blank_fold (line_feed ∷ more)) (line_feed ∷ more)
    past_feed more text h zero low = and_right (nat_lt 0 (blank_count more)) _ text
    past_feed more text h (suc p) low = fold_next line_feed more p ∙ h p (omega arith)

pub header_folds : (name value : List ℕ) → list_all is_name_byte name ≡ true → IsValue value → Nowhere (is_blank_fold (name ++ colon ∷ value)) (name ++ colon ∷ value)
header_folds name value is_name is_value = past_text name (colon ∷ value) is_name (past_byte colon value refl (value_folds_text value is_value))

-- nothing but ASCII
low_place : (xs : List ℕ) → list_all (λ b. nat_lt b 128) xs ≡ true → first_place (begins is_high) xs ≡ length xs
low_place [] h = refl
low_place (b ∷ xs) h =
    first_place-past (begins is_high) b xs (not_from_true (nat_lt b 128) (all_head (λ b. nat_lt b 128) b xs h)) ∙ ap suc (low_place xs (all_tail (λ b. nat_lt b 128) b xs h))

low_none : (xs : List ℕ) → list_all (λ b. nat_lt b 128) xs ≡ true → first_byte is_high xs ≡ None
low_none xs h =
    let same = low_place xs h in
    rw (same, le-ltb (length xs) (length xs) (omega arith)) refl

pub header_low : (value : List ℕ) → IsValue value → first_byte is_high (colon ∷ value) ≡ None
header_low value is_value = low_none (colon ∷ value) (value_low value is_value)

-- ---- a header that is cut from more bytes

few_blanks : (m : ℕ) (rest : List ℕ) → begins is_blank rest ≡ false → begins is_blank (take m rest) ≡ false
few_blanks zero rest h = refl
few_blanks (suc m) rest h = begins_take is_blank m rest ∙ h

same_blanks : (m : ℕ) (rest : List ℕ) → 0 < m → begins is_blank (take m rest) ≡ begins is_blank rest
same_blanks zero rest some = absurd (omega arith)
same_blanks (suc m) rest some = begins_take is_blank m rest

ends_cut : (b m : ℕ) (rest : List ℕ) → ((b == line_feed) && not (begins is_blank rest)) ≡ true → ((b == line_feed) && not (begins is_blank (take m rest))) ≡ true
ends_cut b m rest e =
    let h = and_parts (b == line_feed) (not (begins is_blank rest)) e in
    and_from (b == line_feed) _ h.0 (not_from_false (begins is_blank (take m rest)) (few_blanks m rest (not-true (begins is_blank rest) h.1)))

goes_on_cut : (b m : ℕ) (rest : List ℕ) → 0 < m → ((b == line_feed) && not (begins is_blank rest)) ≡ false
    → ((b == line_feed) && not (begins is_blank (take m rest))) ≡ false
goes_on_cut b m rest some h = ap (λ (t : Bool). (b == line_feed) && not t) (same_blanks m rest some) ∙ h

cut_end : (xs : List ℕ) (m : ℕ) → first_place ends_header xs < m → first_place ends_header (take m xs) ≡ first_place ends_header xs
cut_end xs zero low = absurd (omega arith)
cut_end [] (suc m) low = refl
cut_end (b ∷ rest) (suc m) low = elim (cases_Bool (ends_header (b ∷ rest))) [
  | inl e ↦ first_place-here ends_header (b ∷ take m rest) (ends_cut b m rest e) ∙ sym (first_place-here ends_header (b ∷ rest) e)
  | inr e ↦
      let past = first_place-past ends_header b rest e in
      first_place-past ends_header b (take m rest) (goes_on_cut b m rest (omega (arith, low, past)) e) ∙ ap suc (cut_end rest m (omega (arith, low, past))) ∙ sym past
]

cut_begins : (test : ℕ → Bool) (xs : List ℕ) (m : ℕ) → first_place (begins test) xs < m → first_place (begins test) (take m xs) ≡ first_place (begins test) xs
cut_begins test xs zero low = absurd (omega arith)
cut_begins test [] (suc m) low = refl
cut_begins test (b ∷ rest) (suc m) low = elim (cases_Bool (test b)) [
  | inl e ↦ first_place-here (begins test) (b ∷ take m rest) e ∙ sym (first_place-here (begins test) (b ∷ rest) e)
  | inr e ↦
      let past = first_place-past (begins test) b rest e in
      first_place-past (begins test) b (take m rest) e ∙ ap suc (cut_begins test rest m (omega (arith, low, past))) ∙ sym past
]

-- where a header with a colon ends
colon_opened : (xs : List ℕ) → has_colon xs ≡ true → header_end xs ≡ suc (key_end xs) + first_place ends_header (drop (suc (key_end xs)) xs)
unfolding header_end
colon_opened xs e = ap (λ (t : Bool). cond t (suc (key_end xs) + first_place ends_header (drop (suc (key_end xs)) xs)) (key_end xs)) e

-- up to an offset after its end
module _ (raw : List ℕ) (m : ℕ) (within : suc (header_end raw) ≤ m) where
  key_before : key_end raw ≤ header_end raw
  key_before = elim (cases_Bool (has_colon raw)) [
    | inl e ↦ let more = header_end-> raw e in omega arith
    | inr e ↦ let same = header_end-key raw e in omega arith
  ]

  pub cut_key : key_end (take m raw) ≡ key_end raw
  unfolding key_end
  cut_key = cut_begins ends_key raw m (omega (arith, within, key_before))

  -- what follows an offset before that one
  cut_after : (k : ℕ) → k < m → (n : ℕ) → m ≡ k + n → drop k (take m raw) ≡ take n (drop k raw)
  cut_after k some n is = ap (λ (i : ℕ). drop k (take i raw)) is ∙ drop-take k n raw

  pub cut_colon : has_colon (take m raw) ≡ has_colon raw
  unfolding has_colon
  cut_colon =
      let k = key_end raw in
      let before = key_before in
      ap (λ (i : ℕ). begins (λ b. b == colon) (drop i (take m raw))) cut_key
      ∙ ap (begins (λ b. b == colon)) (cut_after k (omega (arith, within, before)) (suc (m - suc k)) (omega (arith, within, before)))
      ∙ begins_take (λ b. b == colon) (m - suc k) (drop k raw)

  pub cut_header : header_end (take m raw) ≡ header_end raw
  cut_header = elim (cases_Bool (has_colon raw)) [
    | inr e ↦ header_end-key (take m raw) (cut_colon ∙ e) ∙ cut_key ∙ sym (header_end-key raw e)
    | inl e ↦ with_colon e
  ]
    where
      with_colon : has_colon raw ≡ true → header_end (take m raw) ≡ header_end raw
      with_colon e =
          let k = key_end raw in
          let is = colon_opened raw e in
          let after = cut_after (suc k) (omega (arith, within, is)) (m - suc k) (omega (arith, within, is)) in
          colon_opened (take m raw) (cut_colon ∙ e)
          ∙ ap (λ (i : ℕ). suc i + first_place ends_header (drop (suc i) (take m raw))) cut_key
          ∙ ap (λ (xs : List ℕ). suc k + first_place ends_header xs) after
          ∙ ap (λ (i : ℕ). suc k + i) (cut_end (drop (suc k) raw) (m - suc k) (omega (arith, within, is)))
          ∙ sym is

-- ---- a header in which nothing is found

name_of : (raw : List ℕ) → list_all is_visible (take (first_place (begins ends_key) raw) raw) ≡ true
    → list_all is_name_byte (take (first_place (begins ends_key) raw) raw) ≡ true
name_of [] h = refl
name_of (b ∷ rest) h = elim (cases_Bool (ends_key b)) [
  | inl e ↦ subst (λ (n : ℕ). list_all is_name_byte (take n (b ∷ rest)) ≡ true) (sym (first_place-here (begins ends_key) (b ∷ rest) e)) refl
  | inr e ↦
      let past = first_place-past (begins ends_key) b rest e in
      let visible : list_all is_visible (b ∷ take (first_place (begins ends_key) rest) rest) ≡ true = subst (λ (n : ℕ). list_all is_visible (take n (b ∷ rest)) ≡ true) past h in
      let more = take (first_place (begins ends_key) rest) rest in
      subst (λ (n : ℕ). list_all is_name_byte (take n (b ∷ rest)) ≡ true) (sym past)
      (and_from (is_name_byte b) (list_all is_name_byte more) (name_byte b (all_head is_visible b more visible) (or_parts (b == colon) (b == line_feed) e).0)
      (name_of rest (all_tail is_visible b more visible)))
]

text_of : (xs : List ℕ) → is_line_left (drop (blank_count xs) xs) ≡ false → HasText xs
text_of [] h = absurd (cc)
text_of (b ∷ rest) h = elim (cases_Bool (is_blank b)) [
  | inl e ↦ blank_first e (text_of rest (sym (ap (λ (n : ℕ). is_line_left (drop n (b ∷ rest))) (first_place-past (begins (λ x. not (is_blank x))) b rest (not_from_true (is_blank b) e))) ∙ h))
  | inr e ↦
      let here = sym (ap (λ (n : ℕ). is_line_left (drop n (b ∷ rest))) (first_place-here (begins (λ x. not (is_blank x))) (b ∷ rest) (not_from_false (is_blank b) e))) ∙ h in
      let parts = or_parts (b == line_feed) _ (sym (left_at b rest) ∙ here) in
      by_return e parts.0 (cases_Bool (b == carriage_return)) parts.1
]
  where
    by_return : is_blank b ≡ false → (b == line_feed) ≡ false → ((b == carriage_return) ≡ true) ⊎ ((b == carriage_return) ≡ false)
        → ((b == carriage_return) && begins (λ x. x == line_feed) rest) ≡ false → HasText (b ∷ rest)
    by_return e f (inr other) h = text_first (not_from_false (is_blank b || (b == carriage_return || b == line_feed)) (or_from (is_blank b) _ e (or_from (b == carriage_return) (b == line_feed) other f)))
    by_return e f (inl is) h = return_first (second_false (b == carriage_return) _ is h) (ap (λ (x : ℕ). x ∷ rest) (eqb-true b carriage_return is))

some_blanks : (xs : List ℕ) → begins is_blank xs ≡ true → nat_lt 0 (blank_count xs) ≡ true
some_blanks [] h = absurd (cc)
some_blanks (b ∷ rest) h =
    let past = first_place-past (begins (λ x. not (is_blank x))) b rest (not_from_true (is_blank b) h) in
    lt-ltb 0 (blank_count (b ∷ rest)) (omega (arith, past))

value_from : (xs : List ℕ) → first_place ends_header xs < length xs → list_all (λ b. nat_lt b 128) (take (suc (first_place ends_header xs)) xs) ≡ true
    → Nowhere (is_blank_fold (take (suc (first_place ends_header xs)) xs)) (take (suc (first_place ends_header xs)) xs) → IsValue (take (suc (first_place ends_header xs)) xs)
value_from [] short ascii folds = absurd (omega arith)
value_from (b ∷ rest) short ascii folds = elim (cases_Bool (ends_header (b ∷ rest))) [
  | inl e ↦
      subst (λ (n : ℕ). IsValue (take (suc n) (b ∷ rest))) (sym (first_place-here ends_header (b ∷ rest) e))
      (subst (λ (x : ℕ). IsValue (x ∷ [])) (sym (eqb-true b line_feed (and_parts (b == line_feed) _ e).0)) value_ends)
  | inr e ↦
      let past = first_place-past ends_header b rest e in
      let more = take (suc (first_place ends_header rest)) rest in
      let all : list_all (λ b. nat_lt b 128) (b ∷ more) ≡ true = subst (λ (n : ℕ). list_all (λ b. nat_lt b 128) (take (suc n) (b ∷ rest)) ≡ true) past ascii in
      let none : Nowhere (is_blank_fold (b ∷ more)) (b ∷ more) = subst (λ (n : ℕ). Nowhere (is_blank_fold (take (suc n) (b ∷ rest))) (take (suc n) (b ∷ rest))) past folds in
      let ih = value_from rest (omega (arith, short, past)) (all_tail (λ b. nat_lt b 128) b more all) (λ p low. sym (fold_next b more p) ∙ none (suc p) (omega arith)) in
      subst (λ (n : ℕ). IsValue (take (suc n) (b ∷ rest))) (sym past)
      (by_feed (cases_Bool (b == line_feed)) e (all_head (λ b. nat_lt b 128) b more all) (none 0 (omega arith)) ih)
]
  where
    by_feed : ((b == line_feed) ≡ true) ⊎ ((b == line_feed) ≡ false) → ((b == line_feed) && not (begins is_blank rest)) ≡ false → nat_lt b 128 ≡ true
        → ((b == line_feed) && (nat_lt 0 (blank_count (take (suc (first_place ends_header rest)) rest))
        && is_line_left (drop (blank_count (take (suc (first_place ends_header rest)) rest)) (take (suc (first_place ends_header rest)) rest)))) ≡ false
        → IsValue (take (suc (first_place ends_header rest)) rest) → IsValue (b ∷ take (suc (first_place ends_header rest)) rest)
    by_feed (inr other) e low none ih = value_byte (and_from (nat_lt b 128) _ low (not_from_false (b == line_feed) other)) ih
    by_feed (inl is) e low none ih =
        let more = take (suc (first_place ends_header rest)) rest in
        let blank = begins_take is_blank (first_place ends_header rest) rest ∙ not-false (begins is_blank rest) (second_false (b == line_feed) _ is e) in
        value_folds blank (text_of more (second_false (nat_lt 0 (blank_count more)) _ (some_blanks more blank) (second_false (b == line_feed) _ is none))) ih
        (ap (λ (x : ℕ). x ∷ more) (eqb-true b line_feed is))

colon_free : (value : List ℕ) → IsValue value → has_second_colon value ≡ false → HasNoColonFirst value
colon_free value value_ends h = other_first refl refl
colon_free value (value_byte {b = b} {rest = more} is left) h = elim (cases_Bool (is_blank b)) [
  | inl e ↦ colon_later e (colon_free more left (sym (ap (λ (n : ℕ). has_prefix (colon ∷ []) (drop n (b ∷ more))) (first_place-past (begins (λ x. not (is_blank x))) b more (not_from_true (is_blank b) e))) ∙ h))
  | inr e ↦ other_first e (sym (one_prefix colon (b ∷ more)) ∙ sym (ap (λ (n : ℕ). has_prefix (colon ∷ []) (drop n (b ∷ more))) (first_place-here (begins (λ x. not (is_blank x))) (b ∷ more) (not_from_false (is_blank b) e))) ∙ h)
]
colon_free value (value_folds {rest = more} blank text left made) h = subst HasNoColonFirst (sym made) (other_first refl refl)

low_all : (xs : List ℕ) → first_place (begins is_high) xs ≡ length xs → list_all (λ b. nat_lt b 128) xs ≡ true
low_all [] h = refl
low_all (b ∷ xs) h = elim (cases_Bool (nat_lt b 128)) [
  | inl e ↦ let past = first_place-past (begins is_high) b xs (not_from_true (nat_lt b 128) e) in and_from (nat_lt b 128) _ e (low_all xs (omega (arith, past, h)))
  | inr e ↦ let here = first_place-here (begins is_high) (b ∷ xs) (not_from_false (nat_lt b 128) e) in absurd (omega (arith, here, h))
]

pub low_found : (xs : List ℕ) → is_some (first_byte is_high xs) ≡ false → list_all (λ b. nat_lt b 128) xs ≡ true
low_found xs h = elim (cases_lt (first_place (begins is_high) xs) (length xs)) [
  | inl l ↦ let e = lt-ltb (first_place (begins is_high) xs) (length xs) l in let s = rw e at h in absurd (cc)
  | inr g ↦ low_all xs (let most = first_place-≤ (begins is_high) xs in omega (arith, g, most))
]

later_folds : (name rest : List ℕ) → Nowhere (is_blank_fold (name ++ rest)) (name ++ rest) → Nowhere (is_blank_fold rest) rest
later_folds [] rest h = h
later_folds (b ∷ name) rest h = later_folds name rest (λ p low. sym (fold_next b (name ++ rest) p) ∙ h (suc p) (omega arith))

made_of : (key value bytes : List ℕ) → is_empty key ≡ false → list_all is_name_byte key ≡ true → HasNoColonFirst value → IsValue value
    → (is_address_name key ≡ true → HasNoCommentFold bytes) → bytes ≡ key ++ colon ∷ value → IsHeader bytes
made_of [] value bytes some is_name one is_value comments made = absurd (cc)
made_of (first ∷ others) value bytes some is_name one is_value comments made = record {
  first = first;
  others = others;
  value = value;
  is_name = is_name;
  one_colon = one;
  is_value = is_value;
  comments = comments;
  made = made;
}

starts_colon : (xs : List ℕ) → begins (λ b. b == colon) xs ≡ true → xs ≡ colon ∷ drop 1 xs
starts_colon [] h = absurd (cc)
starts_colon (b ∷ rest) h = ap (λ (x : ℕ). x ∷ rest) (eqb-true b colon h)

-- the bytes up to the first LF after the colon that no blank follows
module _ (raw : List ℕ) (short : suc (header_end raw) ≤ length raw) where
  key_length : length (take (key_end raw) raw) ≡ key_end raw
  key_length = let size = length-take (key_end raw) raw in let most = key_end-≤ raw in omega (arith, size, most)

  order : key_end raw ≤ header_end raw
  order = key_before raw (suc (header_end raw)) (omega arith)

  whole : take (suc (header_end raw)) raw ≡ take (key_end raw) raw ++ drop (key_end raw) (take (suc (header_end raw)) raw)
  whole =
      sym (take-append-drop (key_end raw) (take (suc (header_end raw)) raw))
      ∙ ap (λ (xs : List ℕ). xs ++ drop (key_end raw) (take (suc (header_end raw)) raw)) (shorter (key_end raw) (suc (header_end raw)) raw (omega (arith, order)))
    where
      shorter : (m n : ℕ) (xs : List ℕ) → m ≤ n → take m (take n xs) ≡ take m xs
      shorter zero n xs low = refl
      shorter (suc m) zero xs low = absurd (omega arith)
      shorter (suc m) (suc n) [] low = refl
      shorter (suc m) (suc n) (x ∷ xs) low = ap (λ (ys : List ℕ). x ∷ ys) (shorter m n xs (omega arith))

  pub header_from : bad (take (key_end raw) raw) (drop (length (take (key_end raw) raw)) (take (suc (header_end raw)) raw)) ≡ false
      → Nowhere (is_blank_fold (take (suc (header_end raw)) raw)) (take (suc (header_end raw)) raw)
      → list_all (λ b. nat_lt b 128) (drop (length (take (key_end raw) raw)) (take (suc (header_end raw)) raw)) ≡ true
      → (is_address_name (take (key_end raw) raw) ≡ true → HasNoCommentFold (take (suc (header_end raw)) raw))
      → IsHeader (take (suc (header_end raw)) raw)
  unfolding bad has_colon header_end key_end
  header_from is_good folds ascii comments =
      let k = key_end raw in
      let rest = drop k (take (suc (header_end raw)) raw) in
      let opened : bad (take k raw) rest ≡ false = subst (λ (n : ℕ). bad (take k raw) (drop n (take (suc (header_end raw)) raw)) ≡ false) key_length is_good in
      let first = or_parts (not (has_prefix (codes ":") rest) || (is_empty (take k raw) || not (list_all is_visible (take k raw)))) (has_second_colon (drop 1 rest)) opened in
      let second = or_parts (not (has_prefix (codes ":") rest)) (is_empty (take k raw) || not (list_all is_visible (take k raw))) first.0 in
      let third = or_parts (is_empty (take k raw)) (not (list_all is_visible (take k raw))) second.1 in
      let starts : begins (λ b. b == colon) rest ≡ true = sym (one_prefix colon rest) ∙ not-false (has_prefix (codes ":") rest) second.0 in
      let has : has_colon raw ≡ true =
      sym (begins_take (λ b. b == colon) (header_end raw - k) (drop k raw))
      ∙ ap (begins (λ b. b == colon)) (sym (cut_after raw (suc (header_end raw)) (omega arith) k (omega (arith, order)) (suc (header_end raw - k)) (omega (arith, order)))) ∙ starts in
      let is = colon_opened raw has in
      let end = first_place ends_header (drop (suc k) raw) in
      let value = take (suc end) (drop (suc k) raw) in
      let same : drop 1 rest ≡ value =
      drop-drop 1 k (take (suc (header_end raw)) raw) ∙ ap (λ (n : ℕ). drop n (take (suc (header_end raw)) raw)) {x = k + 1} {y = suc k} (omega arith)
      ∙ cut_after raw (suc (header_end raw)) (omega arith) (suc k) (omega (arith, is)) (suc end) (omega (arith, is)) in
      let split : rest ≡ colon ∷ value = starts_colon rest starts ∙ ap (λ (xs : List ℕ). colon ∷ xs) same in
      let made = whole ∙ ap (λ (xs : List ℕ). take k raw ++ xs) split in
      let low : list_all (λ b. nat_lt b 128) (colon ∷ value) ≡ true =
      subst (λ (xs : List ℕ). list_all (λ b. nat_lt b 128) xs ≡ true) split (subst (λ (n : ℕ). list_all (λ b. nat_lt b 128) (drop n (take (suc (header_end raw)) raw)) ≡ true) key_length ascii) in
      let none = later_folds (take k raw ++ colon ∷ []) value (subst (λ (xs : List ℕ). Nowhere (is_blank_fold xs) xs) (made ∙ sym (append_assoc (take k raw) (colon ∷ []) value)) folds) in
      let is_value = value_from (drop (suc k) raw) (let size = length-drop (suc k) raw in omega (arith, size, is, short)) (all_tail (λ b. nat_lt b 128) colon value low) none in
      made_of (take k raw) value (take (suc (header_end raw)) raw) third.0 (name_of raw (not-false (list_all is_visible (take k raw)) third.1))
      (colon_free value is_value (subst (λ (xs : List ℕ). has_second_colon xs ≡ false) same first.1)) is_value comments made
