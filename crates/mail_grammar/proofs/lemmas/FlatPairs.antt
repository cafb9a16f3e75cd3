-- A plain value without folds is read as its name and its parameters, none of which has an asterisk in its name; the name of such
-- a type is of two words.
use Rattle.std.proofs.Common.{◌≡◌, ◌∙◌, ◌<◌, ◌≤◌, ◌+◌, ℕ, zero, suc, Bool, true, false, not, cond, List, [], ◌∷◌, ◌++◌, length}
use Rattle.std.proofs.Common.{take, drop, Option, Some, None, refl, sym, ap, subst, inl, inr, arith, append_assoc, get_or, length-append}
use Rattle.std.specs.Prelude.{◌&&◌, ◌||◌, ◌==◌, ◌-◌, nat_lt, is_some, slice_index}
use Rattle.std.specs.Char.{is_whitespace, to_ascii_lowercase}
use Rattle.std.specs.List.{after_first, before_first, list_all, list_any, position_or_len, prefix_len}
use Rattle.std.specs.Option.{option_map_or}
use Rattle.std.specs.Str.{IsAscii, bytes_eq, chars, drop_trailing_whitespace, encode_utf8_all, skip_leading_whitespace}
use Rattle.std.specs.Str.{str_to_ascii_lowercase, trim, trim_end, trim_start}
use Rattle.std.proofs.lemmas.Bool.{cases_lt, cond-false, cond-true, false≢true, le-ltb, lt-ltb, ltb-true, ne_eqb, eqb-true, or_cases}
use Rattle.std.proofs.lemmas.Bool.{and_from, and_left, and_parts, and_right, not-true, not_from_false}
use Rattle.std.proofs.lemmas.List.{append-nil, map-append}
use Rattle.std.proofs.lemmas.Slice.Eq.{bytes_eq-Decides}
use Rattle.std.proofs.lemmas.Str.{chars-IsAscii, encodes-IsAscii}
use Rattle.std.proofs.lemmas.Str.Ascii.{IsAscii-from_all}
use Rattle.mail_codec.specs.Ascii.{asterisk, backslash, carriage_return, equals_sign, is_blank, line_feed, quote, semicolon}
use Rattle.mail_codec.specs.Ascii.{slash, space, tab}
use Rattle.mail_codec.specs.Places.{begins, either_place, first_place}
use Rattle.mail_codec.specs.Charset.{Charsets}
use Rattle.mail_codec.proofs.lemmas.Places.{first_place-past}
use Rattle.mailparse.specs.ContentType.{ContentType, content_type_in}
use Rattle.mailparse.specs.Pairs.{is_equals, pair_of, pairs_in, pairs_of, value_of}
use Rattle.mailparse.specs.Sections.{is_star}
use Rattle.mailparse.specs.Segments.{QuoteState, outside, quoted, after, ends, inside_quotes, is_quoted, segments, segments_from}
use Rattle.mailparse.specs.Segments.{unescape, with_front, without_escapes}
use Rattle.mailparse.proofs.lemmas.Pairs.{pair_of-some, pairs_in-some, pairs_of-later, value_of-first}
use Rattle.mailparse.proofs.lemmas.ValuePlain.{graphic_no_whitespace}
use Rattle.mail_read.specs.lenient.Agreement.{is_complete, is_named, is_star_free, is_strict}
use Rattle.mail_read.specs.lenient.Manner.{has_broken_boundary, is_slash, lenient_name, name_of_two}
use Rattle.mail_grammar.specs.Fields.{HasBoundary, of_multipart, of_other}
use Rattle.mail_grammar.specs.Parameters.{is_name_character, is_token_character}
use Rattle.mail_grammar.specs.PlainParameters.{is_plain_byte}
use Rattle.mail_grammar.specs.PlainValues.{IsValueOf, token_of, empty_of, quotes_of, Parameters}
use Rattle.mail_grammar.proofs.lemmas.FlatTypes.{AreFlat, no_flat, flat_semicolon, flat_parameter, IsFlat, differs, flat_complete}
use Rattle.mail_grammar.proofs.lemmas.FlatTypes.{none_below, plain_all, visible}
use Rattle.mail_grammar.proofs.lemmas.Boundaries.{all_head, all_tail, boundary_inner, is_inner}

-- ---- tests of all bytes

abbrev pub is_low : ℕ → Bool
is_low b = nat_lt b 128

pub all_front : (test : ℕ → Bool) (xs ys : List ℕ) → list_all test (xs ++ ys) ≡ true → list_all test xs ≡ true
all_front test [] ys h = refl
all_front test (b ∷ xs) ys h =
    and_from (test b) (list_all test xs) (all_head test b (xs ++ ys) h) (all_front test xs ys (all_tail test b (xs ++ ys) h))

pub all_back : (test : ℕ → Bool) (xs ys : List ℕ) → list_all test (xs ++ ys) ≡ true → list_all test ys ≡ true
all_back test [] ys h = h
all_back test (b ∷ xs) ys h = all_back test xs ys (all_tail test b (xs ++ ys) h)

pub all_both : (test : ℕ → Bool) (xs ys : List ℕ) → list_all test xs ≡ true → list_all test ys ≡ true
    → list_all test (xs ++ ys) ≡ true
all_both test [] ys h k = k
all_both test (b ∷ xs) ys h k =
    and_from (test b) (list_all test (xs ++ ys)) (all_head test b xs h) (all_both test xs ys (all_tail test b xs h) k)

all_weaker : (test other : ℕ → Bool) → ((b : ℕ) → test b ≡ true → other b ≡ true) → (xs : List ℕ) → list_all test xs ≡ true
    → list_all other xs ≡ true
all_weaker test other f [] h = refl
all_weaker test other f (b ∷ xs) h =
    and_from (other b) (list_all other xs) (f b (all_head test b xs h)) (all_weaker test other f xs (all_tail test b xs h))

all_with : (test second other : ℕ → Bool) → ((b : ℕ) → test b ≡ true → second b ≡ true → other b ≡ true) → (xs : List ℕ)
    → list_all test xs ≡ true → list_all second xs ≡ true → list_all other xs ≡ true
all_with test second other f [] h k = refl
all_with test second other f (b ∷ xs) h k =
    and_from (other b) (list_all other xs) (f b (all_head test b xs h) (all_head second b xs k))
    (all_with test second other f xs (all_tail test b xs h) (all_tail second b xs k))

all_skip : (test : ℕ → Bool) (xs : List ℕ) → list_all test xs ≡ true → list_all test (skip_leading_whitespace xs) ≡ true
all_skip test [] h = refl
all_skip test (b ∷ xs) h = by_white (is_whitespace b) (all_skip test xs (all_tail test b xs h))
  where
    by_white : (t : Bool) → list_all test (skip_leading_whitespace xs) ≡ true
        → list_all test (cond t (skip_leading_whitespace xs) (b ∷ xs)) ≡ true
    by_white true more = more
    by_white false more = h

all_trailing : (test : ℕ → Bool) (xs : List ℕ) → list_all test xs ≡ true → list_all test (drop_trailing_whitespace xs) ≡ true
all_trailing test [] h = refl
all_trailing test (b ∷ xs) h =
    by_white (is_whitespace b && (length (drop_trailing_whitespace xs) == 0)) (all_trailing test xs (all_tail test b xs h))
  where
    by_white : (t : Bool) → list_all test (drop_trailing_whitespace xs) ≡ true
        → list_all test (cond t [] (b ∷ drop_trailing_whitespace xs)) ≡ true
    by_white true more = refl
    by_white false more = and_from (test b) (list_all test (drop_trailing_whitespace xs)) (all_head test b xs h) more

-- ---- trimming of ASCII

pub low_ascii : (xs : List ℕ) → list_all is_low xs ≡ true → IsAscii xs
low_ascii xs h = IsAscii-from_all xs (to_all xs h)
  where
    to_all : (xs : List ℕ) → list_all is_low xs ≡ true → (i d : ℕ) → i < length xs → get_or xs i d < 128
    to_all [] h i d low = absurd (omega (arith, low))
    to_all (b ∷ xs) h zero d low = ltb-true b 128 (all_head is_low b xs h)
    to_all (b ∷ xs) h (suc i) d low = to_all xs (all_tail is_low b xs h) i d (omega (arith, low))

trim_low : (xs : List ℕ) → list_all is_low xs ≡ true → trim xs ≡ drop_trailing_whitespace (skip_leading_whitespace xs)
unfolding trim_start trim_end
trim_low xs h =
    let skipped = all_skip is_low xs h in
    let left : List ℕ = skip_leading_whitespace xs in
    ap (λ (cs : List ℕ). encode_utf8_all (drop_trailing_whitespace (chars (encode_utf8_all (skip_leading_whitespace cs)))))
    (chars-IsAscii xs (low_ascii xs h))
    ∙ ap (λ (cs : List ℕ). encode_utf8_all (drop_trailing_whitespace (chars cs))) (encodes-IsAscii left (low_ascii left skipped))
    ∙ ap (λ (cs : List ℕ). encode_utf8_all (drop_trailing_whitespace cs)) (chars-IsAscii left (low_ascii left skipped))
    ∙ encodes-IsAscii (drop_trailing_whitespace left)
    (low_ascii (drop_trailing_whitespace left) (all_trailing is_low left skipped))

-- a visible character of ASCII that is no slash
abbrev is_solid : ℕ → Bool
is_solid b = nat_lt 32 b && (nat_lt b 127 && not (b == slash))

solid_white : (b : ℕ) → is_solid b ≡ true → is_whitespace b ≡ false
solid_white b h =
    let parts = and_parts (nat_lt 32 b) (nat_lt b 127 && not (b == slash)) h in
    let low = ltb-true 32 b parts.0 in
    let high = ltb-true b 127 (and_parts (nat_lt b 127) (not (b == slash)) parts.1).0 in
    graphic_no_whitespace b (omega (arith, low)) (omega (arith, high))

solid_low : (b : ℕ) → is_solid b ≡ true → is_low b ≡ true
solid_low b h =
    let parts = and_parts (nat_lt 32 b) (nat_lt b 127 && not (b == slash)) h in
    let high = ltb-true b 127 (and_parts (nat_lt b 127) (not (b == slash)) parts.1).0 in
    lt-ltb b 128 (omega (arith, high))

solid_no_slash : (b : ℕ) → is_solid b ≡ true → not (is_slash b) ≡ true
solid_no_slash b h =
    (and_parts (nat_lt b 127) (not (b == slash)) (and_parts (nat_lt 32 b) (nat_lt b 127 && not (b == slash)) h).1).1

-- a byte of ASCII that is no whitespace
abbrev is_seen : ℕ → Bool
is_seen b = not (is_whitespace b) && is_low b

seen_black : (b : ℕ) → is_seen b ≡ true → is_whitespace b ≡ false
seen_black b is = not-true (is_whitespace b) (and_parts (not (is_whitespace b)) (is_low b) is).0

skip_seen : (xs : List ℕ) → list_all is_seen xs ≡ true → skip_leading_whitespace xs ≡ xs
skip_seen [] h = refl
skip_seen (b ∷ xs) h =
    cond-false (is_whitespace b) (skip_leading_whitespace xs) (b ∷ xs) (seen_black b (all_head is_seen b xs h))

trailing_seen : (xs : List ℕ) → list_all is_seen xs ≡ true → drop_trailing_whitespace xs ≡ xs
trailing_seen [] h = refl
trailing_seen (b ∷ xs) h =
    cond-false (is_whitespace b && (length (drop_trailing_whitespace xs) == 0)) [] (b ∷ drop_trailing_whitespace xs)
    (and_left (is_whitespace b) (length (drop_trailing_whitespace xs) == 0) (seen_black b (all_head is_seen b xs h)))
    ∙ ap (λ (ys : List ℕ). b ∷ ys) (trailing_seen xs (all_tail is_seen b xs h))

blank_white : (b : ℕ) → is_blank b ≡ true → is_whitespace b ≡ true
blank_white b h = elim (or_cases (b == space) (b == tab) h) [
  | inl e ↦ ap is_whitespace (eqb-true b space e)
  | inr e ↦ ap is_whitespace (eqb-true b tab e)
]

pub skip_blanks : (blanks run : List ℕ) → list_all is_blank blanks ≡ true → skip_leading_whitespace run ≡ run
    → skip_leading_whitespace (blanks ++ run) ≡ run
skip_blanks [] run all e = e
skip_blanks (c ∷ blanks) run all e =
    cond-true (is_whitespace c) (skip_leading_whitespace (blanks ++ run)) (c ∷ (blanks ++ run))
    (blank_white c (all_head is_blank c blanks all))
    ∙ skip_blanks blanks run (all_tail is_blank c blanks all) e

trim_seen : (blanks xs : List ℕ) → list_all is_blank blanks ≡ true → list_all is_seen xs ≡ true
    → list_all is_low (blanks ++ xs) ≡ true → trim (blanks ++ xs) ≡ xs
trim_seen blanks xs all seen low =
    trim_low (blanks ++ xs) low ∙ ap drop_trailing_whitespace (skip_blanks blanks xs all (skip_seen xs seen))
    ∙ trailing_seen xs seen

trim_solid : (xs : List ℕ) → list_all is_solid xs ≡ true → trim xs ≡ xs
trim_solid xs h =
    trim_seen [] xs refl (all_weaker is_solid is_seen seen xs h) (all_weaker is_solid is_low solid_low xs h)
  where
    seen : (b : ℕ) → is_solid b ≡ true → is_seen b ≡ true
    seen b h = and_from (not (is_whitespace b)) (is_low b) (not_from_false (is_whitespace b) (solid_white b h)) (solid_low b h)

pub dark : (test : ℕ → Bool) → none_below test 33 ≡ true → test 127 ≡ false → (b : ℕ) → test b ≡ true → is_low b ≡ true
    → is_whitespace b ≡ false
dark test h e b is low =
    let least = visible test h b is in
    let most = ltb-true b 128 low in
    elim (cases_lt b 127) [
      | inl l ↦ graphic_no_whitespace b least (omega (arith, l))
      | inr g ↦
          let same : b ≡ 127 = omega (arith, most, g) in
          absurd (false≢true (sym e ∙ ap test (sym same) ∙ is))
    ]

all_seen : (test : ℕ → Bool) → none_below test 33 ≡ true → test 127 ≡ false → (xs : List ℕ) → list_all test xs ≡ true
    → list_all is_low xs ≡ true → list_all is_seen xs ≡ true
all_seen test h e xs all low =
    all_with test is_low is_seen
    (λ b is low. and_from (not (is_whitespace b)) (is_low b) (not_from_false (is_whitespace b) (dark test h e b is low)) low) xs all low

token_solid : (b : ℕ) → is_token_character b ≡ true → is_low b ≡ true → is_solid b ≡ true
token_solid b h low =
    let first = visible is_token_character refl b h in
    let last = ltb-true b 128 low in
    and_from (nat_lt 32 b) (nat_lt b 127 && not (b == slash)) (lt-ltb 32 b (omega (arith, first)))
    (and_from (nat_lt b 127) (not (b == slash)) (below last (differs is_token_character 127 refl b h))
    (not_from_false (b == slash) (differs is_token_character slash refl b h)))
  where
    below : b < 128 → (b == 127) ≡ false → nat_lt b 127 ≡ true
    below last other = elim (cases_lt b 127) [
      | inl l ↦ lt-ltb b 127 l
      | inr g ↦ let same : b ≡ 127 = omega (arith, last, g) in absurd (false≢true (sym other ∙ ap (λ (x : ℕ). x == 127) same))
    ]

-- ---- lower case

lower_keeps : (test : ℕ → Bool) → ((n : ℕ) → 97 ≤ n → n ≤ 122 → test n ≡ true) → (b : ℕ) → test b ≡ true
    → test (to_ascii_lowercase b) ≡ true
lower_keeps test f b h = elim (cases_lt b 65) [
  | inl l ↦ ap test (cond-true (nat_lt b 65) b _ (lt-ltb b 65 l)) ∙ h
  | inr g ↦ elim (cases_lt b 91) [
    | inl l ↦ ap test (cond-false (nat_lt b 65) b _ (le-ltb b 65 g) ∙ cond-true (nat_lt b 91) (b + 32) b (lt-ltb b 91 l))
        ∙ f (b + 32) (omega (arith, g)) (omega (arith, l))
    | inr k ↦ ap test (cond-false (nat_lt b 65) b _ (le-ltb b 65 g) ∙ cond-false (nat_lt b 91) (b + 32) b (le-ltb b 91 k)) ∙ h
  ]
]

all_lower : (test : ℕ → Bool) → ((n : ℕ) → 97 ≤ n → n ≤ 122 → test n ≡ true) → (xs : List ℕ) → list_all test xs ≡ true
    → list_all test (str_to_ascii_lowercase xs) ≡ true
all_lower test f [] h = refl
all_lower test f (b ∷ xs) h =
    and_from (test (to_ascii_lowercase b)) (list_all test (str_to_ascii_lowercase xs))
    (lower_keeps test f b (all_head test b xs h)) (all_lower test f xs (all_tail test b xs h))

-- ---- what is before and after the first byte of a kind

before_at : (test : ℕ → Bool) (run : List ℕ) (c : ℕ) (rest : List ℕ) → list_all (λ b. not (test b)) run ≡ true → test c ≡ true
    → position_or_len test (run ++ c ∷ rest) ≡ length run
before_at test [] c rest all is = ap (λ (t : Bool). cond (not t) (1 + prefix_len (λ b. not (test b)) rest) 0) is
before_at test (b ∷ run) c rest all is =
    cond-true (not (test b)) (1 + position_or_len test (run ++ c ∷ rest)) 0 (all_head (λ b. not (test b)) b run all)
    ∙ (let more = before_at test run c rest (all_tail (λ b. not (test b)) b run all) is in omega (arith, more))

pub taken : (run rest : List ℕ) → take (length run) (run ++ rest) ≡ run
taken [] rest = refl
taken (b ∷ run) rest = ap (λ (xs : List ℕ). b ∷ xs) (taken run rest)

pub dropped : (run : List ℕ) (c : ℕ) (rest : List ℕ) → drop (suc (length run)) (run ++ c ∷ rest) ≡ rest
dropped [] c rest = refl
dropped (b ∷ run) c rest = dropped run c rest

before_is : (test : ℕ → Bool) (run : List ℕ) (c : ℕ) (rest : List ℕ) → list_all (λ b. not (test b)) run ≡ true → test c ≡ true
    → before_first test (run ++ c ∷ rest) ≡ run
before_is test run c rest all is =
    ap (λ (n : ℕ). take n (run ++ c ∷ rest)) (before_at test run c rest all is) ∙ taken run (c ∷ rest)

after_is : (test : ℕ → Bool) (run : List ℕ) (c : ℕ) (rest : List ℕ) → list_all (λ b. not (test b)) run ≡ true → test c ≡ true
    → after_first test (run ++ c ∷ rest) ≡ rest
after_is test run c rest all is =
    ap (λ (n : ℕ). drop n (run ++ c ∷ rest)) {x = position_or_len test (run ++ c ∷ rest) + 1} {y = suc (length run)}
    (let at = before_at test run c rest all is in omega (arith, at))
    ∙ dropped run c rest

any_at : (test : ℕ → Bool) (run : List ℕ) (c : ℕ) (rest : List ℕ) → test c ≡ true → list_any test (run ++ c ∷ rest) ≡ true
any_at test [] c rest is = ap (λ (t : Bool). t || list_any test rest) is
any_at test (b ∷ run) c rest is = or_true (test b) (list_any test (run ++ c ∷ rest)) (any_at test run c rest is)
  where
    or_true : (s t : Bool) → t ≡ true → (s || t) ≡ true
    or_true true t e = refl
    or_true false t e = e

none_any : (test : ℕ → Bool) (xs : List ℕ) → list_all (λ b. not (test b)) xs ≡ true → list_any test xs ≡ false
none_any test [] h = refl
none_any test (b ∷ xs) h =
    ap (λ (t : Bool). t || list_any test xs) (not-true (test b) (all_head (λ b. not (test b)) b xs h))
    ∙ none_any test xs (all_tail (λ b. not (test b)) b xs h)

-- ---- segments

run_segments : (state : QuoteState) (test : ℕ → Bool)
    → ((b : ℕ) → test b ≡ true → (ends state b ≡ false) × (after state b ≡ state))
    → (run rest part : List ℕ) (parts : List (List ℕ))
    → list_all test run ≡ true → segments_from state rest ≡ part ∷ parts
    → segments_from state (run ++ rest) ≡ (run ++ part) ∷ parts
run_segments state test f [] rest part parts all e = e
run_segments state test f (b ∷ run) rest part parts all e =
    let here = f b (all_head test b run all) in
    cond-false (ends state b) ([] ∷ segments_from outside (run ++ rest))
    (with_front (b ∷ []) (segments_from (after state b) (run ++ rest))) here.0
    ∙ ap (λ (s : QuoteState). with_front (b ∷ []) (segments_from s (run ++ rest))) here.1
    ∙ ap (with_front (b ∷ [])) (run_segments state test f run rest part parts (all_tail test b run all) e)

stays_outside : (test : ℕ → Bool) → test semicolon ≡ false → test quote ≡ false → (b : ℕ) → test b ≡ true
    → (ends outside b ≡ false) × (after outside b ≡ outside)
stays_outside test e f b is = (differs test semicolon e b is, cond-false (b == quote) quoted outside (differs test quote f b is))

stays_quoted : (b : ℕ) → is_plain_byte b ≡ true → (ends quoted b ≡ false) × (after quoted b ≡ quoted)
stays_quoted b is = (
  refl,
  cond-false (b == quote) outside _ (differs is_plain_byte quote refl b is)
      ∙ cond-false (b == backslash) _ quoted (differs is_plain_byte backslash refl b is),
)

value_segment : {text : List ℕ} (value rest : List ℕ) (parts : List (List ℕ)) → IsValueOf text value
    → segments_from outside rest ≡ [] ∷ parts → segments_from outside (value ++ rest) ≡ value ∷ parts
value_segment value rest parts (token_of {first = first} {others = others} all) e =
    run_segments outside is_name_character (stays_outside is_name_character refl refl) (first ∷ others) rest [] parts all e
    ∙ ap (λ (xs : List ℕ). xs ∷ parts) (append-nil (first ∷ others))
value_segment value rest parts empty_of e = ap (λ (ps : List (List ℕ)). with_front (quote ∷ []) (with_front (quote ∷ []) ps)) e
value_segment value rest parts (quotes_of {first = first} {others = others} other is made) e =
    ap (λ (xs : List ℕ). segments_from outside (xs ++ rest)) made
    ∙ ap (λ (xs : List ℕ). with_front (quote ∷ []) (segments_from quoted xs)) (append_assoc (first ∷ others) (quote ∷ []) rest)
    ∙ ap (with_front (quote ∷ []))
    (run_segments quoted is_plain_byte stays_quoted (first ∷ others) (quote ∷ rest) (quote ∷ []) parts
    (plain_all (first ∷ others) is) (ap (with_front (quote ∷ [])) e))
    ∙ ap (λ (xs : List ℕ). xs ∷ parts) (sym made)

-- ---- texts of values

trailing_last : (xs : List ℕ) (c : ℕ) → is_whitespace c ≡ false → drop_trailing_whitespace (xs ++ c ∷ []) ≡ xs ++ c ∷ []
trailing_last [] c black =
    cond-false (is_whitespace c && (0 == 0)) [] (c ∷ []) (and_left (is_whitespace c) (0 == 0) black)
trailing_last (b ∷ xs) c black =
    let more = trailing_last xs c black in
    let left : List ℕ = drop_trailing_whitespace (xs ++ c ∷ []) in
    cond-false (is_whitespace b && (length left == 0)) [] (b ∷ left)
    (and_right (is_whitespace b) (length left == 0)
    (ap (λ (ys : List ℕ). length ys == 0) more
    ∙ ne_eqb (length (xs ++ c ∷ [])) 0 (λ e. absurd (omega (arith, e, length-append xs (c ∷ []))))))
    ∙ ap (λ (ys : List ℕ). b ∷ ys) more

unescaped : (text : List ℕ) → list_all is_plain_byte text ≡ true → without_escapes 0 text ≡ text
unescaped [] all = refl
unescaped (b ∷ text) all =
    cond-false (b == backslash) (without_escapes 1 text) (b ∷ without_escapes 0 text)
    (differs is_plain_byte backslash refl b (all_head is_plain_byte b text all))
    ∙ ap (λ (xs : List ℕ). b ∷ xs) (unescaped text (all_tail is_plain_byte b text all))

pub last_at : (run : List ℕ) (c : ℕ) → slice_index (run ++ c ∷ []) (length run) ≡ c
last_at [] c = refl
last_at (b ∷ run) c = last_at run c

quoted_text : (text : List ℕ) → list_all is_plain_byte text ≡ true → list_all is_low text ≡ true
    → unescape (trim (quote ∷ (text ++ (quote ∷ [])))) ≡ text
unfolding unescape
quoted_text text all low =
    let whole : List ℕ = quote ∷ (text ++ (quote ∷ [])) in
    let ascii = low_ascii text low in
    let size = length-append text (quote ∷ []) in
    let at : length whole - 1 ≡ suc (length text) = omega (arith, size) in
    let trimmed : trim whole ≡ whole =
    trim_low whole (all_both is_low (quote ∷ text) (quote ∷ []) low refl) ∙ trailing_last (quote ∷ text) quote refl in
    let some : nat_lt 1 (length whole) ≡ true = lt-ltb 1 (length whole) (omega (arith, size)) in
    let last : (slice_index whole (length whole - 1) == quote) ≡ true =
    ap (λ (n : ℕ). slice_index whole n == quote) at ∙ ap (λ (c : ℕ). c == quote) (last_at text quote) in
    let inner : inside_quotes whole ≡ text =
    ap (λ (n : ℕ). take n (text ++ (quote ∷ []))) {x = length whole - 1 - 1} {y = length text} (omega (arith, size))
    ∙ taken text (quote ∷ []) in
    ap unescape trimmed
    ∙ cond-true (is_quoted whole) (encode_utf8_all (without_escapes 0 (chars (inside_quotes whole)))) whole
    (and_from (nat_lt 1 (length whole) && (slice_index whole 0 == quote)) (slice_index whole (length whole - 1) == quote)
    (and_from (nat_lt 1 (length whole)) (slice_index whole 0 == quote) some refl) last)
    ∙ ap (λ (xs : List ℕ). encode_utf8_all (without_escapes 0 (chars xs))) inner
    ∙ ap (λ (cs : List ℕ). encode_utf8_all (without_escapes 0 cs)) (chars-IsAscii text ascii)
    ∙ ap encode_utf8_all (unescaped text all) ∙ encodes-IsAscii text ascii

token_text : (first : ℕ) (others : List ℕ) → list_all is_name_character (first ∷ others) ≡ true
    → list_all is_low (first ∷ others) ≡ true → unescape (trim (first ∷ others)) ≡ first ∷ others
unfolding unescape
token_text first others all low =
    let token : List ℕ = first ∷ others in
    ap unescape (trim_seen [] token refl (all_seen is_name_character refl refl token all low) low)
    ∙ cond-false (is_quoted token) (encode_utf8_all (without_escapes 0 (chars (inside_quotes token)))) token
    (and_left (nat_lt 1 (length token) && (slice_index token 0 == quote)) (slice_index token (length token - 1) == quote)
    (and_right (nat_lt 1 (length token)) (slice_index token 0 == quote)
    (differs is_name_character quote refl first (all_head is_name_character first others all))))

value_text : {text : List ℕ} (value : List ℕ) → IsValueOf text value → list_all is_low value ≡ true → unescape (trim value) ≡ text
value_text value (token_of {first = first} {others = others} all) low = token_text first others all low
value_text value empty_of low = quoted_text [] refl refl
value_text value (quotes_of {first = first} {others = others} other is made) low =
    ap (λ (xs : List ℕ). unescape (trim xs)) made
    ∙ quoted_text (first ∷ others) (plain_all (first ∷ others) is)
    (all_front is_low (first ∷ others) (quote ∷ []) (subst (λ (xs : List ℕ). list_all is_low xs ≡ true) made low))

-- ---- pairs

not_equals : (test : ℕ → Bool) → test equals_sign ≡ false → (b : ℕ) → test b ≡ true → not (is_equals b) ≡ true
not_equals test e b is = not_from_false (b == equals_sign) (differs test equals_sign e b is)

flat_pair : {text : List ℕ} (gap name value : List ℕ) → list_all is_blank gap ≡ true → list_all is_name_character name ≡ true
    → IsValueOf text value → list_all is_low (gap ++ name) ≡ true → list_all is_low value ≡ true
    → pair_of (gap ++ (name ++ (equals_sign ∷ value))) ≡ Some (str_to_ascii_lowercase name, text)
flat_pair {text = text} gap name value blanks names is low low_value =
    let run : List ℕ = gap ++ name in
    let whole : List ℕ = run ++ (equals_sign ∷ value) in
    let free =
    all_both (λ b. not (is_equals b)) gap name (all_weaker is_blank _ (not_equals is_blank refl) gap blanks)
    (all_weaker is_name_character _ (not_equals is_name_character refl) name names) in
    let at = before_at is_equals run equals_sign value free refl in
    let size = length-append run (equals_sign ∷ value) in
    let seen = all_seen is_name_character refl refl name names (all_back is_low gap name low) in
    ap pair_of (sym (append_assoc gap name (equals_sign ∷ value))) ∙ pair_of-some whole (omega (arith, at, size))
    ∙ ap (λ (xs : List ℕ). Some (str_to_ascii_lowercase (trim xs), unescape (trim (after_first is_equals whole))))
    (before_is is_equals run equals_sign value free refl)
    ∙ ap (λ (xs : List ℕ). Some (str_to_ascii_lowercase (trim run), unescape (trim xs)))
    (after_is is_equals run equals_sign value free refl)
    ∙ ap (λ (xs : List ℕ). Some (str_to_ascii_lowercase xs, unescape (trim value))) (trim_seen gap name blanks seen low)
    ∙ ap (λ (xs : List ℕ). Some (str_to_ascii_lowercase name, xs)) (value_text value is low_value)

-- the segments of parameters
record Segmented (parameters : Parameters) (rest : List ℕ) : Type 0 where
  parts : List (List ℕ)
  is : segments_from outside rest ≡ [] ∷ parts
  pairs : pairs_in parts ≡ parameters

empty_segment : pairs_in ([] ∷ []) ≡ []
unfolding pair_of
empty_segment = refl

flat_segments : {parameters : Parameters} (bytes : List ℕ) → list_all is_low bytes ≡ true → AreFlat parameters bytes
    → Segmented parameters bytes
flat_segments bytes low no_flat = record { parts = []; is = refl; pairs = refl }
flat_segments bytes low flat_semicolon = record { parts = [] ∷ []; is = refl; pairs = empty_segment }
flat_segments bytes low (flat_parameter {text = text} {value = value} gap name rest blanks names is more made) =
    let low_here : list_all is_low (semicolon ∷ (gap ++ (name ++ (equals_sign ∷ (value ++ rest))))) ≡ true =
    subst (λ (xs : List ℕ). list_all is_low xs ≡ true) made low in
    let low_gap = all_front is_low gap (name ++ (equals_sign ∷ (value ++ rest))) low_here in
    let low_more = all_back is_low gap (name ++ (equals_sign ∷ (value ++ rest))) low_here in
    let low_name = all_front is_low name (equals_sign ∷ (value ++ rest)) low_more in
    let low_value = all_back is_low name (equals_sign ∷ (value ++ rest)) low_more in
    let left = flat_segments rest (all_back is_low value rest low_value) more in
    let segment : List ℕ = gap ++ (name ++ (equals_sign ∷ value)) in
    let key : List ℕ = str_to_ascii_lowercase name in
    record {
      parts = segment ∷ left.parts;
      is = ap (segments_from outside) made ∙ ap (λ (ps : List (List ℕ)). [] ∷ ps)
          (run_segments outside is_blank (stays_outside is_blank refl refl) gap (name ++ (equals_sign ∷ (value ++ rest)))
          (name ++ (equals_sign ∷ value)) left.parts blanks
          (run_segments outside is_name_character (stays_outside is_name_character refl refl) name (equals_sign ∷ (value ++ rest))
          (equals_sign ∷ value) left.parts names
          (ap (with_front (equals_sign ∷ [])) (value_segment value rest left.parts is left.is))));
      pairs = pairs_in-some segment left.parts key text
          (flat_pair gap name value blanks names is (all_both is_low gap name low_gap low_name)
          (all_front is_low value rest low_value))
          ∙ ap (λ (ps : Parameters). (key, text) ∷ ps) left.pairs;
    }

-- ---- names without asterisks

abbrev is_starless : ℕ → Bool
is_starless b = not (is_star b)

not_star : (test : ℕ → Bool) → test asterisk ≡ false → (b : ℕ) → test b ≡ true → is_starless b ≡ true
not_star test e b is = not_from_false (b == asterisk) (differs test asterisk e b is)

free_name : (name : List ℕ) → list_all is_name_character name ≡ true → list_any is_star (str_to_ascii_lowercase name) ≡ false
free_name name names =
    none_any is_star (str_to_ascii_lowercase name)
    (all_lower is_starless (λ n least most. not_from_false (n == asterisk) (ne_eqb n asterisk (λ e. absurd (omega (arith, least, e))))) name
    (all_weaker is_name_character _ (not_star is_name_character refl) name names))

pub flat_free : {parameters : Parameters} (bytes : List ℕ) → AreFlat parameters bytes → is_star_free parameters ≡ true
flat_free bytes no_flat = refl
flat_free bytes flat_semicolon = refl
flat_free bytes (flat_parameter {parameters = others} gap name rest blanks names is more made) =
    and_from (not (list_any is_star (str_to_ascii_lowercase name))) (is_star_free others)
    (not_from_false (list_any is_star (str_to_ascii_lowercase name)) (free_name name names)) (flat_free rest more)

-- ---- a text before parameters

-- a byte of a type or a disposition
abbrev pub is_head : ℕ → Bool
is_head b = is_token_character b || b == slash

pub token_head : (xs : List ℕ) → list_all is_token_character xs ≡ true → list_all is_head xs ≡ true
token_head xs all = all_weaker is_token_character is_head (λ b is. ap (λ (t : Bool). t || (b == slash)) is) xs all

head_segments : {parameters : Parameters} (head rest : List ℕ) → list_all is_head head ≡ true
    → (more : Segmented parameters rest) → segments (head ++ rest) ≡ head ∷ more.parts
unfolding segments
head_segments head rest all more =
    run_segments outside is_head (stays_outside is_head refl refl) head rest [] more.parts all more.is
    ∙ ap (λ (xs : List ℕ). xs ∷ more.parts) (append-nil head)

-- it is the value, and the parameters are the pairs
pub head_read : {parameters : Parameters} (head rest : List ℕ) → list_all is_head head ≡ true
    → list_all is_low (head ++ rest) ≡ true → AreFlat parameters rest
    → (value_of (head ++ rest) ≡ head) × (pairs_of (head ++ rest) ≡ parameters)
head_read head rest all low is =
    let more = flat_segments rest (all_back is_low head rest low) is in
    let cut = head_segments head rest all more in
    let low_head = all_front is_low head rest low in (
      value_of-first (head ++ rest) head more.parts cut
          ∙ trim_seen [] head refl (all_seen is_head refl refl head all low_head) low_head,
      pairs_of-later (head ++ rest) head more.parts cut ∙ more.pairs,
    )

-- ---- the type

-- the name of two words
name_stays : (first second : ℕ) (main subtype : List ℕ) → list_all is_solid (first ∷ main) ≡ true
    → list_all is_solid (second ∷ subtype) ≡ true
    → lenient_name ((first ∷ main) ++ (slash ∷ (second ∷ subtype))) ≡ (first ∷ main) ++ (slash ∷ (second ∷ subtype))
unfolding lenient_name
name_stays first second main subtype one two =
    let name : List ℕ = (first ∷ main) ++ (slash ∷ (second ∷ subtype)) in
    let free = all_weaker is_solid (λ b. not (is_slash b)) solid_no_slash (first ∷ main) one in
    cond-true (list_any is_slash name) (name_of_two (trim (before_first is_slash name)) (trim (after_first is_slash name))) _
    (any_at is_slash (first ∷ main) slash (second ∷ subtype) refl)
    ∙ ap (λ (xs : List ℕ). name_of_two (trim xs) (trim (after_first is_slash name)))
    (before_is is_slash (first ∷ main) slash (second ∷ subtype) free refl)
    ∙ ap (λ (xs : List ℕ). name_of_two (trim (first ∷ main)) (trim xs))
    (after_is is_slash (first ∷ main) slash (second ∷ subtype) free refl)
    ∙ ap (λ (xs : List ℕ). name_of_two xs (trim (second ∷ subtype))) (trim_solid (first ∷ main) one)
    ∙ ap (name_of_two (first ∷ main)) (trim_solid (second ∷ subtype) two)

letter_solid : (n : ℕ) → 97 ≤ n → n ≤ 122 → is_solid n ≡ true
letter_solid n least most =
    and_from (nat_lt 32 n) (nat_lt n 127 && not (n == slash)) (lt-ltb 32 n (omega (arith, least)))
    (and_from (nat_lt n 127) (not (n == slash)) (lt-ltb n 127 (omega (arith, most)))
    (not_from_false (n == slash) (ne_eqb n slash (λ e. absurd (omega (arith, least, e))))))

-- a boundary without line ends
whole_boundary : (ctype : ContentType) → HasBoundary ctype → has_broken_boundary ctype.params ≡ false
whole_boundary ctype (of_other e none) =
    ap (λ (o : Option (List ℕ)). option_map_or (λ text. is_some (either_place text carriage_return line_feed)) o false) none
whole_boundary ctype (of_multipart {text = text} e found is) =
    let past = unfound text (boundary_inner 70 text is) in
    ap (λ (o : Option (List ℕ)). option_map_or (λ text. is_some (either_place text carriage_return line_feed)) o false) found
    ∙ ap is_some (cond-false (nat_lt (first_place (begins (λ b. b == carriage_return || b == line_feed)) text) (length text))
    (Some (first_place (begins (λ b. b == carriage_return || b == line_feed)) text)) None
    (le-ltb (first_place (begins (λ b. b == carriage_return || b == line_feed)) text) (length text) (omega (arith, past))))
  where
    unfound : (xs : List ℕ) → list_all is_inner xs ≡ true
        → first_place (begins (λ b. b == carriage_return || b == line_feed)) xs ≡ length xs
    unfound [] all = refl
    unfound (b ∷ xs) all =
        first_place-past (begins (λ b. b == carriage_return || b == line_feed)) b xs
        (not-true (b == carriage_return || b == line_feed) (all_head is_inner b xs all))
        ∙ ap suc (unfound xs (all_tail is_inner b xs all))

-- such a type needs no lenient reading
module _ (known : Charsets) {parameters : Parameters} (bytes : List ℕ) (low : list_all is_low bytes ≡ true) (is : IsFlat parameters bytes) where
  one : List ℕ
  one = is.first ∷ is.main

  two : List ℕ
  two = is.second ∷ is.subtype

  low_here : list_all is_low (one ++ (slash ∷ (two ++ is.rest))) ≡ true
  unfolding one two
  low_here = subst (λ (xs : List ℕ). list_all is_low xs ≡ true) is.made low

  low_one : list_all is_low one ≡ true
  low_one = all_front is_low one (slash ∷ (two ++ is.rest)) low_here

  low_more : list_all is_low (two ++ is.rest) ≡ true
  low_more = all_back is_low one (slash ∷ (two ++ is.rest)) low_here

  solid_one : list_all is_solid one ≡ true
  unfolding one
  solid_one = all_with is_token_character is_low is_solid token_solid one is.is_main low_one

  solid_two : list_all is_solid two ≡ true
  unfolding two
  solid_two = all_with is_token_character is_low is_solid token_solid two is.is_subtype (all_front is_low two is.rest low_more)

  whole : bytes ≡ (one ++ (slash ∷ two)) ++ is.rest
  unfolding one two
  whole = is.made ∙ sym (append_assoc one (slash ∷ two) is.rest)

  read : (value_of ((one ++ (slash ∷ two)) ++ is.rest) ≡ one ++ (slash ∷ two))
      × (pairs_of ((one ++ (slash ∷ two)) ++ is.rest) ≡ parameters)
  unfolding one two
  read =
      head_read (one ++ (slash ∷ two)) is.rest
      (all_both is_head one (slash ∷ two) (token_head one is.is_main) (token_head two is.is_subtype))
      (subst (λ (xs : List ℕ). list_all is_low xs ≡ true) whole low) is.are_flat

  value_is : value_of bytes ≡ one ++ (slash ∷ two)
  value_is = ap value_of whole ∙ read.0

  free_here : is_star_free (pairs_of bytes) ≡ true
  free_here = ap (λ (xs : List ℕ). is_star_free (pairs_of xs)) whole ∙ ap is_star_free read.1 ∙ flat_free is.rest is.are_flat

  name_is : lenient_name (str_to_ascii_lowercase (value_of bytes)) ≡ str_to_ascii_lowercase (value_of bytes)
  unfolding one two
  name_is =
      let lower : str_to_ascii_lowercase (value_of bytes) ≡ str_to_ascii_lowercase one ++ (slash ∷ str_to_ascii_lowercase two) =
      ap str_to_ascii_lowercase value_is ∙ map-append to_ascii_lowercase one (slash ∷ two) in
      subst (λ (xs : List ℕ). lenient_name xs ≡ xs) (sym lower)
      (name_stays (to_ascii_lowercase is.first) (to_ascii_lowercase is.second) (str_to_ascii_lowercase is.main)
      (str_to_ascii_lowercase is.subtype)
      (all_lower is_solid letter_solid one solid_one) (all_lower is_solid letter_solid two solid_two))

  pub flat_strict : HasBoundary (content_type_in known bytes) → is_strict known bytes ≡ true
  unfolding content_type_in
  flat_strict boundary =
      and_from (is_complete bytes) (is_star_free (pairs_of bytes) && is_named (content_type_in known bytes))
      (flat_complete bytes (low_ascii bytes low) low is)
      (and_from (is_star_free (pairs_of bytes)) (is_named (content_type_in known bytes)) free_here
      (and_from (bytes_eq (lenient_name (content_type_in known bytes).mimetype) (content_type_in known bytes).mimetype)
      (not (has_broken_boundary (content_type_in known bytes).params))
      ((bytes_eq-Decides (lenient_name (str_to_ascii_lowercase (value_of bytes)))
      (str_to_ascii_lowercase (value_of bytes))).1 name_is)
      (not_from_false (has_broken_boundary (content_type_in known bytes).params)
      (whole_boundary (content_type_in known bytes) boundary))))
