-- A plain type or disposition is shown as one without folds, and such a type needs no lenient reading.
use Rattle.std.proofs.Common.{◌≡◌, ◌∙◌, ◌<◌, ◌+◌, ◌-◌, ℕ, zero, suc, Bool, true, false, not, leb, List, [], ◌∷◌, ◌++◌}
use Rattle.std.proofs.Common.{length, take, drop, Some, None, refl, sym, ap, subst, inl, inr, arith, append_assoc}
use Rattle.std.proofs.Common.{length-append}
use Rattle.std.specs.Prelude.{⊤, ◌⊎◌, ◌&&◌, ◌||◌, ◌==◌, nat_lt, map, codes, is_some, slice_index}
use Rattle.std.specs.Char.{is_whitespace, to_ascii_lowercase}
use Rattle.std.specs.List.{list_all, list_any}
use Rattle.std.specs.Str.{bytes_eq, encode_utf8_all, skip_leading_whitespace, str_eq_ignore_ascii_case}
use Rattle.std.specs.Str.{str_to_ascii_lowercase, trim_start}
use Rattle.std.specs.Str.Lines.{lines, strip_carriage_return}
use Rattle.std.proofs.lemmas.Bool.{cases_lt, cond-false, cond-true, false≢true, le-leb, le-ltb, lt-ltb}
use Rattle.std.proofs.lemmas.Bool.{and_from, and_parts, and_right, not-true, not_from_false, or_from, or_parts}
use Rattle.std.proofs.lemmas.Bool.{or_cases}
use Rattle.std.proofs.lemmas.List.{map-append}
use Rattle.std.proofs.lemmas.Slice.Eq.{bytes_eq-Decides}
use Rattle.std.proofs.lemmas.Str.{IsUtf8-from_ascii, chars-IsAscii, encodes-IsAscii}
use Rattle.mail_codec.specs.Ascii.{carriage_return, equals_sign, is_blank, line_feed, semicolon, slash, space}
use Rattle.mail_codec.specs.Places.{begins, byte_place, first_place, has_prefix, is_empty, place}
use Rattle.mail_codec.specs.Charset.{Charsets}
use Rattle.mail_codec.proofs.lemmas.Places.{first_place-here, first_place-past}
use Rattle.mailparse.specs.ContentType.{content_type_in}
use Rattle.mailparse.specs.Tokens.{begins_opening}
use Rattle.mailparse.specs.Value.{lenient_value_in}
use Rattle.mailparse.proofs.lemmas.Value.{lenient-utf8}
use Rattle.mailparse.proofs.lemmas.ValueJoined.{joined_alone, joined_more, joined_text, lines_cut}
use Rattle.mailparse.proofs.lemmas.ValuePlain.{unfolded_value-joined}
use Rattle.mail_read.specs.Files.{no_charsets}
use Rattle.mail_read.specs.lenient.Agreement.{has_no_word, is_strict, is_strict_value}
use Rattle.mail_read.specs.lenient.Names.{on_one_line}
use Rattle.mail_read.specs.lenient.Undecoded.{undecoded}
use Rattle.mail_grammar.specs.Fields.{HasBoundary}
use Rattle.mail_grammar.specs.LineEnds.{IsLineEnd}
use Rattle.mail_grammar.specs.Parameters.{IsGap, no_gap, gap_blank, gap_fold, is_name_character, is_token_character}
use Rattle.mail_grammar.specs.Parameters.{main_types}
use Rattle.mail_grammar.specs.PlainParameters.{is_plain_byte, HasNoWord, no_word, no_word_here}
use Rattle.mail_grammar.specs.PlainValues.{IsValueOf, token_of, empty_of, quotes_of, Parameters, AreParametersOf, none_of}
use Rattle.mail_grammar.specs.PlainValues.{semicolon_of, parameter_of, IsPlainOf, IsTypeOf, blank_before_type_of, type_of}
use Rattle.mail_grammar.specs.PlainValues.{IsDispositionOf, blank_before_disposition_of, disposition_of}
use Rattle.mail_grammar.proofs.lemmas.FlatPairs.{all_back, all_both, all_front, dark, dropped, flat_strict, is_head, is_low, last_at}
use Rattle.mail_grammar.proofs.lemmas.FlatPairs.{low_ascii, skip_blanks, taken, token_head}
use Rattle.mail_grammar.proofs.lemmas.FlatTypes.{AreFlat, no_flat, flat_semicolon, flat_parameter, differs, plain_all}
use Rattle.mail_grammar.proofs.lemmas.Boundaries.{all_head, all_tail, eq_flip, is_inner}

-- ---- bytes of no line end

inner_of : (test : ℕ → Bool) → test carriage_return ≡ false → test line_feed ≡ false → (b : ℕ) → test b ≡ true → is_inner b ≡ true
inner_of test e f b is =
    not_from_false (b == carriage_return || b == line_feed)
    (or_from (b == carriage_return) (b == line_feed) (differs test carriage_return e b is) (differs test line_feed f b is))

all_inner : (test : ℕ → Bool) → test carriage_return ≡ false → test line_feed ≡ false → (xs : List ℕ) → list_all test xs ≡ true
    → list_all is_inner xs ≡ true
all_inner test e f [] h = refl
all_inner test e f (b ∷ xs) h =
    and_from (is_inner b) (list_all is_inner xs) (inner_of test e f b (all_head test b xs h))
    (all_inner test e f xs (all_tail test b xs h))

value_inner : {text : List ℕ} (value : List ℕ) → IsValueOf text value → list_all is_inner value ≡ true
value_inner value (token_of {first = first} {others = others} all) = all_inner is_name_character refl refl (first ∷ others) all
value_inner value empty_of = refl
value_inner value (quotes_of {first = first} {others = others} other is made) =
    subst (λ (xs : List ℕ). list_all is_inner xs ≡ true) (sym made)
    (all_both is_inner (first ∷ others) (34 ∷ [])
    (all_inner is_plain_byte refl refl (first ∷ others) (plain_all (first ∷ others) is)) refl)

abbrev is_unfed : ℕ → Bool
is_unfed b = not (b == line_feed)

inner_unfed : (xs : List ℕ) → list_all is_inner xs ≡ true → list_all is_unfed xs ≡ true
inner_unfed [] h = refl
inner_unfed (b ∷ xs) h =
    and_from (is_unfed b) (list_all is_unfed xs)
    (not_from_false (b == line_feed)
    (or_parts (b == carriage_return) (b == line_feed)
    (not-true (b == carriage_return || b == line_feed) (all_head is_inner b xs h))).1)
    (inner_unfed xs (all_tail is_inner b xs h))

-- ---- lines

feed_first : (run rest : List ℕ) → list_all is_unfed run ≡ true
    → first_place (begins (λ b. b == line_feed)) (run ++ line_feed ∷ rest) ≡ length run
feed_first [] rest all = first_place-here (begins (λ b. b == line_feed)) (line_feed ∷ rest) refl
feed_first (b ∷ run) rest all =
    first_place-past (begins (λ b. b == line_feed)) b (run ++ line_feed ∷ rest)
    (not-true (b == line_feed) (all_head is_unfed b run all))
    ∙ ap suc (feed_first run rest (all_tail is_unfed b run all))

feed_none : (run : List ℕ) → list_all is_unfed run ≡ true → first_place (begins (λ b. b == line_feed)) run ≡ length run
feed_none [] all = refl
feed_none (b ∷ run) all =
    first_place-past (begins (λ b. b == line_feed)) b run (not-true (b == line_feed) (all_head is_unfed b run all))
    ∙ ap suc (feed_none run (all_tail is_unfed b run all))

place_past : (test : List ℕ → Bool) (xs : List ℕ) → first_place test xs ≡ length xs → None ≡ place test xs
place_past test xs e =
    sym (cond-false (nat_lt (first_place test xs) (length xs)) (Some (first_place test xs)) None
    (le-ltb (first_place test xs) (length xs) (omega (arith, e))))

feed_place : (run rest : List ℕ) → list_all is_unfed run ≡ true
    → Some (length run) ≡ byte_place (run ++ line_feed ∷ rest) line_feed
feed_place run rest all =
    let p = first_place (begins (λ b. b == line_feed)) (run ++ line_feed ∷ rest) in
    let e = feed_first run rest all in
    let size = length-append run (line_feed ∷ rest) in
    sym (cond-true (nat_lt p (length (run ++ line_feed ∷ rest))) (Some p) None
    (lt-ltb p (length (run ++ line_feed ∷ rest)) (omega (arith, e, size))) ∙ ap (λ (n : ℕ). Some n) e)

cut_at : (run rest : List ℕ) → list_all is_unfed run ≡ true
    → lines (run ++ line_feed ∷ rest) ≡ strip_carriage_return run ∷ lines rest
cut_at run rest all =
    lines_cut (run ++ line_feed ∷ rest) (length run) (feed_place run rest all)
    ∙ ap (λ (xs : List ℕ). strip_carriage_return xs ∷ lines (drop (length run + 1) (run ++ line_feed ∷ rest)))
    (taken run (line_feed ∷ rest))
    ∙ ap (λ (xs : List ℕ). strip_carriage_return run ∷ lines xs)
    (ap (λ (n : ℕ). drop n (run ++ line_feed ∷ rest)) {x = length run + 1} {y = suc (length run)} (omega arith)
    ∙ dropped run line_feed rest)

no_return : (run : List ℕ) → list_all is_inner run ≡ true → (i : ℕ) → (slice_index run i == carriage_return) ≡ false
no_return [] all i = refl
no_return (b ∷ run) all zero =
    (or_parts (b == carriage_return) (b == line_feed)
    (not-true (b == carriage_return || b == line_feed) (all_head is_inner b run all))).0
no_return (b ∷ run) all (suc i) = no_return run (all_tail is_inner b run all) i

strip_none : (run : List ℕ) → list_all is_inner run ≡ true → strip_carriage_return run ≡ run
strip_none run all =
    cond-false (slice_index run (length run - 1) == 13) (take (length run - 1) run) run (no_return run all (length run - 1))

strip_one : (run : List ℕ) → strip_carriage_return (run ++ carriage_return ∷ []) ≡ run
strip_one run =
    let whole : List ℕ = run ++ carriage_return ∷ [] in
    let size = length-append run (carriage_return ∷ []) in
    let at : length whole - 1 ≡ length run = omega (arith, size) in
    cond-true (slice_index whole (length whole - 1) == 13) (take (length whole - 1) whole) whole
    (ap (λ (n : ℕ). slice_index whole n == 13) at ∙ ap (λ (c : ℕ). c == 13) (last_at run carriage_return))
    ∙ ap (λ (n : ℕ). take n whole) at ∙ taken run (carriage_return ∷ [])

cut_line : (run line rest : List ℕ) → list_all is_inner run ≡ true → IsLineEnd line
    → lines (run ++ (line ++ rest)) ≡ run ∷ lines rest
cut_line run line rest all (inl e) =
    ap (λ (xs : List ℕ). lines (run ++ (xs ++ rest))) e ∙ cut_at run rest (inner_unfed run all)
    ∙ ap (λ (xs : List ℕ). xs ∷ lines rest) (strip_none run all)
cut_line run line rest all (inr e) =
    ap (λ (xs : List ℕ). lines (run ++ (xs ++ rest))) e
    ∙ ap lines (sym (append_assoc run (carriage_return ∷ []) (line_feed ∷ rest)))
    ∙ cut_at (run ++ carriage_return ∷ []) rest (all_both is_unfed run (carriage_return ∷ []) (inner_unfed run all) refl)
    ∙ ap (λ (xs : List ℕ). xs ∷ lines rest) (strip_one run)

joined_cut : (run line rest : List ℕ) → list_all is_inner run ≡ true → IsLineEnd line → 0 < length rest
    → joined_text (run ++ (line ++ rest)) ≡ (trim_start run ++ space ∷ []) ++ joined_text rest
joined_cut run line rest all is some =
    sym (joined_more (run ++ (line ++ rest)) run rest [] (joined_text (run ++ (line ++ rest))) (trim_start run)
    (trim_start run ++ space ∷ []) (cut_line run line rest all is) some refl refl refl)

-- ---- blanks at the front

trim_front : (blanks : List ℕ) (b : ℕ) (run : List ℕ) → list_all is_blank blanks ≡ true → is_whitespace b ≡ false
    → list_all is_low (blanks ++ b ∷ run) ≡ true
    → trim_start (blanks ++ b ∷ run) ≡ b ∷ run
unfolding trim_start
trim_front blanks b run all black low =
    ap (λ (cs : List ℕ). encode_utf8_all (skip_leading_whitespace cs))
    (chars-IsAscii (blanks ++ b ∷ run) (low_ascii (blanks ++ b ∷ run) low))
    ∙ ap encode_utf8_all
    (skip_blanks blanks (b ∷ run) all (cond-false (is_whitespace b) (skip_leading_whitespace run) (b ∷ run) black))
    ∙ encodes-IsAscii (b ∷ run) (low_ascii (b ∷ run) (all_back is_low blanks (b ∷ run) low))

blanks_inner : (blanks : List ℕ) → list_all is_blank blanks ≡ true → list_all is_inner blanks ≡ true
blanks_inner blanks all = all_inner is_blank refl refl blanks all

-- ---- no encoded word

word_back : (xs ys : List ℕ) → HasNoWord (xs ++ ys) → HasNoWord ys
word_back [] ys h = h
word_back (b ∷ xs) ys (no_word_here e more) = word_back xs ys more

word_front : (xs ys : List ℕ) → list_all (λ b. not (equals_sign == b)) xs ≡ true → HasNoWord ys → HasNoWord (xs ++ ys)
word_front [] ys all h = h
word_front (b ∷ xs) ys all h =
    no_word_here (ap (λ (t : Bool). t && has_prefix (codes "?") (xs ++ ys))
    (not-true (equals_sign == b) (all_head (λ b. not (equals_sign == b)) b xs all)))
    (word_front xs ys (all_tail (λ b. not (equals_sign == b)) b xs all) h)

-- a space in the place of other bytes
word_space : (xs ys zs : List ℕ) → HasNoWord (xs ++ ys) → HasNoWord zs → HasNoWord (xs ++ space ∷ zs)
word_space [] ys zs h k = no_word_here refl k
word_space (b ∷ []) ys zs (no_word_here e more) k =
    no_word_here (and_right (equals_sign == b) (has_prefix (codes "?") (space ∷ zs)) refl) (no_word_here refl k)
word_space (b ∷ (c ∷ xs)) ys zs (no_word_here e more) k = no_word_here e (word_space (c ∷ xs) ys zs more k)

words_past : (xs : List ℕ) → HasNoWord xs → first_place begins_opening xs ≡ length xs
words_past xs no_word = refl
words_past xs (no_word_here {b = b} {rest = rest} e more) =
    first_place-past begins_opening b rest e ∙ ap suc (words_past rest more)

-- ---- parameters

-- parameters, and how they are shown after other bytes
record Unfolds (parameters : Parameters) (rest : List ℕ) : Type 0 where
  flat : List ℕ
  is : AreFlat parameters flat
  shown : (blanks : List ℕ) (b : ℕ) (run : List ℕ) → list_all is_blank blanks ≡ true → is_whitespace b ≡ false
      → list_all is_inner (b ∷ run) ≡ true
      → list_all is_low ((blanks ++ b ∷ run) ++ rest) ≡ true → joined_text ((blanks ++ b ∷ run) ++ rest) ≡ (b ∷ run) ++ flat
  low : list_all is_low rest ≡ true → list_all is_low flat ≡ true
  word : (run : List ℕ) → HasNoWord (run ++ rest) → HasNoWord (run ++ flat)

-- at the end of the value
ended : {parameters : Parameters} (rest : List ℕ) → list_all is_inner rest ≡ true → AreFlat parameters rest
    → Unfolds parameters rest
ended rest inner is = record {
  flat = rest;
  is = is;
  shown = λ blanks b run all black inner_run low.
      let same : (blanks ++ b ∷ run) ++ rest ≡ blanks ++ b ∷ (run ++ rest) = append_assoc blanks (b ∷ run) rest in
      let low_here = subst (λ (xs : List ℕ). list_all is_low xs ≡ true) same low in
      let unfed =
      inner_unfed (blanks ++ b ∷ (run ++ rest))
      (all_both is_inner blanks (b ∷ (run ++ rest)) (blanks_inner blanks all)
      (all_both is_inner (b ∷ run) rest inner_run inner)) in
      ap joined_text same
      ∙ joined_alone (blanks ++ b ∷ (run ++ rest))
      (place_past (begins (λ b. b == line_feed)) (blanks ++ b ∷ (run ++ rest)) (feed_none (blanks ++ b ∷ (run ++ rest)) unfed))
      ∙ trim_front blanks b (run ++ rest) all black low_here;
  low = λ h. h;
  word = λ run h. h;
}

-- after other bytes
onwards : {parameters others : Parameters} (part rest bytes : List ℕ) → list_all is_inner part ≡ true → bytes ≡ part ++ rest
    → (more : Unfolds others rest) → AreFlat parameters (part ++ more.flat) → Unfolds parameters bytes
onwards part rest bytes inner made more is = record {
  flat = part ++ more.flat;
  is = is;
  shown = λ blanks b run all black inner_run low.
      let same : (blanks ++ b ∷ run) ++ bytes ≡ (blanks ++ b ∷ (run ++ part)) ++ rest =
      ap (λ (xs : List ℕ). (blanks ++ b ∷ run) ++ xs) made ∙ sym (append_assoc (blanks ++ b ∷ run) part rest)
      ∙ ap (λ (xs : List ℕ). xs ++ rest) (append_assoc blanks (b ∷ run) part) in
      ap joined_text same
      ∙ more.shown blanks b (run ++ part) all black (all_both is_inner (b ∷ run) part inner_run inner)
      (subst (λ (xs : List ℕ). list_all is_low xs ≡ true) same low)
      ∙ append_assoc (b ∷ run) part more.flat;
  low = λ h.
      let here = subst (λ (xs : List ℕ). list_all is_low xs ≡ true) made h in
      all_both is_low part more.flat (all_front is_low part rest here) (more.low (all_back is_low part rest here));
  word = λ run h.
      subst HasNoWord (append_assoc run part more.flat)
      (more.word (run ++ part) (subst HasNoWord (ap (λ (xs : List ℕ). run ++ xs) made ∙ sym (append_assoc run part rest)) h));
}

-- before a fold
folded : {parameters others : Parameters} (part line blanks : List ℕ) (x : ℕ) (xs rest bytes : List ℕ)
    → list_all is_inner part ≡ true → IsLineEnd line
    → list_all is_blank blanks ≡ true → is_whitespace x ≡ false
    → list_all is_inner (x ∷ xs) ≡ true → bytes ≡ part ++ (line ++ ((blanks ++ x ∷ xs) ++ rest))
    → (more : Unfolds others rest) → AreFlat parameters (part ++ (space ∷ ((x ∷ xs) ++ more.flat))) → Unfolds parameters bytes
folded part line blanks x xs rest bytes inner is_line all_blank dark inner_next made more is = record {
  flat = part ++ (space ∷ ((x ∷ xs) ++ more.flat));
  is = is;
  shown = λ before b run all black inner_run low.
      let tail : List ℕ = (blanks ++ x ∷ xs) ++ rest in
      let front : List ℕ = before ++ b ∷ (run ++ part) in
      let same : (before ++ b ∷ run) ++ bytes ≡ front ++ (line ++ tail) =
      ap (λ (ys : List ℕ). (before ++ b ∷ run) ++ ys) made ∙ sym (append_assoc (before ++ b ∷ run) part (line ++ tail))
      ∙ ap (λ (ys : List ℕ). ys ++ (line ++ tail)) (append_assoc before (b ∷ run) part) in
      let low_here = subst (λ (ys : List ℕ). list_all is_low ys ≡ true) same low in
      let low_tail = all_back is_low line tail (all_back is_low front (line ++ tail) low_here) in
      let inner_front =
      all_both is_inner before (b ∷ (run ++ part)) (blanks_inner before all)
      (all_both is_inner (b ∷ run) part inner_run inner) in
      let sizes = length-append (blanks ++ x ∷ xs) rest in
      let size = length-append blanks (x ∷ xs) in
      ap joined_text same
      ∙ joined_cut front line tail inner_front is_line (omega (arith, sizes, size))
      ∙ ap (λ (ys : List ℕ). (ys ++ space ∷ []) ++ joined_text tail)
      (trim_front before b (run ++ part) all black (all_front is_low front (line ++ tail) low_here))
      ∙ ap (λ (ys : List ℕ). ((b ∷ (run ++ part)) ++ space ∷ []) ++ ys)
      (more.shown blanks x xs all_blank dark inner_next low_tail)
      ∙ append_assoc (b ∷ (run ++ part)) (space ∷ []) ((x ∷ xs) ++ more.flat)
      ∙ append_assoc (b ∷ run) part (space ∷ ((x ∷ xs) ++ more.flat));
  low = λ h.
      let here = subst (λ (ys : List ℕ). list_all is_low ys ≡ true) made h in
      let tail =
      all_back is_low line ((blanks ++ x ∷ xs) ++ rest) (all_back is_low part (line ++ ((blanks ++ x ∷ xs) ++ rest)) here) in
      all_both is_low part (space ∷ ((x ∷ xs) ++ more.flat)) (all_front is_low part (line ++ ((blanks ++ x ∷ xs) ++ rest)) here)
      (all_both is_low (x ∷ xs) more.flat (all_back is_low blanks (x ∷ xs) (all_front is_low (blanks ++ x ∷ xs) rest tail))
      (more.low (all_back is_low (blanks ++ x ∷ xs) rest tail)));
  word = λ run h.
      let here : HasNoWord ((run ++ part) ++ (line ++ ((blanks ++ x ∷ xs) ++ rest))) =
      subst HasNoWord (ap (λ (ys : List ℕ). run ++ ys) made
      ∙ sym (append_assoc run part (line ++ ((blanks ++ x ∷ xs) ++ rest)))) h in
      let tail =
      word_back line ((blanks ++ x ∷ xs) ++ rest) (word_back (run ++ part) (line ++ ((blanks ++ x ∷ xs) ++ rest)) here) in
      let next = word_back blanks ((x ∷ xs) ++ rest) (subst HasNoWord (append_assoc blanks (x ∷ xs) rest) tail) in
      subst HasNoWord (append_assoc run part (space ∷ ((x ∷ xs) ++ more.flat)))
      (word_space (run ++ part) (line ++ ((blanks ++ x ∷ xs) ++ rest)) ((x ∷ xs) ++ more.flat) here (more.word (x ∷ xs) next));
}

-- blanks with a fold
record HasFold (gap : List ℕ) : Type 0 where
  before : List ℕ
  line : List ℕ
  blanks : List ℕ
  are_before : list_all is_blank before ≡ true
  is_line : IsLineEnd line
  are_after : list_all is_blank blanks ≡ true
  made : gap ≡ before ++ (line ++ blanks)

gap_cases : (gap : List ℕ) → IsGap gap → (list_all is_blank gap ≡ true) ⊎ (HasFold gap)
gap_cases gap no_gap = inl refl
gap_cases gap (gap_blank {b = b} {rest = rest} is more) = elim (gap_cases rest more) [
  | inl e ↦ inl (and_from (is_blank b) (list_all is_blank rest) is e)
  | inr f ↦ inr (record {
    before =
        b ∷ f.before;
    line = f.line;
    blanks = f.blanks;
    are_before = and_from (is_blank b)
        (list_all is_blank f.before) is f.are_before;
    is_line = f.is_line;
    are_after = f.are_after;
    made = ap (λ (xs : List ℕ). b ∷ xs) f.made;
  })
]
gap_cases gap (gap_fold {line = line} first blanks is_line all made) =
    inr (record {
      before = [];
      line = line;
      blanks = first ∷ blanks;
      are_before = refl;
      is_line = is_line;
      are_after = all;
      made = made;
    })

-- one parameter more
one_more : {parameters : Parameters} {text : List ℕ} (first : ℕ) (gap others value rest bytes : List ℕ) → IsGap gap
    → list_all is_name_character (first ∷ others) ≡ true → IsValueOf text value → is_whitespace first ≡ false
    → Unfolds parameters rest → bytes ≡ semicolon ∷ (gap ++ ((first ∷ others) ++ (equals_sign ∷ (value ++ rest))))
    → Unfolds ((str_to_ascii_lowercase (first ∷ others), text) ∷ parameters) bytes
one_more first gap others value rest bytes is_gap names is black more made =
    let next : List ℕ = others ++ (equals_sign ∷ value) in
    let inner_next : list_all is_inner (first ∷ next) ≡ true =
    all_both is_inner (first ∷ others) (equals_sign ∷ value) (all_inner is_name_character refl refl (first ∷ others) names)
    (value_inner value is) in
    elim (gap_cases gap is_gap) [
      | inl blanks ↦
          let part : List ℕ = semicolon ∷ (gap ++ (first ∷ next)) in
          onwards part rest bytes (all_both is_inner gap (first ∷ next) (blanks_inner gap blanks) inner_next)
          (made ∙ ap (λ (xs : List ℕ). semicolon ∷ xs) (joins gap rest)) more
          (flat_parameter gap (first ∷ others) more.flat blanks names is more.is
          (sym (ap (λ (xs : List ℕ). semicolon ∷ xs) (joins gap more.flat))))
      | inr f ↦
          let part : List ℕ = semicolon ∷ f.before in
          folded part f.line f.blanks first next rest bytes
          (blanks_inner f.before f.are_before) f.is_line f.are_after black inner_next
          (made ∙ ap (λ (xs : List ℕ). semicolon ∷ xs)
          (joins gap rest ∙ ap (λ (xs : List ℕ). (xs ++ (first ∷ next)) ++ rest) f.made
          ∙ split f.before f.line f.blanks (first ∷ next) rest)) more
          (flat_parameter (f.before ++ space ∷ []) (first ∷ others) more.flat
          (all_both is_blank f.before (space ∷ []) f.are_before refl) names is more.is
          (ap (λ (xs : List ℕ). semicolon ∷ (f.before ++ (space ∷ xs)))
          (append_assoc (first ∷ others) (equals_sign ∷ value) more.flat)
          ∙ ap (λ (xs : List ℕ). semicolon ∷ xs)
          (sym (append_assoc f.before (space ∷ []) ((first ∷ others) ++ (equals_sign ∷ (value ++ more.flat)))))))
    ]
  where
    joins : (gap rest : List ℕ)
        → gap ++ ((first ∷ others) ++ (equals_sign ∷ (value ++ rest)))
        ≡ (gap ++ (first ∷ (others ++ (equals_sign ∷ value)))) ++ rest
    joins gap rest =
        ap (λ (xs : List ℕ). gap ++ xs) (sym (append_assoc (first ∷ others) (equals_sign ∷ value) rest))
        ∙ sym (append_assoc gap (first ∷ (others ++ (equals_sign ∷ value))) rest)

    split : (before line blanks next rest : List ℕ)
        → ((before ++ (line ++ blanks)) ++ next) ++ rest ≡ before ++ (line ++ ((blanks ++ next) ++ rest))
    split before line blanks next rest =
        ap (λ (xs : List ℕ). xs ++ rest)
        (append_assoc before (line ++ blanks) next ∙ ap (λ (xs : List ℕ). before ++ xs) (append_assoc line blanks next))
        ∙ append_assoc before (line ++ (blanks ++ next)) rest
        ∙ ap (λ (xs : List ℕ). before ++ xs) (append_assoc line (blanks ++ next) rest)

parameters_unfold : {parameters : Parameters} (bytes : List ℕ) → list_all is_low bytes ≡ true → AreParametersOf parameters bytes
    → Unfolds parameters bytes
parameters_unfold bytes low none_of = ended [] refl no_flat
parameters_unfold bytes low semicolon_of = ended (semicolon ∷ []) refl flat_semicolon
parameters_unfold bytes low (parameter_of {gap = gap} {value = value} first others rest is_gap all is other more made) =
    let here = subst (λ (xs : List ℕ). list_all is_low xs ≡ true) made low in
    let name = all_back is_low gap ((first ∷ others) ++ (equals_sign ∷ (value ++ rest))) here in
    let left = all_back is_low value rest (all_back is_low (first ∷ others) (equals_sign ∷ (value ++ rest)) name) in
    one_more first gap others value rest bytes is_gap all is
    (dark is_name_character refl refl first (all_head is_name_character first others all)
    (all_head is_low first (others ++ (equals_sign ∷ (value ++ rest))) name))
    (parameters_unfold rest left more) made

-- ---- the types that all programs know

record IsWord (bytes : List ℕ) : Type 0 where
  some : is_empty bytes ≡ false
  all : list_all is_token_character bytes ≡ true

are_words : List (List ℕ) → Bool
are_words [] = true
are_words (t ∷ types) =
    (not (is_empty (str_to_ascii_lowercase t)) && list_all is_token_character (str_to_ascii_lowercase t)) && are_words types

raised : (b : ℕ) → is_token_character (to_ascii_lowercase b) ≡ true → is_token_character b ≡ true
raised b h = elim (cases_lt b 65) [
  | inl l ↦ ap is_token_character (sym (cond-true (nat_lt b 65) b _ (lt-ltb b 65 l))) ∙ h
  | inr g ↦ elim (cases_lt b 91) [
    | inr k ↦ ap is_token_character
        (sym (cond-false (nat_lt b 65) b _ (le-ltb b 65 g) ∙ cond-false (nat_lt b 91) (b + 32) b (le-ltb b 91 k))) ∙ h
    | inl l ↦ upper (leb 48 b && leb b 57) (leb 97 b && leb b 122) (le-leb 65 b g) (le-leb b 90 (omega (arith, l)))
  ]
]
  where
    upper : (digit lower : Bool) → leb 65 b ≡ true → leb b 90 ≡ true
        → (((digit || (leb 65 b && leb b 90)) || lower) || is_some (byte_place (codes "!#$&-^_.+") b)) ≡ true
    upper true lower e f = refl
    upper false lower e f =
        ap (λ (t : Bool). (t || lower) || is_some (byte_place (codes "!#$&-^_.+") b)) (and_from (leb 65 b) (leb b 90) e f)

all_raised : (xs : List ℕ) → list_all is_token_character (str_to_ascii_lowercase xs) ≡ true
    → list_all is_token_character xs ≡ true
all_raised [] h = refl
all_raised (b ∷ xs) h =
    and_from (is_token_character b) (list_all is_token_character xs)
    (raised b (all_head is_token_character (to_ascii_lowercase b) (str_to_ascii_lowercase xs) h))
    (all_raised xs (all_tail is_token_character (to_ascii_lowercase b) (str_to_ascii_lowercase xs) h))

lower_some : (xs : List ℕ) → is_empty (str_to_ascii_lowercase xs) ≡ false → is_empty xs ≡ false
lower_some [] h = h
lower_some (b ∷ xs) h = refl

word_named : (main : List ℕ) (types : List (List ℕ)) → are_words types ≡ true
    → list_any (str_eq_ignore_ascii_case main) types ≡ true → IsWord main
unfolding are_words
word_named main [] words h = absurd (false≢true h)
word_named main (t ∷ types) words h =
    let lower : List ℕ = str_to_ascii_lowercase t in
    let both = and_parts (not (is_empty lower) && list_all is_token_character lower) (are_words types) words in
    elim (or_cases (str_eq_ignore_ascii_case main t) (list_any (str_eq_ignore_ascii_case main) types) h) [
      | inr e ↦ word_named main types both.1 e
      | inl e ↦
          let own = and_parts (not (is_empty lower)) (list_all is_token_character lower) both.0 in
          let same : str_to_ascii_lowercase main ≡ lower = (bytes_eq-Decides (str_to_ascii_lowercase main) lower).0 e in
          record {
            some = lower_some main (ap is_empty same ∙ not-true (is_empty lower) own.0);
            all = all_raised main (ap (list_all is_token_character) same ∙ own.1);
          }
    ]

known_words : are_words main_types ≡ true
unfolding are_words
known_words = refl

-- ---- values

-- no two parameters have the same name
abbrev pub AreApart : Parameters → Type 0
AreApart [] = ⊤
AreApart (parameter ∷ more) = (list_any (bytes_eq parameter.0) (map (λ p. p.0) more) ≡ false) × AreApart more

parameters_apart : {parameters : Parameters} (bytes : List ℕ) → AreParametersOf parameters bytes → AreApart parameters
parameters_apart bytes none_of = tt
parameters_apart bytes semicolon_of = tt
parameters_apart bytes (parameter_of first others rest is_gap all is other more made) = (other, parameters_apart rest more)

-- a value that begins with blanks and this text, and how it is shown
pub record IsShown (head : List ℕ) (parameters : Parameters) (bytes : List ℕ) : Type 0 where
  pub flat : List ℕ
  pub shown : joined_text bytes ≡ head ++ flat
  pub is : AreFlat parameters flat
  pub apart : AreApart parameters
  pub low : list_all is_low (head ++ flat) ≡ true
  pub word : HasNoWord (head ++ flat)

head_shown : {parameters : Parameters} (blanks : List ℕ) (m : ℕ) (run rest : List ℕ) → list_all is_blank blanks ≡ true
    → list_all is_head (m ∷ run) ≡ true → HasNoWord ((m ∷ run) ++ rest)
    → list_all is_low (blanks ++ ((m ∷ run) ++ rest)) ≡ true
    → AreParametersOf parameters rest → IsShown (m ∷ run) parameters (blanks ++ ((m ∷ run) ++ rest))
head_shown blanks m run rest all head word low is =
    let same : (blanks ++ m ∷ run) ++ rest ≡ blanks ++ ((m ∷ run) ++ rest) = append_assoc blanks (m ∷ run) rest in
    let low_text = all_back is_low blanks ((m ∷ run) ++ rest) low in
    let low_run = all_front is_low (m ∷ run) rest low_text in
    let low_rest = all_back is_low (m ∷ run) rest low_text in
    let more = parameters_unfold rest low_rest is in
    record {
      flat = more.flat;
      shown =
          ap joined_text (sym same)
          ∙ more.shown blanks m run all
          (dark is_head refl refl m (all_head is_head m run head) (all_head is_low m run low_run))
          (all_inner is_head refl refl (m ∷ run) head)
          (subst (λ (xs : List ℕ). list_all is_low xs ≡ true) (sym same) low);
      is = more.is;
      apart = parameters_apart rest is;
      low = all_both is_low (m ∷ run) more.flat low_run (more.low low_rest);
      word = more.word (m ∷ run) word;
    }

token_unopened : (xs : List ℕ) → list_all is_token_character xs ≡ true → list_all (λ b. not (equals_sign == b)) xs ≡ true
token_unopened [] h = refl
token_unopened (b ∷ xs) h =
    and_from (not (equals_sign == b)) (list_all (λ b. not (equals_sign == b)) xs)
    (not_from_false (equals_sign == b)
    (eq_flip equals_sign b ∙ differs is_token_character equals_sign refl b (all_head is_token_character b xs h)))
    (token_unopened xs (all_tail is_token_character b xs h))

-- the first byte of a subtype or a disposition, and all of them
plain_token : {name : List ℕ} {parameters : Parameters} {text : List ℕ} → (is : IsPlainOf name parameters text)
    → list_all is_token_character (is.first ∷ is.others) ≡ true
plain_token is =
    and_from (is_token_character is.first) (list_all is_token_character is.others)
    (ap (λ (t : Bool). t || is_some (byte_place (codes "!#$&-^_.+") is.first)) is.begins) is.characters

-- a type after blanks
pub record TypeShown (mimetype : List ℕ) (parameters : Parameters) (bytes : List ℕ) : Type 0 where
  pub first : ℕ
  pub main : List ℕ
  pub second : ℕ
  pub subtype : List ℕ
  pub is_main : list_all is_token_character (first ∷ main) ≡ true
  pub is_subtype : list_all is_token_character (second ∷ subtype) ≡ true
  pub named : mimetype ≡ str_to_ascii_lowercase ((first ∷ main) ++ (slash ∷ (second ∷ subtype)))
  pub shown : IsShown ((first ∷ main) ++ (slash ∷ (second ∷ subtype))) parameters bytes

pub type_shown : {mimetype : List ℕ} {parameters : Parameters} (blanks value : List ℕ) → list_all is_blank blanks ≡ true
    → list_all is_low (blanks ++ value) ≡ true
    → IsTypeOf mimetype parameters value → TypeShown mimetype parameters (blanks ++ value)
type_shown {mimetype = mimetype} {parameters = parameters} blanks value all low
    (blank_before_type_of {b = b} {rest = rest} is more) =
    let same : (blanks ++ b ∷ []) ++ rest ≡ blanks ++ b ∷ rest = append_assoc blanks (b ∷ []) rest in
    subst (TypeShown mimetype parameters) same
    (type_shown (blanks ++ b ∷ []) rest (all_both is_blank blanks (b ∷ []) all (and_from (is_blank b) true is refl))
    (subst (λ (xs : List ℕ). list_all is_low xs ≡ true) (sym same) low) more)
type_shown {mimetype = mimetype} {parameters = parameters} blanks value all low
    (type_of {subtype = subtype} {text = text} main is plain named made) =
    let word = word_named main main_types known_words is in
    by_main main word.some word.all named made
  where
    by_main : (main : List ℕ) → is_empty main ≡ false → list_all is_token_character main ≡ true
        → mimetype ≡ str_to_ascii_lowercase main ++ (slash ∷ subtype)
        → value ≡ main ++ (slash ∷ text) → TypeShown mimetype parameters (blanks ++ value)
    by_main [] some tokens named made = absurd (cc)
    by_main (m ∷ ms) some tokens named made =
        let own : List ℕ = plain.first ∷ plain.others in
        let run : List ℕ = ms ++ (slash ∷ own) in
        let tokens_own = plain_token plain in
        let cut : (m ∷ ms) ++ (slash ∷ (own ++ plain.rest)) ≡ (m ∷ run) ++ plain.rest =
        sym (append_assoc (m ∷ ms) (slash ∷ own) plain.rest) in
        let same : blanks ++ value ≡ blanks ++ ((m ∷ run) ++ plain.rest) =
        ap (λ (xs : List ℕ). blanks ++ xs) (made ∙ ap (λ (xs : List ℕ). (m ∷ ms) ++ (slash ∷ xs)) plain.made ∙ cut) in
        record {
          first = m;
          main = ms;
          second = plain.first;
          subtype = plain.others;
          is_main = tokens;
          is_subtype = tokens_own;
          named = named ∙ ap (λ (xs : List ℕ). str_to_ascii_lowercase (m ∷ ms) ++ (slash ∷ xs)) plain.named
              ∙ sym (map-append to_ascii_lowercase (m ∷ ms) (slash ∷ own));
          shown = subst (IsShown (m ∷ run) parameters) (sym same)
              (head_shown blanks m run plain.rest all
              (all_both is_head (m ∷ ms) (slash ∷ own) (token_head (m ∷ ms) tokens) (token_head own tokens_own))
              (subst HasNoWord cut (word_front (m ∷ ms) (slash ∷ (own ++ plain.rest)) (token_unopened (m ∷ ms) tokens)
              (no_word_here refl (subst HasNoWord plain.made plain.word))))
              (subst (λ (xs : List ℕ). list_all is_low xs ≡ true) same low) plain.parameters_of);
        }

-- a disposition after blanks
pub record DispositionShown (name : List ℕ) (parameters : Parameters) (bytes : List ℕ) : Type 0 where
  pub first : ℕ
  pub others : List ℕ
  pub is_token : list_all is_token_character (first ∷ others) ≡ true
  pub named : name ≡ str_to_ascii_lowercase (first ∷ others)
  pub shown : IsShown (first ∷ others) parameters bytes

pub disposition_shown : {name : List ℕ} {parameters : Parameters} (blanks value : List ℕ) → list_all is_blank blanks ≡ true
    → list_all is_low (blanks ++ value) ≡ true
    → IsDispositionOf name parameters value → DispositionShown name parameters (blanks ++ value)
disposition_shown {name = name} {parameters = parameters} blanks value all low
    (blank_before_disposition_of {b = b} {rest = rest} is more) =
    let same : (blanks ++ b ∷ []) ++ rest ≡ blanks ++ b ∷ rest = append_assoc blanks (b ∷ []) rest in
    subst (DispositionShown name parameters) same
    (disposition_shown (blanks ++ b ∷ []) rest (all_both is_blank blanks (b ∷ []) all (and_from (is_blank b) true is refl))
    (subst (λ (xs : List ℕ). list_all is_low xs ≡ true) (sym same) low) more)
disposition_shown {name = name} {parameters = parameters} blanks value all low (disposition_of plain) =
    let same : blanks ++ value ≡ blanks ++ ((plain.first ∷ plain.others) ++ plain.rest) =
    ap (λ (xs : List ℕ). blanks ++ xs) plain.made in
    let token = plain_token plain in
    record {
      first = plain.first;
      others = plain.others;
      is_token = token;
      named = plain.named;
      shown = subst (IsShown (plain.first ∷ plain.others) parameters) (sym same)
          (head_shown blanks plain.first plain.others plain.rest all (token_head (plain.first ∷ plain.others) token)
          (subst HasNoWord plain.made plain.word) (subst (λ (xs : List ℕ). list_all is_low xs ≡ true) same low)
          plain.parameters_of);
    }

-- the text of such a value of ASCII
pub value_shown : {parameters : Parameters} (known : Charsets) (head value : List ℕ) → list_all is_low value ≡ true
    → (found : IsShown head parameters value) → lenient_value_in known value ≡ head ++ found.flat
value_shown known head value low found =
    let text : List ℕ = head ++ found.flat in
    lenient-utf8 known value (IsUtf8-from_ascii value (low_ascii value low))
    ∙ sym (unfolded_value-joined known value text (sym found.shown) (place_past begins_opening text (words_past text found.word)))

-- a plain type of ASCII needs no lenient reading
pub plain_type_strict : {mimetype : List ℕ} {parameters : Parameters} (known : Charsets) (value : List ℕ)
    → list_all is_low value ≡ true → IsTypeOf mimetype parameters value
    → HasBoundary (content_type_in known (lenient_value_in known value))
    → is_strict_value known value ≡ true
plain_type_strict known value low is boundary =
    let type = type_shown [] value refl low is in
    let found = type.shown in
    let one : List ℕ = type.first ∷ type.main in
    let two : List ℕ = type.second ∷ type.subtype in
    let text : List ℕ = (one ++ (slash ∷ two)) ++ found.flat in
    let same = value_shown known (one ++ (slash ∷ two)) value low found in
    let raw : undecoded value ≡ text =
    ap (lenient_value_in no_charsets) (cond-true (list_all is_low value) value (on_one_line false value) low)
    ∙ value_shown no_charsets (one ++ (slash ∷ two)) value low found in
    and_from (has_no_word known value) (is_strict known (undecoded value))
    ((bytes_eq-Decides (undecoded value) (lenient_value_in known value)).1 (raw ∙ sym same))
    (subst (λ (xs : List ℕ). is_strict known xs ≡ true) (sym raw)
    (flat_strict known text found.low
    (record {
      first = type.first;
      main = type.main;
      second = type.second;
      subtype = type.subtype;
      rest = found.flat;
      is_main = type.is_main;
      is_subtype = type.is_subtype;
      are_flat = found.is;
      made = append_assoc one (slash ∷ two) found.flat;
    })
    (subst (λ (xs : List ℕ). HasBoundary (content_type_in known xs)) same boundary)))
