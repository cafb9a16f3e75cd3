-- Plain types without folds lack nothing, and have no comments.
use Rattle.std.proofs.Common.{◌≡◌, ◌∙◌, ◌<◌, ◌≤◌, ◌-◌, ℕ, zero, suc, Bool, true, false, not, cond, leb, List, [], ◌∷◌, ◌++◌}
use Rattle.std.proofs.Common.{refl, sym, ap, subst, inl, inr, arith, append_assoc}
use Rattle.std.specs.Prelude.{◌&&◌, ◌||◌, ◌==◌}
use Rattle.std.specs.Char.{is_ascii, is_ascii_whitespace, is_whitespace}
use Rattle.std.specs.Int.{is_in_range}
use Rattle.std.specs.List.{list_all}
use Rattle.std.specs.Str.{IsAscii, chars, encode_utf8_all, str_to_ascii_lowercase}
use Rattle.std.proofs.lemmas.Bool.{cases_lt, cond-false, cond-true, eqb-true, false≢true, leb-true, or_cases, or_from}
use Rattle.std.proofs.lemmas.Bool.{and_from, and_parts, cases_Bool}
use Rattle.std.proofs.lemmas.Slice.Eq.{bytes_eq-Decides}
use Rattle.std.proofs.lemmas.Str.{chars-IsAscii, encodes-IsAscii}
use Rattle.mail_codec.specs.Ascii.{asterisk, backslash, closing_parenthesis, equals_sign, is_blank, opening_parenthesis, quote}
use Rattle.mail_codec.specs.Ascii.{semicolon, slash, space}
use Rattle.mail_read.specs.lenient.Agreement.{is_complete}
use Rattle.mail_read.specs.lenient.Comments.{depth_beside, outside_comments, quotes_next, string_after, without_comments}
use Rattle.mail_read.specs.lenient.Repairs.{after_name, after_quoted, after_text, after_value, lacks_nothing}
use Rattle.mail_read.specs.lenient.Repairs.{is_feed, is_other_space, repaired}
use Rattle.mail_read.proofs.lemmas.lenient.Repairs.{whole-ascii}
use Rattle.mail_grammar.specs.Parameters.{is_name_character, is_token_character}
use Rattle.mail_grammar.specs.PlainParameters.{is_plain_byte, IsPlainText, last_byte, more_bytes}
use Rattle.mail_grammar.specs.PlainValues.{IsValueOf, token_of, empty_of, quotes_of, Parameters}
use Rattle.mail_grammar.proofs.lemmas.Boundaries.{all_head, all_tail}

-- ---- bytes that pass a test

pub differs : (test : ℕ → Bool) (c : ℕ) → test c ≡ false → (b : ℕ) → test b ≡ true → (b == c) ≡ false
differs test c fails b is = elim (cases_Bool (b == c)) [
  | inr e ↦ e
  | inl e ↦ absurd (false≢true (sym fails ∙ ap test (sym (eqb-true b c e)) ∙ is))
]

-- no number below the bound passes
abbrev pub none_below : (ℕ → Bool) → ℕ → Bool
none_below test zero = true
none_below test (suc n) = not (test n) && none_below test n

below_fails : (test : ℕ → Bool) (n : ℕ) → none_below test n ≡ true → (b : ℕ) → b < n → test b ≡ false
below_fails test zero h b low = absurd (omega (arith, low))
below_fails test (suc n) h b low =
    let both = and_parts (not (test n)) (none_below test n) h in
    elim (cases_lt b n) [
      | inl l ↦ below_fails test n both.1 b l
      | inr g ↦
          let same : b ≡ n = omega (arith, low, g) in
          ap test same ∙ not_so (test n) both.0
    ]
  where
    not_so : (t : Bool) → not t ≡ true → t ≡ false
    not_so false h = refl
    not_so true h = absurd (false≢true h)

pub visible : (test : ℕ → Bool) → none_below test 33 ≡ true → (b : ℕ) → test b ≡ true → 33 ≤ b
visible test h b is = elim (cases_lt b 33) [
  | inr g ↦ g
  | inl l ↦ absurd (false≢true (sym (below_fails test 33 h b l) ∙ is))
]

white_low : (b : ℕ) → is_ascii_whitespace b ≡ true → b < 33
white_low b h =
    elim (or_cases (is_in_range 9 10 b || is_in_range 12 13 b) (is_in_range 32 32 b) h) [
      | inl either ↦ elim (or_cases (is_in_range 9 10 b) (is_in_range 12 13 b) either) [
        | inl e ↦ let most = leb-true b 10 (and_parts (leb 9 b) (leb b 10) e).1 in omega (arith, most)
        | inr e ↦ let most = leb-true b 13 (and_parts (leb 12 b) (leb b 13) e).1 in omega (arith, most)
      ]
      | inr e ↦ let most = leb-true b 32 (and_parts (leb 32 b) (leb b 32) e).1 in omega (arith, most)
    ]

no_white : (test : ℕ → Bool) → none_below test 33 ≡ true → (b : ℕ) → test b ≡ true → is_ascii_whitespace b ≡ false
no_white test h b is = elim (cases_Bool (is_ascii_whitespace b)) [
  | inr e ↦ e
  | inl e ↦ let high = visible test h b is in let low = white_low b e in absurd (omega (arith, high, low))
]

-- ---- the grammar

-- parameters without folds
pub data AreFlat : Parameters → List ℕ → Type 0 where
  no_flat : AreFlat [] []
  flat_semicolon : AreFlat [] (semicolon ∷ [])
  flat_parameter : {parameters : Parameters} {text value bytes : List ℕ} (gap name rest : List ℕ) → list_all is_blank gap ≡ true
      → list_all is_name_character name ≡ true → IsValueOf text value → AreFlat parameters rest
      → bytes ≡ semicolon ∷ (gap ++ (name ++ (equals_sign ∷ (value ++ rest))))
      → AreFlat ((str_to_ascii_lowercase name, text) ∷ parameters) bytes

-- a type without folds
pub record IsFlat (parameters : Parameters) (bytes : List ℕ) : Type 0 where
  pub first : ℕ
  pub main : List ℕ
  pub second : ℕ
  pub subtype : List ℕ
  pub rest : List ℕ
  pub is_main : list_all is_token_character (first ∷ main) ≡ true
  pub is_subtype : list_all is_token_character (second ∷ subtype) ≡ true
  pub are_flat : AreFlat parameters rest
  pub made : bytes ≡ (first ∷ main) ++ (slash ∷ ((second ∷ subtype) ++ rest))

pub plain_all : (text : List ℕ) → IsPlainText text → list_all is_plain_byte text ≡ true
plain_all text (last_byte {b = b} is other) = and_from (is_plain_byte b) true is refl
plain_all text (more_bytes {b = b} {rest = rest} is more) =
    and_from (is_plain_byte b) (list_all is_plain_byte rest) is (plain_all rest more)

-- ---- nothing is missing

-- nothing is missing in bytes that follow those of a name, an equals sign, a word, a slash, a token, the front of a text in
-- quotes,
-- and a whole one
abbrev past_name : List ℕ → Bool
past_name xs = lacks_nothing (after_name 120) xs

abbrev past_equals : List ℕ → Bool
past_equals xs = lacks_nothing (after_name equals_sign) xs

abbrev past_word : List ℕ → Bool
past_word xs = lacks_nothing (after_value 120) xs

abbrev past_slash : List ℕ → Bool
past_slash xs = lacks_nothing (after_value slash) xs

abbrev past_token : List ℕ → Bool
past_token xs = lacks_nothing (after_text 120) xs

abbrev past_opening : List ℕ → Bool
past_opening xs = lacks_nothing (after_quoted 120) xs

abbrev past_quotes : List ℕ → Bool
past_quotes xs = lacks_nothing (after_quoted quote) xs

run_lacks : (lacks : List ℕ → Bool) (test : ℕ → Bool) → ((b : ℕ) (rest : List ℕ) → test b ≡ true → lacks (b ∷ rest) ≡ lacks rest)
    → (run rest : List ℕ)
    → list_all test run ≡ true → lacks (run ++ rest) ≡ lacks rest
run_lacks lacks test f [] rest all = refl
run_lacks lacks test f (b ∷ run) rest all =
    f b (run ++ rest) (all_head test b run all) ∙ run_lacks lacks test f run rest (all_tail test b run all)

-- a byte that passes a test of ASCII is no whitespace that is kept in names
no_other_space : (test : ℕ → Bool) → test 11 ≡ false → test 12 ≡ false → (b : ℕ) → test b ≡ true → is_ascii b ≡ true
    → is_other_space b ≡ false
no_other_space test e f b is low =
    or_from (is_feed b) (not (is_ascii b) && is_whitespace b)
    (or_from (b == 11) (b == 12) (differs test 11 e b is) (differs test 12 f b is))
    (ap (λ (t : Bool). not t && is_whitespace b) low)

in_name : (test : ℕ → Bool) → test equals_sign ≡ false → test asterisk ≡ false → test quote ≡ false → test 11 ≡ false
    → test 12 ≡ false → (b : ℕ) (rest : List ℕ) → test b ≡ true → is_ascii b ≡ true
    → past_name (b ∷ rest) ≡ past_name rest
in_name test e f g h k b rest is low =
    cond-true (not (is_other_space b)) (lacks_nothing (after_name b) rest) false
    (ap not (no_other_space test h k b is low))
    ∙ ap (λ p. lacks_nothing p rest)
    (cond-false (b == equals_sign) (after_name equals_sign) _ (differs test equals_sign e b is)
    ∙ cond-false (b == asterisk) (after_name asterisk) _ (differs test asterisk f b is)
    ∙ cond-false (b == quote) (after_name quote) (after_name 120) (differs test quote g b is))

names_lack : (test : ℕ → Bool) → test equals_sign ≡ false → test asterisk ≡ false → test quote ≡ false → test 11 ≡ false
    → test 12 ≡ false → (run rest : List ℕ) → list_all test run ≡ true → list_all is_ascii run ≡ true
    → past_name (run ++ rest) ≡ past_name rest
names_lack test e f g h k [] rest all low = refl
names_lack test e f g h k (b ∷ run) rest all low =
    in_name test e f g h k b (run ++ rest) (all_head test b run all) (all_head is_ascii b run low)
    ∙ names_lack test e f g h k run rest (all_tail test b run all) (all_tail is_ascii b run low)

-- both of two texts are ASCII if they are so together
halves : (xs ys : List ℕ) → list_all is_ascii (xs ++ ys) ≡ true → (list_all is_ascii xs ≡ true) × (list_all is_ascii ys ≡ true)
halves [] ys low = (refl, low)
halves (x ∷ xs) ys low =
    let both = and_parts (is_ascii x) (list_all is_ascii (xs ++ ys)) low in
    let more = halves xs ys both.1 in
    (and_from (is_ascii x) (list_all is_ascii xs) both.0 more.0, more.1)

text_byte : (b : ℕ) → is_name_character b ≡ true → after_text b ≡ after_text 120
text_byte b is =
    cond-false (b == semicolon) (after_text semicolon) _ (differs is_name_character semicolon refl b is)
    ∙ cond-false (b == quote) (after_text quote) _ (differs is_name_character quote refl b is)
    ∙ cond-false (is_ascii_whitespace b) (after_text space) (after_text 120) (no_white is_name_character refl b is)

in_token : (b : ℕ) (rest : List ℕ) → is_name_character b ≡ true → past_token (b ∷ rest) ≡ past_token rest
in_token b rest is = ap (λ p. lacks_nothing p rest) (text_byte b is)

in_quotes : (b : ℕ) (rest : List ℕ) → is_plain_byte b ≡ true → past_opening (b ∷ rest) ≡ past_opening rest
in_quotes b rest is =
    ap (λ p. lacks_nothing p rest)
    (cond-false (b == quote) (after_quoted quote) _ (differs is_plain_byte quote refl b is)
    ∙ cond-false (b == backslash) (after_quoted backslash) (after_quoted 120) (differs is_plain_byte backslash refl b is))

-- parameters may follow
record Ends (lacks : List ℕ → Bool) : Type 0 where
  nothing : lacks [] ≡ true
  more : (rest : List ℕ) → lacks (semicolon ∷ rest) ≡ past_name rest

value_lacks : {text : List ℕ} (value rest : List ℕ) → IsValueOf text value → ((lacks : List ℕ → Bool) → Ends lacks → lacks rest ≡ true)
    → past_equals (value ++ rest) ≡ true
value_lacks value rest (token_of {first = first} {others = others} all) more =
    let head = all_head is_name_character first others all in
    ap (λ p. lacks_nothing p (others ++ rest))
    (cond-false (is_ascii_whitespace first) (after_name equals_sign) _ (no_white is_name_character refl first head)
    ∙ cond-false (first == quote) (after_quoted 120) _ (differs is_name_character quote refl first head)
    ∙ text_byte first head)
    ∙ run_lacks past_token is_name_character in_token others rest (all_tail is_name_character first others all)
    ∙ more past_token (record { nothing = refl; more = λ rest. refl })
value_lacks value rest empty_of more = more past_quotes (record { nothing = refl; more = λ rest. refl })
value_lacks value rest (quotes_of {first = first} {others = others} other is made) more =
    subst (λ (xs : List ℕ). past_equals (xs ++ rest) ≡ true) (sym made)
    (ap past_opening (append_assoc (first ∷ others) (quote ∷ []) rest)
    ∙ run_lacks past_opening is_plain_byte in_quotes (first ∷ others) (quote ∷ rest) (plain_all (first ∷ others) is)
    ∙ more past_quotes (record { nothing = refl; more = λ rest. refl }))

flat_lacks : {parameters : Parameters} (rest : List ℕ) → AreFlat parameters rest → list_all is_ascii rest ≡ true
    → (lacks : List ℕ → Bool) → Ends lacks → lacks rest ≡ true
flat_lacks rest no_flat low lacks ends = ends.nothing
flat_lacks rest flat_semicolon low lacks ends = ends.more []
flat_lacks bytes (flat_parameter {value = value} gap name rest blanks names is more made) low lacks ends =
    let after = name ++ (equals_sign ∷ (value ++ rest)) in
    let whole : list_all is_ascii (gap ++ after) ≡ true =
    all_tail is_ascii semicolon (gap ++ after) (subst (λ (xs : List ℕ). list_all is_ascii xs ≡ true) made low) in
    let one = halves gap after whole in
    let two = halves name (equals_sign ∷ (value ++ rest)) one.1 in
    let three = halves value rest (all_tail is_ascii equals_sign (value ++ rest) two.1) in
    subst (λ (xs : List ℕ). lacks xs ≡ true) (sym made)
    (ends.more (gap ++ (name ++ (equals_sign ∷ (value ++ rest))))
    ∙ names_lack is_blank refl refl refl refl refl gap (name ++ (equals_sign ∷ (value ++ rest))) blanks one.0
    ∙ names_lack is_name_character refl refl refl refl refl name (equals_sign ∷ (value ++ rest)) names two.0
    ∙ value_lacks value rest is (flat_lacks rest more three.1))

word_byte : (b : ℕ) → is_token_character b ≡ true → after_value b ≡ after_value 120
word_byte b is =
    cond-false (b == semicolon) (after_value semicolon) _ (differs is_token_character semicolon refl b is)
    ∙ cond-false (b == slash) (after_value slash) _ (differs is_token_character slash refl b is)
    ∙ cond-false (b == quote) (after_value quote) (after_value 120) (differs is_token_character quote refl b is)

in_word : (b : ℕ) (rest : List ℕ) → is_token_character b ≡ true → past_word (b ∷ rest) ≡ past_word rest
in_word b rest is =
    ap (λ p. lacks_nothing p rest)
    (cond-false (is_ascii_whitespace b) _ (after_value b) (no_white is_token_character refl b is) ∙ word_byte b is)

first_word : (b : ℕ) (rest : List ℕ) → is_token_character b ≡ true → past_slash (b ∷ rest) ≡ past_word rest
first_word b rest is =
    ap (λ p. lacks_nothing p rest)
    (cond-false (is_ascii_whitespace b) _ (after_value b) (no_white is_token_character refl b is) ∙ word_byte b is)

word_lacks : (b : ℕ) (more rest : List ℕ) → list_all is_token_character (b ∷ more) ≡ true
    → past_slash ((b ∷ more) ++ rest) ≡ past_word rest
word_lacks b more rest all =
    first_word b (more ++ rest) (all_head is_token_character b more all)
    ∙ run_lacks past_word is_token_character in_word more rest (all_tail is_token_character b more all)

type_lacks : {parameters : Parameters} (bytes : List ℕ) → list_all is_ascii bytes ≡ true → IsFlat parameters bytes
    → past_slash bytes ≡ true
type_lacks bytes low is =
    let own = (is.second ∷ is.subtype) ++ is.rest in
    let two = halves (is.first ∷ is.main) (slash ∷ own) (subst (λ (xs : List ℕ). list_all is_ascii xs ≡ true) is.made low) in
    let rest = (halves (is.second ∷ is.subtype) is.rest (all_tail is_ascii slash own two.1)).1 in
    ap past_slash is.made ∙ word_lacks is.first is.main (slash ∷ ((is.second ∷ is.subtype) ++ is.rest)) is.is_main
    ∙ word_lacks is.second is.subtype is.rest is.is_subtype
    ∙ flat_lacks is.rest is.are_flat rest past_word (record { nothing = refl; more = λ rest. refl })

-- ---- there are no comments

one_kept : (within next : Bool) (b : ℕ) (cs : List ℕ) → depth_beside within false 0 b ≡ 0 → quotes_next false b ≡ false
    → string_after within false 0 b ≡ next
    → outside_comments within false 0 (b ∷ cs) ≡ b ∷ outside_comments next false 0 cs
one_kept within next b cs depth quotes string =
    ap (λ (d : ℕ). cond ((0 == 0) && (d == 0)) (b ∷ []) [] ++ outside_comments (string_after within false 0 b)
    (quotes_next false b) d cs) depth
    ∙ ap (λ (q : Bool). b ∷ outside_comments (string_after within false 0 b) q 0 cs) quotes
    ∙ ap (λ (s : Bool). b ∷ outside_comments s false 0 cs) string

run_kept : (within : Bool) (test : ℕ → Bool)
    → ((b : ℕ) → test b ≡ true
    → (depth_beside within false 0 b ≡ 0) × (quotes_next false b ≡ false) × (string_after within false 0 b ≡ within))
    → (run rest : List ℕ) → list_all test run ≡ true → outside_comments within false 0 rest ≡ rest
    → outside_comments within false 0 (run ++ rest) ≡ run ++ rest
run_kept within test f [] rest all more = more
run_kept within test f (b ∷ run) rest all more =
    let here = f b (all_head test b run all) in
    one_kept within within b (run ++ rest) here.0 here.1 here.2
    ∙ ap (λ (xs : List ℕ). b ∷ xs) (run_kept within test f run rest (all_tail test b run all) more)

none_less : (t : Bool) → cond t (0 - 1) 0 ≡ 0
none_less true = refl
none_less false = refl

bare : (test : ℕ → Bool) → test opening_parenthesis ≡ false → test backslash ≡ false → test quote ≡ false → (b : ℕ)
    → test b ≡ true
    → (depth_beside false false 0 b ≡ 0) × (quotes_next false b ≡ false) × (string_after false false 0 b ≡ false)
bare test e f g b is = (
  cond-false (b == opening_parenthesis) 1 _ (differs test opening_parenthesis e b is)
      ∙ none_less (b == closing_parenthesis),
  differs test backslash f b is,
  cond-false (b == quote) true false (differs test quote g b is),
)

quoted_byte : (b : ℕ) → is_plain_byte b ≡ true
    → (depth_beside true false 0 b ≡ 0) × (quotes_next false b ≡ false) × (string_after true false 0 b ≡ true)
quoted_byte b is =
    (refl, differs is_plain_byte backslash refl b is, cond-false (b == quote) false true (differs is_plain_byte quote refl b is))

value_kept : {text : List ℕ} (value rest : List ℕ) → IsValueOf text value → outside_comments false false 0 rest ≡ rest
    → outside_comments false false 0 (value ++ rest) ≡ value ++ rest
value_kept value rest (token_of {first = first} {others = others} all) more =
    run_kept false is_name_character (bare is_name_character refl refl refl) (first ∷ others) rest all more
value_kept value rest empty_of more =
    one_kept false true quote (quote ∷ rest) refl refl refl
    ∙ ap (λ (xs : List ℕ). quote ∷ xs) (one_kept true false quote rest refl refl refl ∙ ap (λ (xs : List ℕ). quote ∷ xs) more)
value_kept value rest (quotes_of {first = first} {others = others} other is made) more =
    subst (λ (xs : List ℕ). outside_comments false false 0 (xs ++ rest) ≡ xs ++ rest) (sym made)
    (one_kept false true quote (((first ∷ others) ++ (quote ∷ [])) ++ rest) refl refl refl
    ∙ ap (λ (xs : List ℕ). quote ∷ xs)
    (subst (λ (xs : List ℕ). outside_comments true false 0 xs ≡ xs) (sym (append_assoc (first ∷ others) (quote ∷ []) rest))
    (run_kept true is_plain_byte quoted_byte (first ∷ others) (quote ∷ rest) (plain_all (first ∷ others) is)
    (one_kept true false quote rest refl refl refl ∙ ap (λ (xs : List ℕ). quote ∷ xs) more))))

flat_kept : {parameters : Parameters} (rest : List ℕ) → AreFlat parameters rest → outside_comments false false 0 rest ≡ rest
flat_kept rest no_flat = refl
flat_kept rest flat_semicolon = refl
flat_kept bytes (flat_parameter {value = value} gap name rest blanks names is more made) =
    subst (λ (xs : List ℕ). outside_comments false false 0 xs ≡ xs) (sym made)
    (one_kept false false semicolon (gap ++ (name ++ (equals_sign ∷ (value ++ rest)))) refl refl refl
    ∙ ap (λ (xs : List ℕ). semicolon ∷ xs)
    (run_kept false is_blank (bare is_blank refl refl refl) gap (name ++ (equals_sign ∷ (value ++ rest))) blanks
    (run_kept false is_name_character (bare is_name_character refl refl refl) name (equals_sign ∷ (value ++ rest)) names
    (one_kept false false equals_sign (value ++ rest) refl refl refl
    ∙ ap (λ (xs : List ℕ). equals_sign ∷ xs) (value_kept value rest is (flat_kept rest more))))))

type_kept : {parameters : Parameters} (bytes : List ℕ) → IsFlat parameters bytes → outside_comments false false 0 bytes ≡ bytes
type_kept bytes is =
    subst (λ (xs : List ℕ). outside_comments false false 0 xs ≡ xs) (sym is.made)
    (run_kept false is_token_character (bare is_token_character refl refl refl) (is.first ∷ is.main)
    (slash ∷ ((is.second ∷ is.subtype) ++ is.rest)) is.is_main
    (one_kept false false slash ((is.second ∷ is.subtype) ++ is.rest) refl refl refl
    ∙ ap (λ (xs : List ℕ). slash ∷ xs)
    (run_kept false is_token_character (bare is_token_character refl refl refl) (is.second ∷ is.subtype) is.rest is.is_subtype
    (flat_kept is.rest is.are_flat))))

-- ---- both

pub flat_complete : {parameters : Parameters} (bytes : List ℕ) → IsAscii bytes → list_all is_ascii bytes ≡ true
    → IsFlat parameters bytes → is_complete bytes ≡ true
unfolding without_comments
flat_complete bytes ascii low is =
    let read : chars bytes ≡ bytes = chars-IsAscii bytes ascii in
    let kept : without_comments bytes ≡ bytes =
    ap (λ (cs : List ℕ). encode_utf8_all (outside_comments false false 0 cs)) read ∙ ap encode_utf8_all (type_kept bytes is)
    ∙ encodes-IsAscii bytes ascii in
    let whole = whole-ascii bytes ascii (ap past_slash read ∙ type_lacks bytes low is) in
    (bytes_eq-Decides (repaired (without_comments bytes)) bytes).1 (ap repaired kept ∙ sym whole)
