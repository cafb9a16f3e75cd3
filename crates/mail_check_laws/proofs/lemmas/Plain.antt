-- The parameters of a type or a disposition have no step at which programs differ, and no name twice, exactly if they are plain.
use Rattle.std.proofs.Common.{◌≡◌, ◌∙◌, ◌<◌, ◌≤◌, ℕ, suc, Bool, true, false, not, cond, List, [], ◌∷◌, ◌++◌, length, Option, Some, None, refl, sym, ap, subst, inl, inr, arith, append_assoc, append-nil}
use Rattle.std.specs.Prelude.{◌⊎◌, ◌&&◌, ◌||◌, ◌==◌, nat_lt, is_some, codes, encode_utf8}
use Rattle.std.specs.Char.{is_ascii_alphanumeric, to_ascii_lowercase}
use Rattle.std.specs.List.{AllByRecursion, list_all, list_any}
use Rattle.std.specs.Str.{bytes_eq, str_to_ascii_lowercase}
use Rattle.std.proofs.lemmas.Bool.{cases_lt, eqb-true, le-ltb, lt-ltb}
use Rattle.std.proofs.lemmas.Bool.{and_from, and_left, cases_Bool, not-true, not_from_false, or_from, or_parts}
use Rattle.std.proofs.lemmas.Str.{encode_ascii}
use Rattle.mail_codec.specs.Ascii.{asterisk, backslash, carriage_return, equals_sign, is_blank, line_feed, quote, semicolon, space, tab}
use Rattle.mail_codec.specs.Places.{byte_place, first_place, has_prefix}
use Rattle.mail_codec.proofs.lemmas.Places.{first_place-here, first_place-past}
use Rattle.mail_check.specs.Bytes.{is_control}
use Rattle.mail_check.specs.Parameters.{after_byte, ends_name, has_extended, has_quoted_pair, has_quoted_special, has_repeat, has_step, has_word, in_quotes, is_attribute, is_name_state, is_restricted, is_special, is_step, name_with, names_after, none_seen, parameter_names}
use Rattle.mail_check.specs.declared.parameters.Step.{Step}
use Rattle.mail_check.specs.declared.parameters.Step.TheVariants.{Special, Starred}
use Rattle.mail_check.specs.declared.parameters.ValueState.{ValueState}
use Rattle.mail_check.specs.declared.parameters.ValueState.TheVariants.{Start, Token, Semicolon, Blank, Return, Feed, Fold, Attribute, Equals, Text, Opened, Quoted, Space, Escaped, Closed, Wrong}
use Rattle.mail_grammar.specs.Parameters.{IsGap, no_gap, gap_blank, gap_fold, IsSection, no_asterisk, asterisk_and, IsQuotedText, end_quote, text_byte, quoted_pair, IsParameterValue, token_value, quoted_value, AreParameters, no_parameter, last_semicolon, parameter, IsTokenWithParameters}
use Rattle.mail_grammar.specs.PlainParameters.{is_plain_byte, IsPlainText, last_byte, more_bytes, IsPlainValue, plain_token, empty_quotes, plain_quotes, ArePlain, no_plain, plain_semicolon, plain_parameter, HasNoWord, no_word, no_word_here, IsPlain}
use Rattle.mail_check.proofs.lemmas.Attributes.{attribute_low, miss, pass, text_keeps, token_keeps}
use Rattle.mail_check.proofs.lemmas.Searched.{first_none, none_first}
use Rattle.mail_check_laws.proofs.lemmas.Fields.{blanks}
use Rattle.mail_check_laws.proofs.lemmas.Parameters.{attribute_keeps, blank_after, blank_folds}
use Rattle.mail_grammar.proofs.lemmas.Boundaries.{all_head, all_tail}

-- ---- bytes

lower_low : (b : ℕ) → b < 128 → to_ascii_lowercase b < 128
lower_low b low = elim (cases_lt b 65) [
  | inl l ↦ let e = lt-ltb b 65 l in rw e low
  | inr g ↦ let e = le-ltb b 65 g in elim (cases_lt b 91) [
    | inl l ↦ let f = lt-ltb b 91 l in rw (e, f) (omega (arith, l))
    | inr k ↦ let f = le-ltb b 91 k in rw (e, f) low
  ]
]

lowered : (b : ℕ) → is_attribute b ≡ true → encode_utf8 (to_ascii_lowercase b) ≡ to_ascii_lowercase b ∷ []
lowered b h = encode_ascii (to_ascii_lowercase b) (lower_low b (attribute_low b h))

-- a byte that passes a test is not one that does not
differs : (test : ℕ → Bool) (c b : ℕ) → test b ≡ true → test c ≡ false → (b == c) ≡ false
differs test c b h fails = elim (cases_Bool (b == c)) [
  | inr e ↦ e
  | inl e ↦ let so : test c ≡ true = subst (λ (x : ℕ). test x ≡ true) (eqb-true b c e) h in absurd (cc)
]

no_asterisk_in : (b : ℕ) → is_attribute b ≡ true → (b == asterisk) ≡ false
no_asterisk_in b h = differs is_attribute asterisk b h refl

abbrev pub no_backslash : ℕ → Bool
no_backslash b = not (b == backslash)

pub attribute_no_backslash : (b : ℕ) → is_attribute b ≡ true → no_backslash b ≡ true
attribute_no_backslash b h = not_from_false (b == backslash) (differs is_attribute backslash b h refl)

pub restricted_no_backslash : (b : ℕ) → is_restricted b ≡ true → no_backslash b ≡ true
restricted_no_backslash b h = not_from_false (b == backslash) (differs is_restricted backslash b h refl)

pub alphanumeric_no_backslash : (b : ℕ) → is_ascii_alphanumeric b ≡ true → no_backslash b ≡ true
alphanumeric_no_backslash b h = not_from_false (b == backslash) (differs is_ascii_alphanumeric backslash b h refl)

blank_no_backslash : (b : ℕ) → is_blank b ≡ true → no_backslash b ≡ true
blank_no_backslash b h = not_from_false (b == backslash) (differs is_blank backslash b h refl)

-- what a byte of a plain text is not
record PlainByte (b : ℕ) : Type 0 where
  no_quote : (b == quote) ≡ false
  no_pair : (b == backslash) ≡ false
  no_control : is_control b ≡ false
  no_special : is_special b ≡ false

plain_byte : (b : ℕ) → is_plain_byte b ≡ true → PlainByte b
plain_byte b h =
    let first = or_parts (b == quote) _ (not-true _ h) in
    let second = or_parts (b == backslash) _ first.1 in
    let third = or_parts (b == semicolon) _ second.1 in
    let last = or_parts (nat_lt b space) (b == 127) third.1 in
    record {
      no_quote = first.0;
      no_pair = second.0;
      no_control = or_from (nat_lt b 32 && not (b == tab || (b == line_feed || b == carriage_return))) (b == 127)
          (and_left (nat_lt b 32) _ last.0) last.1;
      no_special = or_from (b == semicolon) _ third.0 (or_from (b == tab) _ (not_low tab refl last.0)
          (or_from (b == line_feed) (b == carriage_return) (not_low line_feed refl last.0) (not_low carriage_return refl last.0)));
    }
  where
    not_low : (c : ℕ) → nat_lt c space ≡ true → nat_lt b space ≡ false → (b == c) ≡ false
    not_low c low high = elim (cases_Bool (b == c)) [
      | inr e ↦ e
      | inl e ↦ let no : nat_lt c space ≡ false = subst (λ (x : ℕ). nat_lt x space ≡ false) (eqb-true b c e) high in absurd (cc)
    ]

byte_plain : (b : ℕ) → PlainByte b → is_plain_byte b ≡ true
byte_plain b h =
    let special = or_parts (b == semicolon) _ h.no_special in
    let control = or_parts (nat_lt b 32 && not (b == tab || (b == line_feed || b == carriage_return))) (b == 127) h.no_control in
    let low = first_false (nat_lt b 32) _ (not_from_false (b == tab || (b == line_feed || b == carriage_return)) special.1) control.0 in
    not_from_false _ (or_from (b == quote) _ h.no_quote (or_from (b == backslash) _ h.no_pair (or_from (b == semicolon) _ special.0
    (or_from (nat_lt b space) (b == 127) low control.1))))
  where
    first_false : (s t : Bool) → t ≡ true → (s && t) ≡ false → s ≡ false
    first_false false t e h = refl
    first_false true t e h = let no : true ≡ false = sym e ∙ h in absurd (cc)

-- lists all of whose bytes pass a test
all_joined : (test : ℕ → Bool) (xs ys : List ℕ) → list_all test xs ≡ true → list_all test ys ≡ true
    → list_all test (xs ++ ys) ≡ true
all_joined test [] ys h k = k
all_joined test (x ∷ xs) ys h k =
    and_from (test x) _ (all_head test x xs h) (all_joined test xs ys (all_tail test x xs h) k)

all_front : (test : ℕ → Bool) (xs ys : List ℕ) → list_all test (xs ++ ys) ≡ true → list_all test xs ≡ true
all_front test [] ys h = refl
all_front test (x ∷ xs) ys h =
    and_from (test x) _ (all_head test x (xs ++ ys) h) (all_front test xs ys (all_tail test x (xs ++ ys) h))

pub all_back : (test : ℕ → Bool) (xs ys : List ℕ) → list_all test (xs ++ ys) ≡ true → list_all test ys ≡ true
all_back test [] ys h = h
all_back test (x ∷ xs) ys h = all_back test xs ys (all_tail test x (xs ++ ys) h)

all_weaker : (strong test : ℕ → Bool) → ((b : ℕ) → strong b ≡ true → test b ≡ true) → (xs : List ℕ) → list_all strong xs ≡ true
    → list_all test xs ≡ true
all_weaker strong test f [] h = refl
all_weaker strong test f (x ∷ xs) h =
    and_from (test x) _ (f x (all_head strong x xs h)) (all_weaker strong test f xs (all_tail strong x xs h))

-- ---- names

-- no name is among those after it
abbrev pub Distinct : List (List ℕ) → Type 0
Distinct [] = Unit
Distinct (n ∷ names) = (list_any (bytes_eq n) names ≡ false) × Distinct names

abbrev Unseen : (List ℕ → Bool) → List (List ℕ) → Type 0
Unseen seen names = AllByRecursion (λ (n : List ℕ). seen n ≡ false) names

abbrev one_more : (List ℕ → Bool) → List ℕ → List ℕ → Bool
one_more seen n = λ (other : List ℕ). cond (bytes_eq n other) true (seen other)

no_first : (s t : Bool) → cond s true t ≡ false → (s ≡ false) × (t ≡ false)
no_first true t h = absurd (cc)
no_first false t h = (refl, h)

repeat_free : (seen : List ℕ → Bool) (names : List (List ℕ)) → has_repeat seen names ≡ false → Unseen seen names × Distinct names
repeat_free seen [] h = (tt, tt)
repeat_free seen (n ∷ names) h =
    let both = no_first (seen n) (has_repeat (one_more seen n) names) h in
    let more = repeat_free (one_more seen n) names both.1 in
    ((both.0, old names more.0), (new names more.0, more.1))
  where
    old : (names : List (List ℕ)) → Unseen (one_more seen n) names → Unseen seen names
    old [] h = tt
    old (other ∷ names) h = ((no_first (bytes_eq n other) (seen other) h.0).1, old names h.1)

    new : (names : List (List ℕ)) → Unseen (one_more seen n) names → list_any (bytes_eq n) names ≡ false
    new [] h = refl
    new (other ∷ names) h = or_from (bytes_eq n other) _ (no_first (bytes_eq n other) (seen other) h.0).0 (new names h.1)

free_repeat : (seen : List ℕ → Bool) (names : List (List ℕ)) → Unseen seen names → Distinct names → has_repeat seen names ≡ false
free_repeat seen [] h k = refl
free_repeat seen (n ∷ names) h k =
    ap (λ (t : Bool). cond t true (has_repeat (one_more seen n) names)) h.0
    ∙ free_repeat (one_more seen n) names (joined names h.1 k.0) k.1
  where
    joined : (names : List (List ℕ)) → Unseen seen names → list_any (bytes_eq n) names ≡ false → Unseen (one_more seen n) names
    joined [] h k = tt
    joined (other ∷ names) h k =
        let both = or_parts (bytes_eq n other) (list_any (bytes_eq n) names) k in
        (ap (λ (t : Bool). cond t true (seen other)) both.0 ∙ h.0, joined names h.1 both.1)

pub distinct_names : (names : List (List ℕ)) → has_repeat none_seen names ≡ false → Distinct names
distinct_names names h = (repeat_free none_seen names h).1

pub names_distinct : (names : List (List ℕ)) → Distinct names → has_repeat none_seen names ≡ false
names_distinct names h = free_repeat none_seen names (never names) h
  where
    never : (names : List (List ℕ)) → Unseen none_seen names
    never [] = tt
    never (n ∷ names) = (refl, never names)

-- ---- what is found in bytes after a state

-- the same is found in bytes after a state, given what was read of a name, as in the rest of them after another
pub record Same (state : ValueState) (name bytes : List ℕ) (next : ValueState) (read rest : List ℕ) : Type 0 where
  pub steps : (step : Step) → has_step step state bytes ≡ has_step step next rest
  pub names : names_after state name bytes ≡ names_after next read rest

each_step : (P : Step → Type 0) → P Special → P Starred → (step : Step) → P step
each_step P special starred Special = special
each_step P special starred Starred = starred

pub onwards : {s t u : ValueState} {a b c xs ys zs : List ℕ} → Same s a xs t b ys → Same t b ys u c zs → Same s a xs u c zs
onwards h k = record { steps = λ step. h.steps step ∙ k.steps step; names = h.names ∙ k.names }

-- a state in which no byte is such a step
abbrev is_calm : ValueState → Bool
is_calm Start = true
is_calm Token = true
is_calm Semicolon = true
is_calm Blank = true
is_calm Feed = true
is_calm Fold = true
is_calm Equals = true
is_calm Text = true
is_calm _ = false

calm : (state : ValueState) (b : ℕ) (step : Step) → is_calm state ≡ true → is_step step state b ≡ false
calm Start b Special h = refl
calm Start b Starred h = refl
calm Token b Special h = refl
calm Token b Starred h = refl
calm Semicolon b Special h = refl
calm Semicolon b Starred h = refl
calm Blank b Special h = refl
calm Blank b Starred h = refl
calm Feed b Special h = refl
calm Feed b Starred h = refl
calm Fold b Special h = refl
calm Fold b Starred h = refl
calm Equals b Special h = refl
calm Equals b Starred h = refl
calm Text b Special h = refl
calm Text b Starred h = refl
calm _ b step h = absurd (cc)

-- one byte after which no name has ended
one : (state next : ValueState) (name : List ℕ) (b : ℕ) (rest : List ℕ) → after_byte state b ≡ next → ends_name next ≡ false
    → ((step : Step) → is_step step state b ≡ false) → Same state name (b ∷ rest) next (name_with next name b) rest
one state next name b rest goes inner none = record {
  steps = λ step.
      ap (λ (t : Bool). t || has_step step (after_byte state b) rest) (none step)
      ∙ ap (λ (s : ValueState). has_step step s rest) goes;
  names =
      ap (λ (s : ValueState). cond (ends_name s) (name ∷ names_after s [] rest) (names_after s (name_with s name b) rest)) goes
      ∙ ap (λ (t : Bool). cond t (name ∷ names_after next [] rest) (names_after next (name_with next name b) rest)) inner;
}

-- bytes after which the state stays, outside of names
pub staying : (test : ℕ → Bool) (state : ValueState) → ((b : ℕ) → test b ≡ true → after_byte state b ≡ state) → is_calm state ≡ true
    → ends_name state ≡ false → is_name_state state ≡ false → (token rest : List ℕ) → list_all test token ≡ true
    → Same state [] (token ++ rest) state [] rest
staying test state keeps is_calm no_end outside [] rest h = record { steps = λ step. refl; names = refl }
staying test state keeps is_calm no_end outside (b ∷ token) rest h =
    onwards
    (subst (λ (read : List ℕ). Same state [] (b ∷ (token ++ rest)) state read (token ++ rest)) (nothing b)
    (one state state [] b (token ++ rest) (keeps b (all_head test b token h)) no_end (λ step. calm state b step is_calm)))
    (staying test state keeps is_calm no_end outside token rest (all_tail test b token h))
  where
    nothing : (b : ℕ) → name_with state [] b ≡ []
    nothing b = ap (λ (t : Bool). cond t ([] ++ encode_utf8 (to_ascii_lowercase b)) []) outside

-- the first character of a name
first_same : (state : ValueState) (b : ℕ) (rest : List ℕ) → after_byte state b ≡ Attribute → is_calm state ≡ true
    → is_attribute b ≡ true → Same state [] (b ∷ rest) Attribute (to_ascii_lowercase b ∷ []) rest
first_same state b rest goes is_calm is =
    subst (λ (read : List ℕ). Same state [] (b ∷ rest) Attribute read rest) (lowered b is)
    (one state Attribute [] b rest goes refl (λ step. calm state b step is_calm))

-- blanks with a fold, and that
abbrev feed_or : ℕ → ValueState
feed_or b = cond (b == line_feed) Feed (cond (b == carriage_return) Return Wrong)

fold_same : (first : ℕ) (blanks rest : List ℕ) (b : ℕ) → list_all is_blank (first ∷ blanks) ≡ true → is_attribute b ≡ true
    → Same Feed [] ((first ∷ blanks) ++ (b ∷ rest)) Attribute (to_ascii_lowercase b ∷ []) rest
fold_same first blanks rest b all is =
    onwards
    (one Feed Fold [] first (blanks ++ (b ∷ rest)) (pass (is_blank first) Fold Wrong (all_head is_blank first blanks all)) refl
    (λ step. calm Feed first step refl))
    (onwards (staying is_blank Fold blank_folds refl refl refl blanks (b ∷ rest) (all_tail is_blank first blanks all))
    (first_same Fold b rest (pass (is_attribute b) Attribute (cond (is_blank b) Fold Wrong) is) refl is))

gap_same : (gap rest : List ℕ) (b : ℕ) → IsGap gap → is_attribute b ≡ true
    → Same Blank [] (gap ++ (b ∷ rest)) Attribute (to_ascii_lowercase b ∷ []) rest
gap_same gap rest b no_gap is =
    first_same Blank b rest (pass (is_attribute b) Attribute (cond (is_blank b) Blank (feed_or b)) is) refl is
gap_same gap rest b (gap_blank {b = c} {rest = others} blank more) is =
    onwards (one Blank Blank [] c (others ++ (b ∷ rest)) (blank_after c blank) refl (λ step. calm Blank c step refl))
    (gap_same others rest b more is)
gap_same gap rest b (gap_fold first blanks (inl e) all made) is =
    subst (λ (xs : List ℕ). Same Blank [] (xs ++ (b ∷ rest)) Attribute (to_ascii_lowercase b ∷ []) rest)
    (sym (made ∙ ap (λ (line : List ℕ). line ++ (first ∷ blanks)) e))
    (onwards (record { steps = each_step _ refl refl; names = refl }) (fold_same first blanks rest b all is))
gap_same gap rest b (gap_fold first blanks (inr e) all made) is =
    subst (λ (xs : List ℕ). Same Blank [] (xs ++ (b ∷ rest)) Attribute (to_ascii_lowercase b ∷ []) rest)
    (sym (made ∙ ap (λ (line : List ℕ). line ++ (first ∷ blanks)) e))
    (onwards (record { steps = each_step _ refl refl; names = refl }) (fold_same first blanks rest b all is))

-- after a semicolon it is the same
semicolon_same : (gap rest : List ℕ) (b : ℕ) → Same Semicolon [] (gap ++ (b ∷ rest)) Blank [] (gap ++ (b ∷ rest))
semicolon_same [] rest b = record { steps = each_step _ refl refl; names = refl }
semicolon_same (x ∷ gap) rest b = record { steps = each_step _ refl refl; names = refl }

-- the rest of a name
others_same : (name others rest : List ℕ) → list_all is_attribute others ≡ true
    → Same Attribute name (others ++ rest) Attribute (name ++ str_to_ascii_lowercase others) rest
others_same name [] rest h = record {
  steps = λ step. refl;
  names = ap (λ (read : List ℕ). names_after Attribute read rest) (sym (append-nil name));
}
others_same name (b ∷ others) rest h =
    let is = all_head is_attribute b others h in
    onwards
    (subst (λ (read : List ℕ). Same Attribute name (b ∷ (others ++ rest)) Attribute (name ++ read) (others ++ rest)) (lowered b is)
    (one Attribute Attribute name b (others ++ rest) (attribute_keeps b is) refl (none is)))
    (subst (λ (read : List ℕ). Same Attribute (name ++ (to_ascii_lowercase b ∷ [])) (others ++ rest) Attribute read rest)
    (append_assoc name (to_ascii_lowercase b ∷ []) (str_to_ascii_lowercase others))
    (others_same (name ++ (to_ascii_lowercase b ∷ [])) others rest (all_tail is_attribute b others h)))
  where
    none : is_attribute b ≡ true → (step : Step) → is_step step Attribute b ≡ false
    none is Special = refl
    none is Starred = no_asterisk_in b is

-- what comes before the section of a name
name_same : (gap others rest : List ℕ) (first : ℕ) → IsGap gap → list_all is_attribute (first ∷ others) ≡ true
    → Same Semicolon [] (gap ++ ((first ∷ others) ++ rest)) Attribute (str_to_ascii_lowercase (first ∷ others)) rest
name_same gap others rest first is all =
    onwards (semicolon_same gap (others ++ rest) first)
    (onwards (gap_same gap (others ++ rest) first is (all_head is_attribute first others all))
    (others_same (to_ascii_lowercase first ∷ []) others rest (all_tail is_attribute first others all)))

-- ---- values

abbrev within : Bool → ValueState
within true = Space
within false = Quoted

goes_within : (spaced : Bool) (b : ℕ) → after_byte (within spaced) b ≡ in_quotes b
goes_within true b = refl
goes_within false b = refl

within_of : (t : Bool) → cond t Space Quoted ≡ within t
within_of true = refl
within_of false = refl

plain_within : (b : ℕ) → (b == quote) ≡ false → (b == backslash) ≡ false → is_control b ≡ false → in_quotes b ≡ within (b == space)
plain_within b e f g =
    miss (b == quote) Closed (cond (b == backslash) Escaped (cond (is_control b) Wrong (cond (b == space) Space Quoted))) e
    ∙ miss (b == backslash) Escaped (cond (is_control b) Wrong (cond (b == space) Space Quoted)) f
    ∙ miss (is_control b) Wrong (cond (b == space) Space Quoted) g ∙ within_of (b == space)

-- a byte of a plain text
byte_same : (state : ValueState) (b : ℕ) (rest : List ℕ) → is_plain_byte b ≡ true → after_byte state b ≡ in_quotes b
    → ((step : Step) → is_step step state b ≡ false) → Same state [] (b ∷ rest) (within (b == space)) [] rest
byte_same state b rest is goes none =
    let plain = plain_byte b is in
    let next = goes ∙ plain_within b plain.no_quote plain.no_pair plain.no_control in
    subst (λ (read : List ℕ). Same state [] (b ∷ rest) (within (b == space)) read rest) (no_part (b == space))
    (one state (within (b == space)) [] b rest next (no_end (b == space)) none)
  where
    no_part : (t : Bool) → name_with (within t) [] b ≡ []
    no_part true = refl
    no_part false = refl

    no_end : (t : Bool) → ends_name (within t) ≡ false
    no_end true = refl
    no_end false = refl

calm_within : (spaced : Bool) (b : ℕ) → is_plain_byte b ≡ true → (step : Step) → is_step step (within spaced) b ≡ false
calm_within true b is Special = or_from (b == quote) (is_special b) (plain_byte b is).no_quote (plain_byte b is).no_special
calm_within true b is Starred = refl
calm_within false b is Special = (plain_byte b is).no_special
calm_within false b is Starred = refl

-- a plain text, and the quote after it
text_same : (spaced : Bool) (text rest : List ℕ) → IsPlainText text → Same (within spaced) [] (text ++ (quote ∷ rest)) Closed [] rest
text_same spaced text rest (last_byte {b = b} is other) =
    onwards (byte_same (within spaced) b (quote ∷ rest) is (goes_within spaced b) (calm_within spaced b is))
    (subst (λ (t : Bool). Same (within t) [] (quote ∷ rest) Closed [] rest) (sym other)
    (one Quoted Closed [] quote rest refl refl (each_step _ refl refl)))
text_same spaced text rest (more_bytes {b = b} {rest = others} is more) =
    onwards (byte_same (within spaced) b (others ++ (quote ∷ rest)) is (goes_within spaced b) (calm_within spaced b is))
    (text_same (b == space) others rest more)

-- a text before which there is a quote
opened_same : (first : ℕ) (others rest : List ℕ) → (first == space) ≡ false → IsPlainText (first ∷ others)
    → Same Opened [] ((first ∷ others) ++ (quote ∷ rest)) Closed [] rest
opened_same first others rest other is = by_text (first ∷ others) refl is
  where
    opened : (b : ℕ) → first ≡ b → is_plain_byte b ≡ true → (step : Step) → is_step step Opened b ≡ false
    opened b same is Special =
        or_from (b == space) (is_special b) (subst (λ (x : ℕ). (x == space) ≡ false) same other) (plain_byte b is).no_special
    opened b same is Starred = refl

    by_text : (text : List ℕ) → first ∷ others ≡ text → IsPlainText text → Same Opened [] (text ++ (quote ∷ rest)) Closed [] rest
    by_text text same (last_byte {b = b} is last) =
        let head : first ≡ b = cc in
        onwards (byte_same Opened b (quote ∷ rest) is refl (opened b head is))
        (subst (λ (t : Bool). Same (within t) [] (quote ∷ rest) Closed [] rest) (sym last)
        (one Quoted Closed [] quote rest refl refl (each_step _ refl refl)))
    by_text text same (more_bytes {b = b} {rest = more} is left) =
        let head : first ≡ b = cc in
        onwards (byte_same Opened b (more ++ (quote ∷ rest)) is refl (opened b head is)) (text_same (b == space) more rest left)

at_semicolon : (xs : List ℕ)
    → Same Text [] (semicolon ∷ xs) Closed [] (semicolon ∷ xs) × Same Token [] (semicolon ∷ xs) Closed [] (semicolon ∷ xs)
at_semicolon xs = (record { steps = each_step _ refl refl; names = refl }, record { steps = each_step _ refl refl; names = refl })

-- the same is found in parameters after each state in which a value may end
ended_same : (bytes : List ℕ) → AreParameters bytes
    → Same Text [] bytes Closed [] bytes × Same Token [] bytes Closed [] bytes
ended_same bytes no_parameter =
    (record { steps = λ step. refl; names = refl }, record { steps = λ step. refl; names = refl })
ended_same bytes last_semicolon = at_semicolon []
ended_same bytes (parameter {gap = gap} {name = name} {value = value} rest is_gap is is_value more made) =
    subst (λ (xs : List ℕ). Same Text [] xs Closed [] xs × Same Token [] xs Closed [] xs) (sym made)
    (at_semicolon (gap ++ (name ++ (equals_sign ∷ (value ++ rest)))))

-- a plain value after the equals sign
value_same : (value rest : List ℕ) → IsPlainValue value → AreParameters rest → Same Equals [] (value ++ rest) Closed [] rest
value_same value rest (plain_token {first = first} {others = others} all) more =
    onwards
    (one Equals Text [] first (others ++ rest)
    (pass (is_attribute first) Text (cond (first == quote) Opened Wrong) (all_head is_attribute first others all)) refl
    (λ step. calm Equals first step refl))
    (onwards (staying is_attribute Text text_keeps refl refl refl others rest (all_tail is_attribute first others all))
    (ended_same rest more).0)
value_same value rest empty_quotes more = record { steps = each_step _ refl refl; names = refl }
value_same value rest (plain_quotes {first = first} {others = others} other is made) more =
    subst (λ (xs : List ℕ). Same Equals [] xs Closed [] rest)
    (sym (ap (λ (xs : List ℕ). xs ++ rest) made
    ∙ ap (λ (xs : List ℕ). quote ∷ xs) (append_assoc (first ∷ others) (quote ∷ []) rest)))
    (onwards (one Equals Opened [] quote ((first ∷ others) ++ (quote ∷ rest)) refl refl (λ step. calm Equals quote step refl))
    (opened_same first others rest other is))

-- ---- from what is not found to plain parameters

-- a text that ends in a quote
record Ended (text : List ℕ) : Type 0 where
  inner : List ℕ
  is : IsPlainText inner
  made : text ≡ inner ++ (quote ∷ [])

byte_ended : (b : ℕ) (text : List ℕ) → is_plain_byte b ≡ true → (((b == space) ≡ false) × (text ≡ quote ∷ [])) ⊎ Ended text
    → Ended (b ∷ text)
byte_ended b text is (inl h) = record { inner = b ∷ []; is = last_byte is h.0; made = ap (λ (xs : List ℕ). b ∷ xs) h.1 }
byte_ended b text is (inr h) = record { inner = b ∷ h.inner; is = more_bytes is h.is; made = ap (λ (xs : List ℕ). b ∷ xs) h.made }

module _ (rest : List ℕ) where
  ended_text : (spaced : Bool) (text : List ℕ) → IsQuotedText text → list_all no_backslash text ≡ true
      → has_step Special (within spaced) (text ++ rest) ≡ false
      → ((spaced ≡ false) × (text ≡ quote ∷ [])) ⊎ Ended text
  ended_text true text end_quote all h = absurd (cc)
  ended_text false text end_quote all h = inl (refl, refl)
  ended_text spaced text (text_byte {b = b} {rest = more} e f g left) all h =
      let both = parts spaced b e f g h in
      inr (byte_ended b more (byte_plain b (record { no_quote = e; no_pair = f; no_control = g; no_special = both.0 }))
      (ended_text (b == space) more left (all_tail no_backslash b more all) both.1))
    where
      parts : (spaced : Bool) (b : ℕ) → (b == quote) ≡ false → (b == backslash) ≡ false → is_control b ≡ false
          → has_step Special (within spaced) ((b ∷ more) ++ rest) ≡ false
          → (is_special b ≡ false) × (has_step Special (within (b == space)) (more ++ rest) ≡ false)
      parts true b e f g h =
          let both = or_parts (b == quote || is_special b) (has_step Special (in_quotes b) (more ++ rest)) h in (
            (or_parts (b == quote) (is_special b) both.0).1,
            sym (ap (λ (s : ValueState). has_step Special s (more ++ rest)) (plain_within b e f g)) ∙ both.1,
          )
      parts false b e f g h =
          let both = or_parts (is_special b) (has_step Special (in_quotes b) (more ++ rest)) h in
          (both.0, sym (ap (λ (s : ValueState). has_step Special s (more ++ rest)) (plain_within b e f g)) ∙ both.1)
  ended_text spaced text (quoted_pair {b = b} {rest = more} is left made) all h =
      let no : false ≡ true = subst (λ (xs : List ℕ). list_all no_backslash xs ≡ true) made all in absurd (cc)

  quoted_plain : (text : List ℕ) → IsQuotedText text → list_all no_backslash text ≡ true
      → has_step Special Opened (text ++ rest) ≡ false → IsPlainValue (quote ∷ text)
  quoted_plain text end_quote all h = empty_quotes
  quoted_plain text (text_byte {b = b} {rest = more} e f g left) all h =
      let both = or_parts (b == space || is_special b) (has_step Special (in_quotes b) (more ++ rest)) h in
      let step = or_parts (b == space) (is_special b) both.0 in
      opened b more (byte_plain b (record { no_quote = e; no_pair = f; no_control = g; no_special = step.1 })) step.0
      (ended_text (b == space) more left (all_tail no_backslash b more all)
      (sym (ap (λ (s : ValueState). has_step Special s (more ++ rest)) (plain_within b e f g)) ∙ both.1))
    where
      opened : (b : ℕ) (more : List ℕ) → is_plain_byte b ≡ true → (b == space) ≡ false
          → (((b == space) ≡ false) × (more ≡ quote ∷ [])) ⊎ Ended more → IsPlainValue (quote ∷ (b ∷ more))
      opened b more is other (inl h) =
          plain_quotes other (last_byte is h.0) (ap (λ (xs : List ℕ). quote ∷ (b ∷ xs)) h.1)
      opened b more is other (inr h) =
          plain_quotes other (more_bytes is h.is) (ap (λ (xs : List ℕ). quote ∷ (b ∷ xs)) h.made)
  quoted_plain text (quoted_pair {b = b} {rest = more} is left made) all h =
      let no : false ≡ true = subst (λ (xs : List ℕ). list_all no_backslash xs ≡ true) made all in absurd (cc)

  value_plain : (value : List ℕ) → IsParameterValue false value → list_all no_backslash value ≡ true
      → has_step Special Equals (value ++ rest) ≡ false → IsPlainValue value
  value_plain value (token_value all) none h = plain_token all
  value_plain value (quoted_value {text = text} is made) none h =
      subst IsPlainValue (sym made) (quoted_plain text is
      (all_tail no_backslash quote text (subst (λ (xs : List ℕ). list_all no_backslash xs ≡ true) made none))
      (subst (λ (xs : List ℕ). has_step Special Equals (xs ++ rest) ≡ false) made h))

-- nothing is found in parameters
record Clean (bytes : List ℕ) : Type 0 where
  steps : (step : Step) → has_step step Closed bytes ≡ false
  none : list_all no_backslash bytes ≡ true
  repeats : Distinct (names_after Closed [] bytes)

-- a parameter and others after it
module _ (gap others value rest : List ℕ) (first : ℕ) (is_gap : IsGap gap) (all : list_all is_attribute (first ∷ others) ≡ true)
    (more : AreParameters rest) where
  abbrev bytes_with : List ℕ → List ℕ
  bytes_with xs = semicolon ∷ (gap ++ ((first ∷ others) ++ xs))

  abbrev bytes_of : List ℕ
  bytes_of = bytes_with (equals_sign ∷ (value ++ rest))

  abbrev name_of : List ℕ
  name_of = str_to_ascii_lowercase (first ∷ others)

  -- its name
  head_same : (xs : List ℕ) → Same Closed [] (bytes_with xs) Attribute name_of xs
  head_same xs = onwards (record { steps = each_step _ refl refl; names = refl }) (name_same gap others xs first is_gap all)

  equals_steps : (step : Step) → has_step step Closed bytes_of ≡ has_step step Equals (value ++ rest)
  equals_steps step =
      let last : (step : Step) → has_step step Attribute (equals_sign ∷ (value ++ rest)) ≡ has_step step Equals (value ++ rest) =
      each_step _ refl refl in
      (head_same (equals_sign ∷ (value ++ rest))).steps step ∙ last step

  rest_steps : IsPlainValue value → (step : Step) → has_step step Closed bytes_of ≡ has_step step Closed rest
  rest_steps is step = equals_steps step ∙ (value_same value rest is more).steps step

  rest_names : IsPlainValue value → names_after Closed [] bytes_of ≡ name_of ∷ names_after Closed [] rest
  rest_names is =
      (head_same (equals_sign ∷ (value ++ rest))).names
      ∙ ap (λ (names : List (List ℕ)). name_of ∷ names) (value_same value rest is more).names

  parameter_plain : IsParameterValue false value → (Clean rest → ArePlain (names_after Closed [] rest) rest) → Clean bytes_of
      → ArePlain (names_after Closed [] bytes_of) bytes_of
  parameter_plain is_value again h =
      let after_gap = all_back no_backslash gap ((first ∷ others) ++ (equals_sign ∷ (value ++ rest)))
      (all_tail no_backslash semicolon (gap ++ ((first ∷ others) ++ (equals_sign ∷ (value ++ rest)))) h.none) in
      let after_name = all_tail no_backslash equals_sign (value ++ rest)
      (all_back no_backslash (first ∷ others) (equals_sign ∷ (value ++ rest)) after_gap) in
      let is = value_plain rest value is_value (all_front no_backslash value rest after_name)
      (sym (equals_steps Special) ∙ h.steps Special) in
      let distinct = subst Distinct (rest_names is) h.repeats in
      subst (λ (names : List (List ℕ)). ArePlain names bytes_of) (sym (rest_names is))
      (plain_parameter first others rest is_gap all is distinct.0 (again (record {
        steps = λ step. sym (rest_steps is step) ∙ h.steps step;
        none = all_back no_backslash value rest after_name;
        repeats = distinct.1;
      })) refl)

  -- a name with an asterisk is found
  starred_found : (digits : List ℕ) → has_step Starred Closed (bytes_with (asterisk ∷ digits)) ≡ true
  starred_found digits = (head_same (asterisk ∷ digits)).steps Starred

plain_from : (bytes : List ℕ) → AreParameters bytes → Clean bytes → ArePlain (names_after Closed [] bytes) bytes
plain_from bytes no_parameter h = no_plain
plain_from bytes last_semicolon h = plain_semicolon
plain_from bytes (parameter {starred = starred} {gap = gap} {name = name} {value = value} rest is_gap is is_value more made) h =
    let whole : bytes ≡ semicolon ∷ (gap ++ ((is.first ∷ is.others) ++ (is.section ++ (equals_sign ∷ (value ++ rest))))) =
    made ∙ ap (λ (xs : List ℕ). semicolon ∷ (gap ++ (xs ++ (equals_sign ∷ (value ++ rest))))) is.made
    ∙ ap (λ (xs : List ℕ). semicolon ∷ (gap ++ xs))
    (append_assoc (is.first ∷ is.others) is.section (equals_sign ∷ (value ++ rest))) in
    subst (λ (xs : List ℕ). ArePlain (names_after Closed [] xs) xs) (sym whole)
    (by_section starred is.section is.is_section is_value (λ clean. plain_from rest more clean) (subst Clean whole h))
  where
    by_section : (starred : Bool) (section : List ℕ) → IsSection starred section → IsParameterValue starred value
        → (Clean rest → ArePlain (names_after Closed [] rest) rest)
        → Clean (semicolon ∷ (gap ++ ((is.first ∷ is.others) ++ (section ++ (equals_sign ∷ (value ++ rest))))))
        → ArePlain (names_after Closed [] (semicolon ∷ (gap ++ ((is.first ∷ is.others) ++ (section ++ (equals_sign ∷ (value ++ rest)))))))
        (semicolon ∷ (gap ++ ((is.first ∷ is.others) ++ (section ++ (equals_sign ∷ (value ++ rest))))))
    by_section starred section no_asterisk is_value again h =
        parameter_plain gap is.others value rest is.first is_gap is.characters more is_value again h
    by_section starred section (asterisk_and {others = digits} all) is_value again h =
        let so = starred_found gap is.others value rest is.first is_gap is.characters more
        (digits ++ (equals_sign ∷ (value ++ rest))) in
        let no : true ≡ false = sym so ∙ h.steps Starred in absurd (cc)

-- ---- and back

text_quoted : (text : List ℕ) → IsPlainText text → IsQuotedText (text ++ (quote ∷ []))
text_quoted text (last_byte {b = b} is other) =
    let plain = plain_byte b is in text_byte plain.no_quote plain.no_pair plain.no_control end_quote
text_quoted text (more_bytes {b = b} {rest = rest} is more) =
    let plain = plain_byte b is in text_byte plain.no_quote plain.no_pair plain.no_control (text_quoted rest more)

text_none : (text : List ℕ) → IsPlainText text → list_all no_backslash text ≡ true
text_none text (last_byte {b = b} is other) = and_from (no_backslash b) true (not_from_false (b == backslash) (plain_byte b is).no_pair) refl
text_none text (more_bytes {b = b} {rest = rest} is more) =
    and_from (no_backslash b) _ (not_from_false (b == backslash) (plain_byte b is).no_pair) (text_none rest more)

value_strict : (value : List ℕ) → IsPlainValue value → IsParameterValue false value × (list_all no_backslash value ≡ true)
value_strict value (plain_token {first = first} {others = others} all) =
    (token_value all, all_weaker is_attribute no_backslash attribute_no_backslash (first ∷ others) all)
value_strict value empty_quotes = (quoted_value end_quote refl, refl)
value_strict value (plain_quotes {first = first} {others = others} other is made) = (
  quoted_value (text_quoted (first ∷ others) is) made,
  subst (λ (xs : List ℕ). list_all no_backslash xs ≡ true) (sym made)
      (all_joined no_backslash (first ∷ others) (quote ∷ []) (text_none (first ∷ others) is) refl),
)

gap_none : (gap : List ℕ) → IsGap gap → list_all no_backslash gap ≡ true
gap_none gap no_gap = refl
gap_none gap (gap_blank {b = b} {rest = rest} is more) =
    and_from (no_backslash b) _ (blank_no_backslash b is) (gap_none rest more)
gap_none gap (gap_fold first blanks (inl e) all made) =
    subst (λ (xs : List ℕ). list_all no_backslash xs ≡ true) (sym (made ∙ ap (λ (line : List ℕ). line ++ (first ∷ blanks)) e))
    (all_weaker is_blank no_backslash blank_no_backslash (first ∷ blanks) all)
gap_none gap (gap_fold first blanks (inr e) all made) =
    subst (λ (xs : List ℕ). list_all no_backslash xs ≡ true) (sym (made ∙ ap (λ (line : List ℕ). line ++ (first ∷ blanks)) e))
    (all_weaker is_blank no_backslash blank_no_backslash (first ∷ blanks) all)

-- what plain parameters are, and what is not found in them
pub record PlainLacks (names : List (List ℕ)) (bytes : List ℕ) : Type 0 where
  pub are : AreParameters bytes
  pub steps : (step : Step) → has_step step Closed bytes ≡ false
  pub none : list_all no_backslash bytes ≡ true
  pub found : names_after Closed [] bytes ≡ names
  pub distinct : Distinct names

from_plain : (names : List (List ℕ)) (bytes : List ℕ) → ArePlain names bytes → PlainLacks names bytes
from_plain names bytes no_plain = record { are = no_parameter; steps = λ step. refl; none = refl; found = refl; distinct = tt }
from_plain names bytes plain_semicolon =
    record { are = last_semicolon; steps = each_step _ refl refl; none = refl; found = refl; distinct = tt }
from_plain names bytes (plain_parameter {names = later} {gap = gap} {value = value} first others rest is_gap all is other more made) =
    let left = from_plain later rest more in
    let value_is = value_strict value is in
    subst (PlainLacks (str_to_ascii_lowercase (first ∷ others) ∷ later)) (sym made) (record {
      are = parameter {name = first ∷ others} rest is_gap (record {
        first = first;
        others = others;
        section = [];
        characters = all;
        is_section = no_asterisk;
        made = ap (λ (xs : List ℕ). first ∷ xs) (sym (append-nil others));
      }) value_is.0 left.are refl;
      steps = λ step. rest_steps gap others value rest first is_gap all left.are is step ∙ left.steps step;
      none =
          all_joined no_backslash gap _ (gap_none gap is_gap)
          (all_joined no_backslash (first ∷ others) (equals_sign ∷ (value ++ rest))
          (all_weaker is_attribute no_backslash attribute_no_backslash (first ∷ others) all)
          (all_joined no_backslash value rest value_is.1 left.none));
      found =
          rest_names gap others value rest first is_gap all left.are is
          ∙ ap (λ (names : List (List ℕ)). str_to_ascii_lowercase (first ∷ others) ∷ names) left.found;
      distinct = (other, left.distinct);
    })

-- ---- encoded words

word_nowhere : (bytes : List ℕ) → has_word bytes ≡ false → HasNoWord bytes
word_nowhere bytes h = elim (cases_lt (first_place (has_prefix (codes "=?")) bytes) (length bytes)) [
  | inl l ↦ let e = lt-ltb (first_place (has_prefix (codes "=?")) bytes) (length bytes) l in let s = rw e at h in absurd (cc)
  | inr g ↦ all_pass bytes g
]
  where
    all_pass : (xs : List ℕ) → length xs ≤ first_place (has_prefix (codes "=?")) xs → HasNoWord xs
    all_pass [] g = no_word
    all_pass (b ∷ xs) g = elim (cases_Bool (has_prefix (codes "=?") (b ∷ xs))) [
      | inl e ↦ let here = first_place-here (has_prefix (codes "=?")) (b ∷ xs) e in absurd (omega (arith, g, here))
      | inr e ↦
          let next = first_place-past (has_prefix (codes "=?")) b xs e in no_word_here e (all_pass xs (omega (arith, g, next)))
    ]

nowhere_word : (bytes : List ℕ) → HasNoWord bytes → has_word bytes ≡ false
nowhere_word bytes h = let same = at_end bytes h in rw (same, le-ltb (length bytes) (length bytes) (omega arith)) refl
  where
    at_end : (xs : List ℕ) → HasNoWord xs → first_place (has_prefix (codes "=?")) xs ≡ length xs
    at_end xs no_word = refl
    at_end xs (no_word_here {b = b} {rest = rest} e more) =
        first_place-past (has_prefix (codes "=?")) b rest e ∙ ap suc (at_end rest more)

-- ---- a subtype or a disposition with its parameters

-- none of the five is found
pub record ValueLacks (bytes : List ℕ) : Type 0 where
  pub special : has_quoted_special bytes ≡ false
  pub pair : has_quoted_pair bytes ≡ false
  pub extended : has_extended bytes ≡ false
  pub word : has_word bytes ≡ false
  pub repeats : has_repeat none_seen (parameter_names bytes) ≡ false

none_of : (o : Option ℕ) → is_some o ≡ false → o ≡ None
none_of None h = refl
none_of (Some p) h = absurd (cc)

-- what comes before the parameters
token_same : (first : ℕ) (others rest : List ℕ) → is_ascii_alphanumeric first ≡ true → list_all is_restricted others ≡ true
    → AreParameters rest → Same Start [] (first ∷ (others ++ rest)) Closed [] rest
token_same first others rest is all more =
    onwards
    (one Start Token [] first (others ++ rest) (pass (is_ascii_alphanumeric first) Token Wrong is) refl
    (λ step. calm Start first step refl))
    (onwards (staying is_restricted Token token_keeps refl refl refl others rest all) (ended_same rest more).1)

pub plain_of : (bytes : List ℕ) → IsTokenWithParameters bytes → ValueLacks bytes → IsPlain bytes
unfolding parameter_names
plain_of bytes is h =
    let same = token_same is.first is.others is.rest is.begins is.characters is.parameters in
    let special = subst (λ (xs : List ℕ). has_step Special Start xs ≡ false) is.made h.special in
    let extended = subst (λ (xs : List ℕ). has_step Starred Start xs ≡ false) is.made h.extended in
    let none = subst (λ (xs : List ℕ). list_all no_backslash xs ≡ true) is.made
    (none_first (λ b. b == backslash) bytes (none_of (byte_place bytes backslash) h.pair)) in
    let names = subst (λ (xs : List ℕ). has_repeat none_seen (names_after Start [] xs) ≡ false) is.made h.repeats in
    record {
      first = is.first;
      others = is.others;
      rest = is.rest;
      names = names_after Closed [] is.rest;
      begins = is.begins;
      characters = is.characters;
      parameters = plain_from is.rest is.parameters (record {
        steps = each_step _ (sym (same.steps Special) ∙ special) (sym (same.steps Starred) ∙ extended);
        none = all_back no_backslash is.others is.rest (all_tail no_backslash is.first (is.others ++ is.rest) none);
        repeats = subst Distinct same.names (distinct_names (names_after Start [] (is.first ∷ (is.others ++ is.rest))) names);
      });
      made = is.made;
      word = word_nowhere bytes h.word;
    }

-- the names of plain parameters
pub plain_names : (bytes : List ℕ) (is : IsPlain bytes) → parameter_names bytes ≡ is.names
unfolding parameter_names
plain_names bytes is =
    let lacks = from_plain is.names is.rest is.parameters in
    ap (names_after Start []) is.made
    ∙ (token_same is.first is.others is.rest is.begins is.characters lacks.are).names ∙ lacks.found

pub of_plain : (bytes : List ℕ) → IsPlain bytes → IsTokenWithParameters bytes × ValueLacks bytes
unfolding parameter_names
of_plain bytes is =
    let lacks = from_plain is.names is.rest is.parameters in
    let same = token_same is.first is.others is.rest is.begins is.characters lacks.are in
    let none = and_from (no_backslash is.first) _ (alphanumeric_no_backslash is.first is.begins)
    (all_joined no_backslash is.others is.rest
    (all_weaker is_restricted no_backslash restricted_no_backslash is.others is.characters) lacks.none) in (
      record {
        first = is.first;
        others = is.others;
        rest = is.rest;
        begins = is.begins;
        characters = is.characters;
        parameters = lacks.are;
        made = is.made;
      },
      record {
        special = ap (λ (xs : List ℕ). has_step Special Start xs) is.made ∙ same.steps Special ∙ lacks.steps Special;
        pair =
            ap (λ (o : Option ℕ). is_some o) (first_none (λ b. b == backslash) bytes
            (subst (λ (xs : List ℕ). list_all no_backslash xs ≡ true) (sym is.made) none));
        extended = ap (λ (xs : List ℕ). has_step Starred Start xs) is.made ∙ same.steps Starred ∙ lacks.steps Starred;
        word = nowhere_word bytes is.word;
        repeats =
            ap (λ (xs : List ℕ). has_repeat none_seen (names_after Start [] xs)) is.made
            ∙ ap (has_repeat none_seen) (same.names ∙ lacks.found) ∙ names_distinct is.names lacks.distinct;
      },
    )
