-- Bytes are text in the charset of a label exactly if they are by the statement of strict messages.
use Rattle.std.proofs.Common.{◌≡◌, ◌∙◌, ℕ, Bool, true, false, not, cond, List, [], ◌∷◌, refl, sym, ap, subst, inl, inr, arith}
use Rattle.std.specs.Prelude.{◌⊎◌, ◌↔◌, ◌&&◌, ◌||◌, ◌==◌, nat_lt, Option, Some, None, is_some, option_map}
use Rattle.std.specs.List.{list_all, list_any}
use Rattle.std.specs.Str.{bytes_eq, is_utf8, str_eq_ignore_ascii_case, str_to_ascii_lowercase}
use Rattle.std.proofs.lemmas.Bool.{eqb-true, le-ltb, lt-ltb, cases_lt}
use Rattle.std.proofs.lemmas.Bool.{and_from, and_left, and_parts, and_right, cases_Bool, not-false, not-true, not_from_false, not_from_true, or_from, or_parts}
use Rattle.std.proofs.lemmas.Slice.Eq.{bytes_eq-Decides}
use Rattle.std.proofs.lemmas.Str.{IsUtf8-from_is_utf8, is_utf8-from_IsUtf8}
use Rattle.mail_codec.specs.Charset.{Charsets, mark_at_start}
use Rattle.mail_codec.specs.Places.{begins, has_prefix, text_place}
use Rattle.mail_check.specs.Bytes.{first_byte, is_high}
use Rattle.mail_check.specs.Charsets.{after_pair_byte, after_pair_bytes, ascii_labels, has_c1_after, has_replaced, is_c1, is_foreign, is_label_of, is_lacking, is_pair_byte, is_unread, is_whole, iso_8859_labels, other_labels, pair_labels, utf_8_labels}
use Rattle.mail_check.specs.Disputed.{Table, disputed_table, first_after, has_disputed, has_disputed_after, has_disputed_in, is_disputed, is_disputed_pair, is_first, is_in, is_in_block}
use Rattle.mail_check.specs.declared.charsets.PairState.{PairState}
use Rattle.mail_check.specs.declared.charsets.PairState.TheVariants.{Whole, Half, Cut}
use Rattle.mail_check_laws.specs.Charsets.{IsOneOf, this_label, later_label, is_ascii_byte, ArePairs, no_more_pairs, ascii_byte, byte_pair, HasNoC1, no_c1, other_byte, other_after, HasNoReplacement, no_replacement, not_replaced, IsWholeText, HasNoMark}
use Rattle.mail_check_laws.specs.Charsets.{AreAgreed, no_more_agreed, agreed_byte, agreed_pair, AreAgreedIn, no_table, by_table}
use Rattle.mail_check_laws.specs.Charsets.{IsReadWhole, IsInCharset, in_us_ascii, in_utf_8, in_iso_8859, in_pairs, in_other}
use Rattle.mail_check.proofs.lemmas.Booleans.{second_false}
use Rattle.mail_check.proofs.lemmas.Searched.{no_offset, place_next}

-- ---- tests of lists

second_true : (s t : Bool) → s ≡ false → (s || t) ≡ true → t ≡ true
second_true false t e h = h
second_true true t e h = absurd (cc)

first_true : (s t : Bool) → s ≡ true → (s || t) ≡ true
first_true true t e = refl
first_true false t e = absurd (cc)

or_true : (s t : Bool) → t ≡ true → (s || t) ≡ true
or_true true t e = refl
or_true false t e = e

-- no item passes a test
pub none_passes : {X : Type 0} (test : X → Bool) (bytes : List X) → list_any test bytes ≡ false
    → list_all (λ b. not (test b)) bytes ≡ true
none_passes test [] h = refl
none_passes test (b ∷ rest) h =
    let both = or_parts (test b) (list_any test rest) h in
    and_from (not (test b)) _ (not_from_false (test b) both.0) (none_passes test rest both.1)

pub passes_none : {X : Type 0} (test : X → Bool) (bytes : List X) → list_all (λ b. not (test b)) bytes ≡ true
    → list_any test bytes ≡ false
passes_none test [] h = refl
passes_none test (b ∷ rest) h =
    let both = and_parts (not (test b)) (list_all (λ x. not (test x)) rest) h in
    or_from (test b) (list_any test rest) (not-true (test b) both.0) (passes_none test rest both.1)

pub offset_none : (test : ℕ → Bool) (bytes : List ℕ) → list_all (λ b. not (test b)) bytes ≡ true
    → is_some (first_byte test bytes) ≡ false
offset_none test [] h = refl
offset_none test (b ∷ rest) h =
    let both = and_parts (not (test b)) (list_all (λ x. not (test x)) rest) h in
    place_next (begins test) b rest
    ∙ or_from (test b) (is_some (first_byte test rest)) (not-true (test b) both.0) (offset_none test rest both.1)

twice : (t : Bool) → not (not t) ≡ t
twice true = refl
twice false = refl

-- all bytes are ASCII
not_high : (bytes : List ℕ) → list_all (λ b. not (is_high b)) bytes ≡ list_all is_ascii_byte bytes
not_high [] = refl
not_high (b ∷ rest) = λ i. twice (nat_lt b 128) i && not_high rest i

ascii_of : (octets : List ℕ) → is_some (first_byte is_high octets) ≡ false → list_all is_ascii_byte octets ≡ true
ascii_of octets h = sym (not_high octets) ∙ no_offset is_high octets h

of_ascii : (octets : List ℕ) → list_all is_ascii_byte octets ≡ true → is_some (first_byte is_high octets) ≡ false
of_ascii octets h = offset_none is_high octets (not_high octets ∙ h)

-- ---- labels

pub label_of : (label : List ℕ) (labels : List (List ℕ)) → is_label_of label labels ≡ true → IsOneOf label labels
label_of label [] h = absurd (cc)
label_of label (one ∷ others) h = elim (cases_Bool (str_eq_ignore_ascii_case label one)) [
  | inl e ↦ this_label e
  | inr e ↦
      later_label (label_of label others (second_true (str_eq_ignore_ascii_case label one) (is_label_of label others) e h))
]

pub of_label : (label : List ℕ) (labels : List (List ℕ)) → IsOneOf label labels → is_label_of label labels ≡ true
of_label label labels (this_label {one = one} {others = others} e) =
    first_true (str_eq_ignore_ascii_case label one) (is_label_of label others) e
of_label label labels (later_label {one = one} {others = others} more) =
    or_true (str_eq_ignore_ascii_case label one) (is_label_of label others) (of_label label others more)

-- of two lists of labels none has a label of the other
abbrev are_apart : List (List ℕ) → List (List ℕ) → Bool
are_apart labels others = list_all (λ one. not (is_label_of one others)) labels

apart : (others : List (List ℕ)) (label : List ℕ) (labels : List (List ℕ)) → are_apart labels others ≡ true → IsOneOf label labels
    → is_label_of label others ≡ false
apart others label labels h (this_label {one = one} {others = rest} e) =
    ap (λ (xs : List ℕ). list_any (λ l. bytes_eq xs (str_to_ascii_lowercase l)) others)
    ((bytes_eq-Decides (str_to_ascii_lowercase label) (str_to_ascii_lowercase one)).0 e)
    ∙ not-true (is_label_of one others) (and_parts (not (is_label_of one others)) (are_apart rest others) h).0
apart others label labels h (later_label {one = one} {others = rest} more) =
    apart others label rest (and_parts (not (is_label_of one others)) (are_apart rest others) h).1 more

-- ---- pairs

-- a byte of a pair, and more
record HalfThen (bytes : List ℕ) : Type 0 where
  second : ℕ
  left : List ℕ
  is : is_pair_byte second ≡ true
  next : ArePairs left
  made : bytes ≡ second ∷ left

abbrev LeadsOn : PairState → List ℕ → Type 0
LeadsOn Whole bytes = ArePairs bytes
LeadsOn Half bytes = HalfThen bytes
LeadsOn Cut bytes = ⊥

step : (state : PairState) (b : ℕ) (rest : List ℕ) → LeadsOn (after_pair_byte state b) rest → LeadsOn state (b ∷ rest)
step Whole b rest h = elim (cases_Bool (nat_lt b 128)) [
  | inl e ↦ ascii_byte e (subst (λ (t : Bool). LeadsOn (cond t Whole (cond (is_pair_byte b) Half Cut)) rest) e h)
  | inr e ↦
      let past = subst (λ (t : Bool). LeadsOn (cond t Whole (cond (is_pair_byte b) Half Cut)) rest) e h in
      elim (cases_Bool (is_pair_byte b)) [
        | inl f ↦
            let half : HalfThen rest = subst (λ (t : Bool). LeadsOn (cond t Half Cut) rest) f past in
            byte_pair f half.is half.next (ap (λ (xs : List ℕ). b ∷ xs) half.made)
        | inr f ↦ absurd (subst (λ (t : Bool). LeadsOn (cond t Half Cut) rest) f past)
      ]
]
step Half b rest h = elim (cases_Bool (is_pair_byte b)) [
  | inl e ↦
      record {
        second = b;
        left = rest;
        is = e;
        next = subst (λ (t : Bool). LeadsOn (cond t Whole Cut) rest) e h;
        made = refl;
      }
  | inr e ↦ absurd (subst (λ (t : Bool). LeadsOn (cond t Whole Cut) rest) e h)
]
step Cut b rest h = h

leads_on : (state : PairState) (bytes : List ℕ) → is_whole (after_pair_bytes state bytes) ≡ true → LeadsOn state bytes
leads_on state (b ∷ rest) h = step state b rest (leads_on (after_pair_byte state b) rest h)
leads_on Whole [] h = no_more_pairs
leads_on Half [] h = absurd (cc)
leads_on Cut [] h = absurd (cc)

pair_high : (b : ℕ) → is_pair_byte b ≡ true → nat_lt b 128 ≡ false
pair_high b h = elim (cases_lt b 161) [
  | inl l ↦
      let no : nat_lt b 161 ≡ false = not-true (nat_lt b 161) (and_parts (not (nat_lt b 161)) (nat_lt b 255) h).0 in
      let yes = lt-ltb b 161 l in
      absurd (cc)
  | inr g ↦ le-ltb b 128 (omega (arith, g))
]

pairs_go : (bytes : List ℕ) → ArePairs bytes → after_pair_bytes Whole bytes ≡ Whole
pairs_go bytes no_more_pairs = refl
pairs_go bytes (ascii_byte {b = b} {rest = rest} e more) =
    ap (λ (t : Bool). after_pair_bytes (cond t Whole (cond (is_pair_byte b) Half Cut)) rest) e ∙ pairs_go rest more
pairs_go bytes (byte_pair {first = first} {second = second} {rest = rest} e f more made) =
    ap (after_pair_bytes Whole) made
    ∙ ap (λ (t : Bool). after_pair_bytes (cond t Whole (cond (is_pair_byte first) Half Cut)) (second ∷ rest)) (pair_high first e)
    ∙ ap (λ (t : Bool). after_pair_bytes (cond t Half Cut) (second ∷ rest)) e
    ∙ ap (λ (t : Bool). after_pair_bytes (cond t Whole Cut) rest) f ∙ pairs_go rest more

-- ---- characters that programs read differently

module _ (table : Table) where
  -- the second byte of a pair, and more
  record SecondThen (first : ℕ) (bytes : List ℕ) : Type 0 where
    second : ℕ
    left : List ℕ
    pairs : list_all (λ block. not (is_in_block first second block)) table.pairs ≡ true
    more_pairs : list_all (λ block. not (is_in_block first second block)) table.more_pairs ≡ true
    next : AreAgreed table left
    made : bytes ≡ second ∷ left

  abbrev GoesOn : Option ℕ → List ℕ → Type 0
  GoesOn None bytes = AreAgreed table bytes
  GoesOn (Some first) bytes = SecondThen first bytes

  one_agreed : (before : Option ℕ) (b : ℕ) (rest : List ℕ) → is_disputed table before b ≡ false
      → GoesOn (first_after table.singles before b) rest
      → GoesOn before (b ∷ rest)
  one_agreed None b rest none h = elim (cases_Bool (is_first table.singles b)) [
    | inl e ↦
        let past : SecondThen b rest = subst (λ (t : Bool). GoesOn (cond t (Some b) None) rest) e h in
        agreed_pair e past.pairs past.more_pairs past.next (ap (λ (xs : List ℕ). b ∷ xs) past.made)
    | inr e ↦
        let past : AreAgreed table rest = subst (λ (t : Bool). GoesOn (cond t (Some b) None) rest) e h in
        agreed_byte e
        (none_passes (is_in b) table.bytes
        (second_false (not (is_first table.singles b)) (list_any (is_in b) table.bytes) (not_from_false (is_first table.singles b) e) none))
        past
  ]
  one_agreed (Some first) b rest none h =
      let both = or_parts (list_any (is_in_block first b) table.pairs) (list_any (is_in_block first b) table.more_pairs) none in
      record {
        second = b;
        left = rest;
        pairs = none_passes (is_in_block first b) table.pairs both.0;
        more_pairs = none_passes (is_in_block first b) table.more_pairs both.1;
        next = h;
        made = refl;
      }

  agreed_after : (before : Option ℕ) (bytes : List ℕ) → has_disputed_after table before bytes ≡ false → GoesOn before bytes
  agreed_after before (b ∷ rest) h =
      let both =
      or_parts (is_disputed table before b) (has_disputed_after table (first_after table.singles before b) rest) h in
      one_agreed before b rest both.0 (agreed_after (first_after table.singles before b) rest both.1)
  agreed_after None [] h = no_more_agreed
  agreed_after (Some first) [] h = absurd (cc)

  agreed_none : (bytes : List ℕ) → AreAgreed table bytes → has_disputed_after table None bytes ≡ false
  agreed_none bytes no_more_agreed = refl
  agreed_none bytes (agreed_byte {b = b} {rest = rest} e none more) =
      or_from (is_disputed table None b) (has_disputed_after table (first_after table.singles None b) rest)
      (and_right (not (is_first table.singles b)) (list_any (is_in b) table.bytes) (passes_none (is_in b) table.bytes none))
      (ap (λ (t : Bool). has_disputed_after table (cond t (Some b) None) rest) e ∙ agreed_none rest more)
  agreed_none bytes (agreed_pair {first = first} {second = second} {rest = rest} e none others more made) =
      ap (has_disputed_after table None) made
      ∙ or_from (is_disputed table None first) (has_disputed_after table (first_after table.singles None first) (second ∷ rest))
      (and_left (not (is_first table.singles first)) (list_any (is_in first) table.bytes) (not_from_true (is_first table.singles first) e))
      (ap (λ (t : Bool). has_disputed_after table (cond t (Some first) None) (second ∷ rest)) e
      ∙ or_from (is_disputed_pair table first second) (has_disputed_after table None rest)
      (or_from (list_any (is_in_block first second) table.pairs) (list_any (is_in_block first second) table.more_pairs)
      (passes_none (is_in_block first second) table.pairs none) (passes_none (is_in_block first second) table.more_pairs others))
      (agreed_none rest more))

module _ (label octets : List ℕ) where
  agreed_by : (o : Option Table) → disputed_table label ≡ o → has_disputed_in o octets ≡ false → AreAgreedIn label octets
  agreed_by None e h = no_table e
  agreed_by (Some table) e h = by_table e (agreed_after table None octets h)

  agreed_of : has_disputed label octets ≡ false → AreAgreedIn label octets
  agreed_of h = agreed_by (disputed_table label) refl h

  of_agreed : AreAgreedIn label octets → has_disputed label octets ≡ false
  of_agreed (no_table e) = ap (λ (o : Option Table). has_disputed_in o octets) e
  of_agreed (by_table {table = table} e all) =
      ap (λ (o : Option Table). has_disputed_in o octets) e ∙ agreed_none table octets all

-- ---- texts

c1_next : (before : ℕ) (bytes : List ℕ)
    → has_c1_after before bytes ≡ ((before == 0xC2 && begins is_c1 bytes) || has_c1_after 0 bytes)
c1_next before [] = sym (or_from (before == 0xC2 && false) false (and_right (before == 0xC2) false refl) refl)
c1_next before (b ∷ bytes) = refl

pub c1_none : (bytes : List ℕ) → has_c1_after 0 bytes ≡ false → HasNoC1 bytes
c1_none [] h = no_c1
c1_none (b ∷ rest) h =
    let both = or_parts (b == 0xC2 && begins is_c1 rest) (has_c1_after 0 rest) (sym (c1_next b rest) ∙ h) in
    elim (cases_Bool (b == 0xC2)) [
      | inl e ↦
          other_after (second_false (b == 0xC2) (begins is_c1 rest) e both.0) (c1_none rest both.1)
          (ap (λ (x : ℕ). x ∷ rest) (eqb-true b 0xC2 e))
      | inr e ↦ other_byte e (c1_none rest both.1)
    ]

pub none_c1 : (bytes : List ℕ) → HasNoC1 bytes → has_c1_after 0 bytes ≡ false
none_c1 bytes no_c1 = refl
none_c1 bytes (other_byte {b = b} {rest = rest} e more) =
    c1_next b rest
    ∙ or_from (b == 0xC2 && begins is_c1 rest) (has_c1_after 0 rest) (and_left (b == 0xC2) (begins is_c1 rest) e)
    (none_c1 rest more)
none_c1 bytes (other_after {rest = rest} e more made) =
    ap (has_c1_after 0) made ∙ c1_next 0xC2 rest ∙ or_from (begins is_c1 rest) (has_c1_after 0 rest) e (none_c1 rest more)

abbrev replaced : List ℕ
replaced = 0xEF ∷ 0xBF ∷ 0xBD ∷ []

replacement_none : (text : List ℕ) → is_some (text_place text replaced) ≡ false → HasNoReplacement text
replacement_none [] h = no_replacement
replacement_none (b ∷ rest) h =
    let both =
    or_parts (has_prefix replaced (b ∷ rest)) (is_some (text_place rest replaced))
    (sym (place_next (has_prefix replaced) b rest) ∙ h) in
    not_replaced both.0 (replacement_none rest both.1)

none_replacement : (text : List ℕ) → HasNoReplacement text → is_some (text_place text replaced) ≡ false
none_replacement text no_replacement = refl
none_replacement text (not_replaced {b = b} {rest = rest} e more) =
    place_next (has_prefix replaced) b rest
    ∙ or_from (has_prefix replaced (b ∷ rest)) (is_some (text_place rest replaced)) e (none_replacement rest more)

whole_of : (text : List ℕ) → has_replaced text ≡ false → IsWholeText text
whole_of text h =
    let both = or_parts (is_some (text_place text replaced)) (has_c1_after 0 text) h in
    record { replacement = replacement_none text both.0; c1 = c1_none text both.1 }

of_whole : (text : List ℕ) → IsWholeText text → has_replaced text ≡ false
of_whole text h =
    or_from (is_some (text_place text replaced)) (has_c1_after 0 text) (none_replacement text h.replacement) (none_c1 text h.c1)

-- ---- byte order marks

marks : {X Y : Type 0} (f : X → Y) (x y z : X) (p q r : Bool)
    → is_some (option_map f (cond p (Some x) (cond q (Some y) (cond r (Some z) None)))) ≡ (p || (q || r))
marks f x y z true q r = refl
marks f x y z false true r = refl
marks f x y z false false true = refl
marks f x y z false false false = refl

module _ (octets : List ℕ) where
  abbrev of_utf_8 : Bool
  of_utf_8 = has_prefix (0xEF ∷ 0xBB ∷ 0xBF ∷ []) octets

  abbrev of_utf_16_be : Bool
  of_utf_16_be = has_prefix (0xFE ∷ 0xFF ∷ []) octets

  abbrev of_utf_16_le : Bool
  of_utf_16_le = has_prefix (0xFF ∷ 0xFE ∷ []) octets

  marked : is_some (mark_at_start octets) ≡ (of_utf_8 || (of_utf_16_be || of_utf_16_le))
  marked = marks _ _ _ _ of_utf_8 of_utf_16_be of_utf_16_le

  pub mark_none : is_some (mark_at_start octets) ≡ false → HasNoMark octets
  mark_none h =
      let both = or_parts of_utf_8 (of_utf_16_be || of_utf_16_le) (sym marked ∙ h) in
      let others = or_parts of_utf_16_be of_utf_16_le both.1 in
      record { utf_8 = both.0; utf_16_be = others.0; utf_16_le = others.1 }

  pub none_marked : HasNoMark octets → is_some (mark_at_start octets) ≡ false
  none_marked h =
      marked
      ∙ or_from of_utf_8 (of_utf_16_be || of_utf_16_le) h.utf_8 (or_from of_utf_16_be of_utf_16_le h.utf_16_be h.utf_16_le)

-- ---- charsets

module _ (known : Charsets) (label octets : List ℕ) where
  abbrev high : Bool
  high = is_some (first_byte is_high octets)

  read_of : (o : Option (List ℕ → List ℕ)) → known label ≡ o → AreAgreedIn label octets → is_unread o octets ≡ false
      → IsReadWhole known label octets
  read_of None e agreed h = absurd (cc)
  read_of (Some reading) e agreed h =
      record { reading = reading; is = e; text = by_high (cases_Bool high); agreed = agreed }
    where
      by_high : (high ≡ true) ⊎ (high ≡ false) → (list_all is_ascii_byte octets ≡ true) ⊎ IsWholeText (reading octets)
      by_high (inl f) = inr (whole_of (reading octets) (second_false high (has_replaced (reading octets)) f h))
      by_high (inr f) = inl (ascii_of octets f)

  of_read : IsReadWhole known label octets → is_unread (known label) octets ≡ false
  of_read is = ap (λ (o : Option (List ℕ → List ℕ)). is_unread o octets) is.is ∙ by_text is.text
    where
      by_text : (list_all is_ascii_byte octets ≡ true) ⊎ IsWholeText (is.reading octets)
          → (high && has_replaced (is.reading octets)) ≡ false
      by_text (inl all) = and_left high (has_replaced (is.reading octets)) (of_ascii octets all)
      by_text (inr whole) = and_right high (has_replaced (is.reading octets)) (of_whole (is.reading octets) whole)

  -- the tests after those for US-ASCII and for UTF-8
  abbrev c1 : Bool
  c1 = list_any is_c1 octets

  abbrev no_pairs : Bool
  no_pairs = not (is_whole (after_pair_bytes Whole octets))

  abbrev past_pairs : Bool
  past_pairs = cond (is_label_of label pair_labels) no_pairs (not (is_label_of label other_labels))

  abbrev no_utf_8 : Bool
  no_utf_8 = not (is_utf8 octets)

  abbrev past_utf_8 : Bool
  past_utf_8 = is_foreign label octets || (has_disputed label octets || is_unread (known label) octets)

  abbrev past_ascii : Bool
  past_ascii = cond (is_label_of label utf_8_labels) no_utf_8 past_utf_8

  foreign : IsReadWhole known label octets → is_foreign label octets ≡ false → IsInCharset known label octets
  foreign read h = elim (cases_Bool (is_label_of label iso_8859_labels)) [
    | inl e ↦
        in_iso_8859 (label_of label iso_8859_labels e)
        (none_passes is_c1 octets (subst (λ (t : Bool). cond t c1 past_pairs ≡ false) e h)) read
    | inr e ↦
        let past = subst (λ (t : Bool). cond t c1 past_pairs ≡ false) e h in
        elim (cases_Bool (is_label_of label pair_labels)) [
          | inl f ↦
              in_pairs (label_of label pair_labels f)
              (leads_on Whole octets (not-false (is_whole (after_pair_bytes Whole octets))
              (subst (λ (t : Bool). cond t no_pairs (not (is_label_of label other_labels)) ≡ false) f past)))
              read
          | inr f ↦
              in_other (label_of label other_labels (not-false (is_label_of label other_labels)
              (subst (λ (t : Bool). cond t no_pairs (not (is_label_of label other_labels)) ≡ false) f past)))
              read
        ]
  ]

  pub in_charset : is_lacking known label octets ≡ false → IsInCharset known label octets
  in_charset h = elim (cases_Bool (is_label_of label ascii_labels)) [
    | inl e ↦
        in_us_ascii (label_of label ascii_labels e)
        (ascii_of octets (subst (λ (t : Bool). cond t high past_ascii ≡ false) e h))
    | inr e ↦
        let past = subst (λ (t : Bool). cond t high past_ascii ≡ false) e h in
        elim (cases_Bool (is_label_of label utf_8_labels)) [
          | inl f ↦
              in_utf_8 (label_of label utf_8_labels f)
              (IsUtf8-from_is_utf8 octets (not-false (is_utf8 octets)
              (subst (λ (t : Bool). cond t no_utf_8 past_utf_8 ≡ false) f past)))
          | inr f ↦
              let both =
              or_parts (is_foreign label octets) (has_disputed label octets || is_unread (known label) octets)
              (subst (λ (t : Bool). cond t no_utf_8 past_utf_8 ≡ false) f past) in
              let others = or_parts (has_disputed label octets) (is_unread (known label) octets) both.1 in
              foreign (read_of (known label) refl (agreed_of label octets others.0) others.1) both.0
        ]
  ]

  -- a label of or_parts US-ASCII or_from UTF-8
  past_both : is_label_of label ascii_labels ≡ false → is_label_of label utf_8_labels ≡ false → is_foreign label octets ≡ false
      → IsReadWhole known label octets
      → is_lacking known label octets ≡ false
  past_both e f g read =
      ap (λ (t : Bool). cond t high past_ascii) e ∙ ap (λ (t : Bool). cond t no_utf_8 past_utf_8) f
      ∙ or_from (is_foreign label octets) (has_disputed label octets || is_unread (known label) octets) g
      (or_from (has_disputed label octets) (is_unread (known label) octets) (of_agreed label octets read.agreed) (of_read read))

  pub charset_has : IsInCharset known label octets → is_lacking known label octets ≡ false
  charset_has (in_us_ascii is all) =
      ap (λ (t : Bool). cond t high past_ascii) (of_label label ascii_labels is) ∙ of_ascii octets all
  charset_has (in_utf_8 is utf8) =
      ap (λ (t : Bool). cond t high past_ascii) (apart ascii_labels label utf_8_labels refl is)
      ∙ ap (λ (t : Bool). cond t no_utf_8 past_utf_8) (of_label label utf_8_labels is)
      ∙ not_from_true (is_utf8 octets) (is_utf8-from_IsUtf8 octets utf8)
  charset_has (in_iso_8859 is none read) =
      past_both (apart ascii_labels label iso_8859_labels refl is) (apart utf_8_labels label iso_8859_labels refl is)
      (ap (λ (t : Bool). cond t c1 past_pairs) (of_label label iso_8859_labels is) ∙ passes_none is_c1 octets none) read
  charset_has (in_pairs is pairs read) =
      past_both (apart ascii_labels label pair_labels refl is) (apart utf_8_labels label pair_labels refl is)
      (ap (λ (t : Bool). cond t c1 past_pairs) (apart iso_8859_labels label pair_labels refl is)
      ∙ ap (λ (t : Bool). cond t no_pairs (not (is_label_of label other_labels))) (of_label label pair_labels is)
      ∙ ap (λ (s : PairState). not (is_whole s)) (pairs_go octets pairs))
      read
  charset_has (in_other is read) =
      past_both (apart ascii_labels label other_labels refl is) (apart utf_8_labels label other_labels refl is)
      (ap (λ (t : Bool). cond t c1 past_pairs) (apart iso_8859_labels label other_labels refl is)
      ∙ ap (λ (t : Bool). cond t no_pairs (not (is_label_of label other_labels))) (apart pair_labels label other_labels refl is)
      ∙ not_from_true (is_label_of label other_labels) (of_label label other_labels is))
      read

  pub charset_strict : (is_lacking known label octets ≡ false) ↔ IsInCharset known label octets
  charset_strict = (in_charset, charset_has)
