-- Groups of mailboxes are those of the grammar.
use Rattle.std.proofs.Common.{◌≡◌, ℕ, zero, suc, ◌+◌, ◌<◌, ◌≤◌, inl, inr, true, cond, eqb, ◌&&◌, List, [], ◌∷◌, ◌++◌, Some, length, take, drop, map, refl, sym, ap, subst, ◌∙◌, arith, append_assoc, length-append, length-drop}
use Rattle.std.specs.Prelude.{min}
use Rattle.std.proofs.lemmas.Bool.{and_from, and_parts, cases_lt, cond_both, cond-true, eqb-true}
use Rattle.std.proofs.lemmas.List.{append-nil, drop_all, drop_at, length-take-le, take_all, take_at}
use Rattle.std.proofs.Math.Seq.{drop-append-add}
use Rattle.mail_codec.specs.Places.{begins}
use Rattle.mail_address.specs.declared.tokens.Kind.TheVariants.{Colon, Semicolon}
use Rattle.mail_address.specs.declared.tokens.Span.TheVariants.{BeforeComma, BeforeDelimiter, BeforeSeparator, InGroup, White}
use Rattle.mail_address.specs.Addresses.{addresses, after_group, after_name, Element, element_at, element_len, Group, group, group_at, group_len, inner_len, is_group, is_separator, items, items_within, member_at, member_len, members_at, name_len, separator_len, Single, single, single_at}
use Rattle.mail_address.specs.Grammar.{IsWhite, white_ends}
use Rattle.mail_address.specs.Groups.{AreMailboxes, AreMembers, blank_member, GroupsFollow, IsGroup, mailbox_at, next_member, no_member, one_member}
use Rattle.mail_address.specs.Mailbox.{is_phrase, mailbox_of}
use Rattle.mail_address.specs.Tokens.{is_all_white, run}
use Rattle.mail_address.proofs.lemmas.Addresses.{begins-within, element_len-some, items-more, member_len-some}
use Rattle.mail_address.proofs.lemmas.GrammarLists.{items-hold}
use Rattle.mail_address.proofs.lemmas.GrammarMade.{all_white-made, comma-after, cut-around, cut-more, either-made, mailbox-made, phrase-made, white-made}
use Rattle.mail_address.proofs.lemmas.GrammarRead.{mailbox-read, phrase-read}
use Rattle.mail_address.proofs.lemmas.Names.{as_single, at_comma, at_end, at_semicolon, crosses-delimiter, crosses-group, element-stops, end-left, end-stops, ends, IsElementEnd, IsEnd, member-first, no_items}
use Rattle.mail_address.proofs.lemmas.Passed.{colon-front, comma-passed, IsPassed, passed-append, passed-same, passed-up_to, phrase-passed, run-stops, semicolon-front, white-passed, white-whole}
use Rattle.mail_address.proofs.lemmas.Tokens.{drop_past}
use Rattle.mail_address.proofs.lemmas.WriterRead.{mailbox-not_white, mailbox-passed}

-- ---- the members of a group of the grammar are read

members-passed : {start : ℕ} {bytes : List ℕ} {members : List Single} → AreMembers start bytes members → IsPassed InGroup bytes
members-passed (no_member white) = white-passed InGroup refl refl white
members-passed (one_member is) = mailbox-passed crosses-group is
members-passed (blank_member {white = white} {rest = rest} is more e) =
    passed-same InGroup e (passed-append InGroup white (44 ∷ rest) (white-passed InGroup refl refl is) (passed-append InGroup (44 ∷ []) rest (comma-passed InGroup refl) (members-passed more)))
members-passed (next_member {text = text} {rest = rest} is more e) =
    passed-same InGroup e (passed-append InGroup text (44 ∷ rest) (mailbox-passed crosses-group is) (passed-append InGroup (44 ∷ []) rest (comma-passed InGroup refl) (members-passed more)))

no_members : (start : ℕ) → items member_at member_len start [] ≡ []
unfolding items
no_members start = refl

-- no member is whitespace
module _ (white after left : List ℕ) (is : IsWhite white) (end : IsEnd after left) (start : ℕ) where
  blank-run : run BeforeComma (white ++ after) ≡ length white
  blank-run = passed-up_to BeforeComma white after (white-passed BeforeComma refl refl is) (end-stops BeforeComma refl end)

  blank-at : member_at start (white ++ after) ≡ []
  unfolding member_at single_at
  blank-at =
      ap (λ n. cond (is_all_white (take n (white ++ after))) [] (as_single start (take n (white ++ after)) (mailbox_of (take n (white ++ after))) ∷ [])) blank-run
      ∙ ap (λ t. cond (is_all_white t) [] (as_single start t (mailbox_of t) ∷ [])) (take_at white after (length white) refl)
      ∙ cond-true _ _ _ (white-whole is)

  blank-len : member_len (white ++ after) ≡ min (suc (length white)) (length (white ++ after))
  unfolding member_len
  blank-len = ap (λ n. min (suc n) (length (white ++ after))) blank-run

  blank-first : 0 < length (white ++ after) → items member_at member_len start (white ++ after)
      ≡ items member_at member_len (start + min (suc (length white)) (length (white ++ after))) left
  blank-first some =
      items-more member_at member_len member_len-some start (white ++ after) some
      ∙ ap (λ e. e ++ items member_at member_len (start + member_len (white ++ after)) (drop (member_len (white ++ after)) (white ++ after))) blank-at
      ∙ ap (λ n. items member_at member_len (start + n) (drop n (white ++ after))) blank-len
      ∙ ap (items member_at member_len (start + min (suc (length white)) (length (white ++ after)))) (end-left white (ends end))

white-alone : (white : List ℕ) → IsWhite white → (start : ℕ) → items member_at member_len start white ≡ []
white-alone [] is start = no_members start
white-alone (b ∷ white) is start =
    ap (items member_at member_len start) (sym (append-nil (b ∷ white)))
    ∙ blank-first (b ∷ white) [] [] is at_end start (let same = ap length (append-nil (b ∷ white)) in omega (arith, same))
    ∙ no_members (start + min (suc (length (b ∷ white))) (length ((b ∷ white) ++ [])))

short : (text : List ℕ) (b : ℕ) (rest : List ℕ) → min (suc (length text)) (length (text ++ b ∷ rest)) ≡ suc (length text)
short text b rest = let len = length-append text (b ∷ rest) in omega (arith, len)

members-read : {start : ℕ} {bytes : List ℕ} {members : List Single} → AreMembers start bytes members → members_at start bytes ≡ members
members-read {start} {bytes} (no_member white) = white-alone bytes white start
members-read {start} {bytes} (one_member {m = m} is) =
    ap (items member_at member_len start) (sym (append-nil bytes))
    ∙ member-first bytes [] [] at_end (λ span crosses. mailbox-passed crosses is) (mailbox-not_white is) (Some m) (mailbox-read bytes m is) start
    ∙ ap (λ ss. mailbox_at start bytes m ∷ ss) (no_members (start + min (suc (length bytes)) (length (bytes ++ []))))
members-read {start} (blank_member {white = white} {rest = rest} is more e) =
    let len = length-append white (44 ∷ rest) in
    ap (items member_at member_len start) e
    ∙ blank-first white (44 ∷ rest) rest is (at_comma rest) start (omega (arith, len))
    ∙ ap (λ n. items member_at member_len (start + n) rest) (short white 44 rest)
    ∙ members-read more
members-read {start} (next_member {text = text} {rest = rest} {m = m} is more e) =
    ap (items member_at member_len start) e
    ∙ member-first text (44 ∷ rest) rest (at_comma rest) (λ span crosses. mailbox-passed crosses is) (mailbox-not_white is) (Some m) (mailbox-read text m is) start
    ∙ ap (λ n. mailbox_at start text m ∷ items member_at member_len (start + n) rest) (short text 44 rest)
    ∙ ap (λ ss. mailbox_at start text m ∷ ss) (members-read more)

-- ---- a group of the grammar is an element

abbrev as_group : ℕ → List ℕ → List ℕ → List Single → Group
as_group start text name members = record { start = start; text = text; display_name = name; members = members }

-- the separator of an element, and the bytes after it
element-left : (text : List ℕ) {after left : List ℕ} → IsElementEnd after left → drop (length text + separator_len after) (text ++ after) ≡ left
element-left text (ends at_end) = drop-append-add text [] 0
element-left text (ends (at_comma rest)) = drop-append-add text (44 ∷ rest) 1
element-left text (at_semicolon rest) = drop-append-add text (59 ∷ rest) 1

module _ (start : ℕ) (text : List ℕ) (g : Group) (is : IsGroup start text g) (after left : List ℕ) (end : IsElementEnd after left) where
  abbrev rest : List ℕ
  rest = is.inner ++ 59 ∷ (is.white ++ after)

  abbrev bytes : List ℕ
  bytes = is.name ++ 58 ∷ rest

  whole : text ++ after ≡ bytes
  whole =
      ap (λ b. b ++ after) is.made ∙ append_assoc is.name (58 ∷ (is.inner ++ 59 ∷ is.white)) after
      ∙ ap (λ b. is.name ++ 58 ∷ b) (append_assoc is.inner (59 ∷ is.white) after)

  name_len-is : name_len bytes ≡ length is.name
  unfolding name_len
  name_len-is =
      passed-up_to BeforeDelimiter is.name (58 ∷ rest) (phrase-passed crosses-delimiter.over_words is.is_name)
      (run-stops BeforeDelimiter (58 ∷ rest) 1 Colon (colon-front rest) refl)

  after_name-is : after_name bytes ≡ rest
  after_name-is = ap (λ n. drop (suc n) bytes) name_len-is ∙ drop_past is.name 58 rest

  inner_len-is : inner_len bytes ≡ length is.inner
  unfolding inner_len
  inner_len-is =
      ap (run InGroup) after_name-is
      ∙ passed-up_to InGroup is.inner (59 ∷ (is.white ++ after)) (members-passed is.are_members) (run-stops InGroup (59 ∷ (is.white ++ after)) 1 Semicolon (semicolon-front (is.white ++ after)) refl)

  take-name : take (name_len bytes) bytes ≡ is.name
  take-name = take_at is.name (58 ∷ rest) (name_len bytes) (sym name_len-is)

  take-inner : take (inner_len bytes) (after_name bytes) ≡ is.inner
  take-inner = ap (take (inner_len bytes)) after_name-is ∙ take_at is.inner (59 ∷ (is.white ++ after)) (inner_len bytes) (sym inner_len-is)

  group-is : is_group bytes ≡ true
  unfolding is_group
  group-is =
      and_from _ _
      (and_from _ _ (ap (begins (λ b. eqb b 58)) (drop_at is.name (58 ∷ rest) (name_len bytes) (sym name_len-is)))
      (ap is_phrase take-name ∙ phrase-read is.is_name))
      (ap (λ b. begins (λ c. eqb c 59) (drop (inner_len bytes) b)) after_name-is ∙ ap (begins (λ c. eqb c 59)) (drop_at is.inner (59 ∷ (is.white ++ after)) (inner_len bytes) (sym inner_len-is)))

  after_group-is : after_group bytes ≡ is.white ++ after
  after_group-is =
      ap (λ n. drop (suc n) (after_name bytes)) inner_len-is
      ∙ ap (drop (suc (length is.inner))) after_name-is ∙ drop_past is.inner 59 (is.white ++ after)

  text-len : length text ≡ length is.name + length is.inner + 2 + length is.white
  text-len =
      let same = ap length is.made in
      let one = length-append is.name (58 ∷ (is.inner ++ 59 ∷ is.white)) in
      let two = length-append is.inner (59 ∷ is.white) in
      omega (arith, same, one, two)

  group_len-is : group_len bytes ≡ length text
  unfolding group_len
  group_len-is =
      let one = name_len-is in
      let two = inner_len-is in
      let white = ap (run White) after_group-is ∙ passed-up_to White is.white after (white-passed White refl refl is.white_after) (element-stops White refl refl end) in
      let len = text-len in
      omega (arith, one, two, white, len)

  take-text : take (group_len bytes) bytes ≡ text
  take-text = ap (take (group_len bytes)) (sym whole) ∙ take_at text after (group_len bytes) (sym group_len-is)

  then : drop (group_len bytes) bytes ≡ after
  then = ap (drop (group_len bytes)) (sym whole) ∙ drop_at text after (group_len bytes) (sym group_len-is)

  len-is : element_len bytes ≡ length text + separator_len after
  unfolding element_len
  len-is =
      cond-true _ _ _ group-is
      ∙ ap (λ b. group_len bytes + separator_len b) then
      ∙ ap (λ n. n + separator_len after) group_len-is

  group-made : group_at start bytes ≡ g
  unfolding group_at
  group-made =
      ap (λ t. as_group start t (take (name_len bytes) bytes) (members_at (start + suc (name_len bytes)) (take (inner_len bytes) (after_name bytes)))) take-text
      ∙ ap (λ n. as_group start text n (members_at (start + suc (name_len bytes)) (take (inner_len bytes) (after_name bytes)))) take-name
      ∙ ap (λ i. as_group start text is.name (members_at (start + suc (name_len bytes)) i)) take-inner
      ∙ ap (λ n. as_group start text is.name (members_at (start + suc n) is.inner)) name_len-is
      ∙ ap (as_group start text is.name) (members-read is.are_members)
      ∙ sym is.same

  pub group-first : items element_at element_len start (text ++ after) ≡ group g ∷ items element_at element_len (start + (length text + separator_len after)) left
  unfolding element_at
  group-first =
      let some = length-append is.name (58 ∷ rest) in
      ap (items element_at element_len start) whole
      ∙ items-more element_at element_len element_len-some start bytes (omega (arith, some))
      ∙ ap (λ es. es ++ items element_at element_len (start + element_len bytes) (drop (element_len bytes) bytes)) (cond-true _ _ _ group-is)
      ∙ ap (λ e. group e ∷ items element_at element_len (start + element_len bytes) (drop (element_len bytes) bytes)) group-made
      ∙ ap (λ n. group g ∷ items element_at element_len (start + n) (drop n bytes)) len-is
      ∙ ap (λ b. group g ∷ items element_at element_len (start + (length text + separator_len after)) (drop (length text + separator_len after) b)) (sym whole)
      ∙ ap (λ l. group g ∷ items element_at element_len (start + (length text + separator_len after)) l) (element-left text end)

-- a group alone
pub group-alone : (start : ℕ) (text : List ℕ) (g : Group) → IsGroup start text g → items element_at element_len start text ≡ group g ∷ []
group-alone start text g is =
    ap (items element_at element_len start) (sym (append-nil text)) ∙ group-first start text g is [] [] (ends at_end)
    ∙ ap (λ es. group g ∷ es) (no_items (start + (length text + 0)))

-- a group and a separator
pub group-separated : (start : ℕ) (text rest : List ℕ) (separator : ℕ) (g : Group) → IsGroup start text g → is_separator separator ≡ true
    → items element_at element_len start (text ++ separator ∷ rest) ≡ group g ∷ items element_at element_len (start + suc (length text)) rest
group-separated start text rest b g is h =
    either-made (eqb b 44) (eqb b 59)
    (λ e. at b (subst (λ c. IsElementEnd (c ∷ rest) rest) (sym (eqb-true b 44 e)) (ends (at_comma rest))) (ap (λ t. cond t 1 0) h))
    (λ e. at b (subst (λ c. IsElementEnd (c ∷ rest) rest) (sym (eqb-true b 59 e)) (at_semicolon rest)) (ap (λ t. cond t 1 0) h)) h
  where
    at : (b : ℕ) → IsElementEnd (b ∷ rest) rest → separator_len (b ∷ rest) ≡ 1
        → items element_at element_len start (text ++ b ∷ rest) ≡ group g ∷ items element_at element_len (start + suc (length text)) rest
    at b end one =
        let next : length text + separator_len (b ∷ rest) ≡ suc (length text) = omega (arith, one) in
        group-first start text g is (b ∷ rest) rest end ∙ ap (λ n. group g ∷ items element_at element_len (start + n) rest) next

-- ---- a group that is read is one of the grammar

-- a comma after the first k bytes
low-case : (start k : ℕ) (bytes : List ℕ) (later : List Single) → k < length bytes → begins (λ b. eqb b 44) (drop k bytes) ≡ true
    → (AreMailboxes later → AreMembers (start + suc k) (drop (suc k) bytes) later)
    → AreMailboxes (single_at start (take k bytes) ++ later) → AreMembers start bytes (single_at start (take k bytes) ++ later)
unfolding single_at
low-case start k bytes later low comma more are =
    let text : List ℕ = take k bytes in
    let rest : List ℕ = drop (suc k) bytes in
    let len : length text ≡ k = length-take-le k bytes (omega arith) in
    let cut : bytes ≡ text ++ 44 ∷ rest = cut-around 44 k bytes comma in
    let next : (AreMailboxes later → AreMembers (start + suc (length text)) rest later) =
    subst (λ n. AreMailboxes later → AreMembers (start + suc n) rest later) (sym len) more in
    cond_both (is_all_white text) [] (as_single start text (mailbox_of text) ∷ []) (λ ss. AreMailboxes (ss ++ later) → AreMembers start bytes (ss ++ later))
    (λ e a. blank_member {white = text} {rest = rest} (all_white-made text e) (next a) cut)
    (λ e a. subst (λ o. AreMembers start bytes (as_single start text o ∷ later)) (sym a.0.1)
    (next_member {text = text} {rest = rest} (mailbox-made text a.0.0 a.0.1) (next a.1) cut)) are

-- no comma
high-case : (start : ℕ) (bytes : List ℕ) → AreMailboxes (single_at start bytes) → AreMembers start bytes (single_at start bytes)
unfolding single_at
high-case start bytes are =
    cond_both (is_all_white bytes) [] (as_single start bytes (mailbox_of bytes) ∷ []) (λ ss. AreMailboxes ss → AreMembers start bytes ss)
    (λ e a. no_member (all_white-made bytes e))
    (λ e a. subst (λ o. AreMembers start bytes (as_single start bytes o ∷ [])) (sym a.0.1) (one_member (mailbox-made bytes a.0.0 a.0.1))) are

nothing-within : (n start : ℕ) → items_within member_at member_len n start [] ≡ []
nothing-within zero start = refl
nothing-within (suc n) start = refl

member_len-low : (bytes : List ℕ) → run BeforeComma bytes < length bytes → member_len bytes ≡ suc (run BeforeComma bytes)
unfolding member_len
member_len-low bytes low = omega (arith, low)

member_len-high : (bytes : List ℕ) → length bytes ≤ run BeforeComma bytes → member_len bytes ≡ length bytes
unfolding member_len
member_len-high bytes high = omega (arith, high)

members-made : (n start : ℕ) (bytes : List ℕ) → length bytes ≤ n → AreMailboxes (items_within member_at member_len n start bytes)
    → AreMembers start bytes (items_within member_at member_len n start bytes)
unfolding member_at
members-made zero start [] fits are = no_member white_ends
members-made zero start (b ∷ bytes) fits are = absurd (omega (arith, fits))
members-made (suc n) start [] fits are = no_member white_ends
members-made (suc n) start (b ∷ more) fits are =
    let bytes : List ℕ = b ∷ more in
    let k : ℕ = run BeforeComma bytes in
    elim (cases_lt k (length bytes)) [
      | inl low ↦
          let shorter = length-drop (suc k) bytes in
          subst (λ m. AreMailboxes (single_at start (take k bytes) ++ items_within member_at member_len n (start + m) (drop m bytes))
          → AreMembers start bytes (single_at start (take k bytes) ++ items_within member_at member_len n (start + m) (drop m bytes))) (sym (member_len-low bytes low))
          (low-case start k bytes (items_within member_at member_len n (start + suc k) (drop (suc k) bytes)) low (comma-after bytes low)
          (members-made n (start + suc k) (drop (suc k) bytes) (omega (arith, shorter, fits)))) are
      | inr high ↦
          let same : items_within member_at member_len (suc n) start bytes ≡ single_at start bytes =
          ap (λ t. single_at start t ++ items_within member_at member_len n (start + member_len bytes) (drop (member_len bytes) bytes)) (take_all k bytes high)
          ∙ ap (λ r. single_at start bytes ++ items_within member_at member_len n (start + member_len bytes) r)
          (ap (λ m. drop m bytes) (member_len-high bytes high) ∙ drop_all (length bytes) bytes (omega arith))
          ∙ ap (λ ss. single_at start bytes ++ ss) (nothing-within n (start + member_len bytes))
          ∙ append-nil (single_at start bytes) in
          subst (λ ss. AreMailboxes ss → AreMembers start bytes ss) (sym same) (high-case start bytes) are
    ]

members_at-made : (start : ℕ) (bytes : List ℕ) → AreMailboxes (members_at start bytes) → AreMembers start bytes (members_at start bytes)
unfolding items
members_at-made start bytes are = members-made (length bytes) start bytes (omega arith) are

group-follows : (start : ℕ) (bytes : List ℕ) → is_group bytes ≡ true → AreMailboxes (group_at start bytes).members
    → IsGroup (group_at start bytes).start (group_at start bytes).text (group_at start bytes)
unfolding group_at is_group group_len
group-follows start bytes h are =
    let n : ℕ = name_len bytes in
    let after : List ℕ = after_name bytes in
    let i : ℕ = inner_len bytes in
    let inner : List ℕ = take i after in
    let w : ℕ = run White (after_group bytes) in
    let both = and_parts (begins (λ b. eqb b 58) (drop n bytes) && is_phrase (take n bytes)) (begins (λ b. eqb b 59) (drop i after)) h in
    let first = and_parts (begins (λ b. eqb b 58) (drop n bytes)) (is_phrase (take n bytes)) both.0 in
    let within = begins-within (λ b. eqb b 58) n bytes first.0 in
    let len : length (take n bytes) ≡ n = length-take-le n bytes (omega (arith, within)) in
    let sum : n + i + 2 + w ≡ suc n + (suc i + w) = omega arith in
    record {
      name = take n bytes;
      inner = inner;
      white = take w (after_group bytes);
      members = members_at (start + suc n) inner;
      is_name = phrase-made (take n bytes) first.1;
      are_members = subst (λ k. AreMembers (start + suc k) inner (members_at (start + suc n) inner)) (sym len) (members_at-made (start + suc n) inner are);
      white_after = white-made (after_group bytes);
      made =
          ap (λ k. take k bytes) sum ∙ cut-more 58 n (suc i + w) bytes first.0
          ∙ ap (λ r. take n bytes ++ 58 ∷ r) (cut-more 59 i w after both.1);
      same = refl;
    }

groups-append : (xs ys : List Element) → GroupsFollow xs → GroupsFollow ys → GroupsFollow (xs ++ ys)
groups-append [] ys first second = second
groups-append (single s ∷ xs) ys first second = groups-append xs ys first second
groups-append (group g ∷ xs) ys first second = (first.0, groups-append xs ys first.1 second)

singles-follow : (ss : List Single) → GroupsFollow (map single ss)
singles-follow [] = tt
singles-follow (s ∷ ss) = singles-follow ss

element-follows : (start : ℕ) (bytes : List ℕ) → GroupsFollow (element_at start bytes)
unfolding element_at
element-follows start bytes =
    let text : List ℕ = take (run BeforeSeparator bytes) bytes in
    cond_both (is_group bytes) (group (group_at start bytes) ∷ []) (map single (single_at start text)) GroupsFollow (λ e. (group-follows start bytes e, tt)) (λ e. singles-follow (single_at start text))

pub groups-follow : (raw : List ℕ) → GroupsFollow (addresses raw)
groups-follow raw = items-hold element_at element_len GroupsFollow tt groups-append element-follows 0 raw
