-- A list of addresses that is written is read back as itself.
use Rattle.std.proofs.Common.{◌≡◌, ℕ, suc, ◌+◌, true, false, cond, eqb, List, [], ◌∷◌, ◌++◌, Some, None, Option, length, map, take, drop, refl, sym, ap, subst, ◌∙◌, arith, append_assoc, length-append}
use Rattle.std.specs.Prelude.{min}
use Rattle.std.specs.List.{flat_map, list_all}
use Rattle.std.specs.Str.{IsUtf8}
use Rattle.std.proofs.lemmas.Bool.{and_from, and_parts, eqb-true, false_from_ne_true}
use Rattle.std.proofs.lemmas.List.{append-nil, drop_all, drop_at, take_at}
use Rattle.std.proofs.Math.Seq.{drop-append-add}
use Rattle.mail_codec.specs.Charset.{Charsets}
use Rattle.mail_codec.specs.Places.{begins}
use Rattle.mailparse.specs.Value.{lenient_value_in}
use Rattle.mail_address.specs.Encode.{KnowUtf8}
use Rattle.mail_address.proofs.lemmas.EncodeRead.{words_read}
use Rattle.mail_address.specs.declared.tokens.Kind.TheVariants.{Colon, Semicolon}
use Rattle.mail_address.specs.declared.tokens.Span.{Span}
use Rattle.mail_address.specs.declared.tokens.Span.TheVariants.{BeforeAt, BeforeDelimiter, BeforeSeparator, InGroup, Phrase, White}
use Rattle.mail_address.specs.declared.writer.NewAddress.{NewAddress}
use Rattle.mail_address.specs.declared.writer.NewAddress.TheVariants as new
use Rattle.mail_address.specs.declared.writer.NewGroup.{NewGroup}
use Rattle.mail_address.specs.declared.writer.NewMailbox.{NewMailbox}
use Rattle.mail_address.specs.Addresses.{addresses, after_group, after_name, Element, element_at, element_len, group, group_at, group_len, inner_len, is_group, is_separator, items, member_at, member_len, members_at, name_len, separator_len, Single, single, single_at}
use Rattle.mail_address.specs.Enclosed.{in_angles}
use Rattle.mail_address.specs.Grammar.{address, IsMailbox, IsName, IsPhrase, IsWhite, named_address, no_name, no_route, phrase, white_byte, white_ends}
use Rattle.mail_address.specs.Mailbox.{is_phrase, mailbox_of, Parts, spec_mailbox}
use Rattle.mail_address.specs.Names.{bracketed}
use Rattle.mail_address.specs.Text.{address_bytes, phrase_text}
use Rattle.mail_address.specs.Tokens.{front_token, is_all_white, run}
use Rattle.mail_address.specs.Writer.{are_writable, AreTexts, element_shows, element_shown_for, HasTexts, HaveTexts, is_element_writable, is_writable, joined, mailbox_shown_for, Seen, SeenElement, seen_group, seen_single, separator, single_shows, written_address, written_element, written_list, written_local, written_mailbox, written_name, written_phrase}
use Rattle.mail_address.proofs.lemmas.Addresses.{element_len-some, items-more}
use Rattle.mail_address.proofs.lemmas.Enclosed.{enclosed-passed, delimited}
use Rattle.mail_address.proofs.lemmas.GrammarMade.{all_white-made, either-made, none-some}
use Rattle.mail_address.proofs.lemmas.GrammarRead.{mailbox-read, phrase-read}
use Rattle.mail_address.proofs.lemmas.Names.{no_items, Crosses, IsElementEnd, IsEnd, at_comma, at_end, at_semicolon, ends, crosses-group, crosses-delimiter, end-stops, member-first, single-first}
use Rattle.mail_address.proofs.lemmas.Passed.{at_domain-passed, at-passed, colon-front, comma-passed, dotted-passed, IsPassed, name-passed, passed-append, passed-same, passed-up_to, passed-whole, phrase-passed, run-stops, semicolon-front, spec-angles, white-passed}
use Rattle.mail_address.proofs.lemmas.Tokens.{drop_past}
use Rattle.mail_address.proofs.lemmas.WriterWords.{address-shows, domain-is_domain, local-is_local, phrase-nothing, phrase-written, written-clean}

-- ---- runs over a mailbox

pub mailbox-passed : {span : Span} → Crosses span → {text : List ℕ} {m : Parts} → IsMailbox text m → IsPassed span text
mailbox-passed {span} crosses (address {local = local} {domain = domain} is_local is_domain clean e) =
    passed-same span e
    (passed-append span local (64 ∷ domain) (dotted-passed crosses.over_words is_local) (at_domain-passed crosses.over_atoms crosses.over_literals (at-passed span crosses.at) [] domain white_ends is_domain))
mailbox-passed {span} crosses (named_address {name = name} {may_be_route = may_be_route} {local = local} {domain = domain} {after = after} is_name is_route is_local is_domain clean is_white e) =
    let inner : List ℕ = may_be_route ++ (local ++ 64 ∷ domain) in
    passed-same span (e ∙ ap (λ b. name ++ b) (sym (delimited 60 62 inner after)))
    (passed-append span name (bracketed inner ++ after) (name-passed crosses.over_words is_name)
    (passed-append span (bracketed inner) after (λ rest. enclosed-passed span (bracketed inner) rest crosses.angle (in_angles (spec-angles is_route is_local is_domain) refl))
    (crosses.over_words.white is_white)))

-- ---- a mailbox is more than whitespace

white-no_mailbox : (text : List ℕ) → IsWhite text → mailbox_of text ≡ None
unfolding mailbox_of spec_mailbox front_token
white-no_mailbox text is =
    let first = passed-whole Phrase text (white-passed Phrase refl refl is) in
    let second = passed-whole BeforeAt text (white-passed BeforeAt refl refl is) in
    let end : drop (length text) text ≡ [] = drop_all (length text) text (omega arith) in
    rw (first, second, end) refl

pub mailbox-not_white : {text : List ℕ} {m : Parts} → IsMailbox text m → is_all_white text ≡ false
mailbox-not_white {text} {m} is =
    false_from_ne_true (is_all_white text) (λ e. none-some (sym (white-no_mailbox text (all_white-made text e)) ∙ mailbox-read text m is))

-- ---- a mailbox at the front of a list

module _ (text : List ℕ) (m : Parts) (is : IsMailbox text m) (start : ℕ) where
  abbrev element : Element
  element = single (record { start = start; text = text; mailbox = Some m })

  mailbox-first : {after left : List ℕ} → IsElementEnd after left
      → items element_at element_len start (text ++ after) ≡ element ∷ items element_at element_len (start + min (suc (length text)) (length (text ++ after))) left
  mailbox-first {after} {left} end =
      single-first text after left end (λ span crosses. mailbox-passed crosses is) (mailbox-not_white is) (Some m) (mailbox-read text m is) start

  mailbox-at : (b : ℕ) (rest : List ℕ) → IsElementEnd (b ∷ rest) rest
      → items element_at element_len start (text ++ b ∷ rest) ≡ element ∷ items element_at element_len (start + suc (length text)) rest
  mailbox-at b rest end =
      let len = length-append text (b ∷ rest) in
      let short : min (suc (length text)) (length (text ++ b ∷ rest)) ≡ suc (length text) = omega (arith, len) in
      mailbox-first end ∙ ap (λ n. element ∷ items element_at element_len (start + n) rest) short

  -- a mailbox and a separator
  pub mailbox-separated : (b : ℕ) (rest : List ℕ) → is_separator b ≡ true
      → items element_at element_len start (text ++ b ∷ rest) ≡ element ∷ items element_at element_len (start + suc (length text)) rest
  mailbox-separated b rest h =
      either-made (eqb b 44) (eqb b 59)
      (λ e. mailbox-at b rest (subst (λ c. IsElementEnd (c ∷ rest) rest) (sym (eqb-true b 44 e)) (ends (at_comma rest))))
      (λ e. mailbox-at b rest (subst (λ c. IsElementEnd (c ∷ rest) rest) (sym (eqb-true b 59 e)) (at_semicolon rest))) h

  -- a mailbox alone
  pub mailbox-alone : items element_at element_len start text ≡ element ∷ []
  mailbox-alone =
      ap (items element_at element_len start) (sym (append-nil text)) ∙ mailbox-first (ends at_end)
      ∙ ap (λ es. element ∷ es) (no_items (start + min (suc (length text)) (length (text ++ []))))

-- the bytes after a group, and after a comma if one follows it
separator-left : (text : List ℕ) {after left : List ℕ} → IsEnd after left → drop (length text + separator_len after) (text ++ after) ≡ left
separator-left text at_end = drop-append-add text [] 0
separator-left text (at_comma rest) = drop-append-add text (44 ∷ rest) 1

fold_white : IsWhite (13 ∷ 10 ∷ 32 ∷ [])
fold_white = white_byte refl (white_byte refl (white_byte refl white_ends))

-- a list of texts with separators is read one after another, if each is read before the end or a comma
module _ (A B C : Type 0) (at : ℕ → List ℕ → List B) (len : List ℕ → ℕ) (written : A → List ℕ) (shows : B → C) (shown : A → C) (Able : List A → Type 0)
    (later : (x : A) (xs : List A) → Able (x ∷ xs) → Able xs)
    (first : (before : List ℕ) (x : A) (xs : List A) (after left : List ℕ) (start : ℕ) → IsWhite before → Able (x ∷ xs) → IsEnd after left
    → (next : ℕ) × (map shows (items at len start ((before ++ written x) ++ after)) ≡ shown x ∷ map shows (items at len next left))) where
  joined-read : (before : List ℕ) (x : A) (xs : List A) (start : ℕ) → IsWhite before → Able (x ∷ xs)
      → map shows (items at len start (before ++ joined written (x ∷ xs))) ≡ map shown (x ∷ xs)
  unfolding items
  joined-read before x [] start white able =
      ap (λ b. map shows (items at len start b)) (sym (append_assoc before (written x) [])) ∙ (first before x [] [] [] start white able at_end).1
  joined-read before x (y ∷ ys) start white able =
      let left : List ℕ = (13 ∷ 10 ∷ 32 ∷ []) ++ joined written (y ∷ ys) in
      let read = first before x (y ∷ ys) (44 ∷ left) left start white able (at_comma left) in
      ap (λ b. map shows (items at len start b)) (sym (append_assoc before (written x) (44 ∷ left))) ∙ read.1
      ∙ ap (λ ss. shown x ∷ ss) (joined-read (13 ∷ 10 ∷ 32 ∷ []) y ys read.0 fold_white (later x (y ∷ ys) able))

-- ---- a mailbox that is written

module _ (known : Charsets) (knows : KnowUtf8 known) where
  -- the parts of a mailbox that is written, with whitespace before it
  abbrev parts_of : List ℕ → NewMailbox → Parts
  parts_of before m = record { display_name = before ++ written_name m.display_name.now; local_part = written_local m.local_part.now; domain = m.domain.now }

  -- a name that is written, with whitespace before it
  record IsNamed (before name written : List ℕ) : Type 0 where
    pub is : IsName (before ++ written)
    pub shows : lenient_value_in known (phrase_text (before ++ written)) ≡ name

  name-is : (before name : List ℕ) → IsWhite before → IsUtf8 name → IsNamed before name (written_name name)
  unfolding written_name
  name-is before [] white utf8 =
      let same = append-nil before in
      record {
        is = subst IsName (sym same) (no_name white);
        shows = ap (λ b. lenient_value_in known (phrase_text b)) same ∙ ap (lenient_value_in known) (phrase-nothing white) ∙ words_read known knows [] tt;
      }
  name-is before (b ∷ name) white utf8 =
      let written = phrase-written known knows (b ∷ name) utf8 in
      record {
        is = phrase (written.phrase_is before (32 ∷ []) white (white_byte refl white_ends));
        shows = written.shows before (32 ∷ []) white (white_byte refl white_ends);
      }

  mailbox-written : (before : List ℕ) (m : NewMailbox) → IsWhite before → IsUtf8 m.display_name.now → is_writable m ≡ true → IsMailbox (before ++ written_mailbox m) (parts_of before m)
  mailbox-written before m white utf8 able =
      named_address {name = before ++ written_name m.display_name.now} {may_be_route = []} {local = written_local m.local_part.now} {domain = m.domain.now} {after = []}
      (name-is before m.display_name.now white utf8).is no_route (local-is_local m.local_part.now) (domain-is_domain m able).0 (written-clean m able) white_ends
      (sym (append_assoc before (written_name m.display_name.now) (bracketed (written_address m))))

  mailbox-shows : (before : List ℕ) (m : NewMailbox) (start : ℕ) (text : List ℕ) → IsWhite before → IsUtf8 m.display_name.now → is_writable m ≡ true
      → single_shows known (record { start = start; text = text; mailbox = Some (parts_of before m) }) ≡ mailbox_shown_for m
  mailbox-shows before m start text white utf8 able =
      ap (λ n. Some (record { name = n; address = address_bytes (written_local m.local_part.now) m.domain.now })) (name-is before m.display_name.now white utf8).shows
      ∙ ap (λ a. Some (record { name = m.display_name.now; address = a })) (address-shows m able)

  -- ---- the members of a group

  others-passed : (ms : List NewMailbox) → AreTexts ms → list_all is_writable ms ≡ true → IsPassed InGroup (flat_map (λ m. separator ++ written_mailbox m) ms)
  others-passed [] texts able = λ rest. omega arith
  others-passed (m ∷ ms) texts able =
      let both = and_parts (is_writable m) (list_all is_writable ms) able in
      let text : List ℕ = (13 ∷ 10 ∷ 32 ∷ []) ++ written_mailbox m in
      passed-append InGroup (44 ∷ text) (flat_map (λ m. separator ++ written_mailbox m) ms)
      (passed-append InGroup (44 ∷ []) text (comma-passed InGroup refl) (mailbox-passed crosses-group (mailbox-written (13 ∷ 10 ∷ 32 ∷ []) m fold_white texts.0 both.0)))
      (others-passed ms texts.1 both.1)

  all-passed : (ms : List NewMailbox) → AreTexts ms → list_all is_writable ms ≡ true → IsPassed InGroup (joined written_mailbox ms)
  all-passed [] texts able = λ rest. omega arith
  all-passed (m ∷ ms) texts able =
      let both = and_parts (is_writable m) (list_all is_writable ms) able in
      passed-append InGroup (written_mailbox m) (flat_map (λ m. separator ++ written_mailbox m) ms) (mailbox-passed crosses-group (mailbox-written [] m white_ends texts.0 both.0))
      (others-passed ms texts.1 both.1)

  all-read : (ms : List NewMailbox) (start : ℕ) → AreTexts ms → list_all is_writable ms ≡ true
      → map (single_shows known) (members_at start (joined written_mailbox ms)) ≡ map mailbox_shown_for ms
  unfolding items
  all-read [] start texts able = refl
  all-read (m ∷ ms) start texts able =
      joined-read NewMailbox Single (Option Seen) member_at member_len written_mailbox (single_shows known) mailbox_shown_for (λ ms. AreTexts ms × (list_all is_writable ms ≡ true))
      (λ m ms h. (h.0.1, (and_parts (is_writable m) (list_all is_writable ms) h.1).1)) first [] m ms start white_ends (texts, able)
    where
      first : (before : List ℕ) (m : NewMailbox) (ms : List NewMailbox) (after left : List ℕ) (start : ℕ) → IsWhite before → AreTexts (m ∷ ms) × (list_all is_writable (m ∷ ms) ≡ true) → IsEnd after left
          → (next : ℕ) × (map (single_shows known) (items member_at member_len start ((before ++ written_mailbox m) ++ after))
          ≡ mailbox_shown_for m ∷ map (single_shows known) (items member_at member_len next left))
      first before m ms after left start white h end =
          let text : List ℕ = before ++ written_mailbox m in
          let able = (and_parts (is_writable m) (list_all is_writable ms) h.1).0 in
          let is = mailbox-written before m white h.0.0 able in
          let n : ℕ = min (suc (length text)) (length (text ++ after)) in (
            start + n,
            ap (map (single_shows known)) (member-first text after left end (λ span crosses. mailbox-passed crosses is) (mailbox-not_white is) (Some (parts_of before m))
                (mailbox-read text (parts_of before m) is) start)
                ∙ ap (λ s. s ∷ map (single_shows known) (items member_at member_len (start + n) left)) (mailbox-shows before m start text white h.0.0 able),
          )

  -- ---- a group

  -- the first element of a list, and then those of what is left
  abbrev ReadFirst : List ℕ → NewAddress → List ℕ → List ℕ → ℕ → Type 0
  ReadFirst before e after left start = (next : ℕ) × (map (element_shows known) (items element_at element_len start ((before ++ written_element e) ++ after))
      ≡ element_shown_for e ∷ map (element_shows known) (items element_at element_len next left))

  phrase-alone : (before name : List ℕ) → IsWhite before → IsUtf8 name → IsPhrase (before ++ written_phrase name) × (lenient_value_in known (phrase_text (before ++ written_phrase name)) ≡ name)
  phrase-alone before name white utf8 =
      let written = phrase-written known knows name utf8 in
      let same : before ++ (written_phrase name ++ []) ≡ before ++ written_phrase name = ap (λ b. before ++ b) (append-nil (written_phrase name)) in
      (subst IsPhrase same (written.phrase_is before [] white white_ends), ap (λ b. lenient_value_in known (phrase_text b)) (sym same) ∙ written.shows before [] white white_ends)

  module _ (before after left : List ℕ) (g : NewGroup) (white : IsWhite before) (utf8 : IsUtf8 g.display_name.now) (texts : AreTexts g.members.now)
      (able : list_all is_writable g.members.now ≡ true) (end : IsEnd after left) where
    abbrev name : List ℕ
    name = before ++ written_phrase g.display_name.now

    abbrev inner : List ℕ
    inner = joined written_mailbox g.members.now

    abbrev bytes : List ℕ
    bytes = name ++ 58 ∷ (inner ++ 59 ∷ after)

    is_name : IsPhrase name × (lenient_value_in known (phrase_text name) ≡ g.display_name.now)
    is_name = phrase-alone before g.display_name.now white utf8

    name_len-is : name_len bytes ≡ length name
    unfolding name_len
    name_len-is =
        passed-up_to BeforeDelimiter name (58 ∷ (inner ++ 59 ∷ after)) (phrase-passed crosses-delimiter.over_words is_name.0)
        (run-stops BeforeDelimiter (58 ∷ (inner ++ 59 ∷ after)) 1 Colon (colon-front (inner ++ 59 ∷ after)) refl)

    after_name-is : after_name bytes ≡ inner ++ 59 ∷ after
    after_name-is =
        ap (λ n. drop (suc n) bytes) name_len-is
        ∙ drop_past name 58 (inner ++ 59 ∷ after)

    inner_len-is : inner_len bytes ≡ length inner
    unfolding inner_len
    inner_len-is =
        ap (run InGroup) after_name-is
        ∙ passed-up_to InGroup inner (59 ∷ after) (all-passed g.members.now texts able) (run-stops InGroup (59 ∷ after) 1 Semicolon (semicolon-front after) refl)

    take-name : take (name_len bytes) bytes ≡ name
    take-name = take_at name (58 ∷ (inner ++ 59 ∷ after)) (name_len bytes) (sym name_len-is)

    take-inner : take (inner_len bytes) (after_name bytes) ≡ inner
    take-inner = ap (take (inner_len bytes)) after_name-is ∙ take_at inner (59 ∷ after) (inner_len bytes) (sym inner_len-is)

    group-is : is_group bytes ≡ true
    unfolding is_group
    group-is =
        and_from _ _
        (and_from _ _ (ap (begins (λ b. eqb b 58)) (drop_at name (58 ∷ (inner ++ 59 ∷ after)) (name_len bytes) (sym name_len-is)))
        (ap is_phrase take-name ∙ phrase-read is_name.0))
        (ap (λ b. begins (λ c. eqb c 59) (drop (inner_len bytes) b)) after_name-is ∙ ap (begins (λ c. eqb c 59)) (drop_at inner (59 ∷ after) (inner_len bytes) (sym inner_len-is)))

    after_group-is : after_group bytes ≡ after
    after_group-is =
        ap (λ n. drop (suc n) (after_name bytes)) inner_len-is
        ∙ ap (drop (suc (length inner))) after_name-is ∙ drop_past inner 59 after

    abbrev text : List ℕ
    text = name ++ 58 ∷ (inner ++ 59 ∷ [])

    text-whole : bytes ≡ text ++ after
    text-whole =
        ap (λ b. name ++ 58 ∷ b) (sym (append_assoc inner (59 ∷ []) after)) ∙ sym (append_assoc name (58 ∷ (inner ++ 59 ∷ [])) after)

    text-len : length text ≡ length name + length inner + 2
    text-len =
        let one = length-append name (58 ∷ (inner ++ 59 ∷ [])) in
        let two = length-append inner (59 ∷ []) in
        omega (arith, one, two)

    group_len-is : group_len bytes ≡ length text
    unfolding group_len
    group_len-is =
        let one = name_len-is in
        let two = inner_len-is in
        let white = ap (run White) after_group-is ∙ end-stops White refl end in
        let len = text-len in
        omega (arith, one, two, white, len)

    left-is : drop (element_len bytes) bytes ≡ left
    unfolding element_len
    left-is =
        ap (λ t. drop (cond t (group_len bytes + separator_len (drop (group_len bytes) bytes)) (min (suc (run BeforeSeparator bytes)) (length bytes))) bytes) group-is
        ∙ ap (λ b. drop (group_len bytes + separator_len b) bytes) then
        ∙ ap (λ n. drop (n + separator_len after) bytes) group_len-is
        ∙ ap (drop (length text + separator_len after)) text-whole
        ∙ separator-left text end
      where
        then : drop (group_len bytes) bytes ≡ after
        then = ap (drop (group_len bytes)) text-whole ∙ drop_at text after (group_len bytes) (sym group_len-is)

    group-first : (start : ℕ) → map (element_shows known) (items element_at element_len start bytes)
        ≡ element_shown_for (new.Group g) ∷ map (element_shows known) (items element_at element_len (start + element_len bytes) left)
    unfolding element_at group_at
    group-first start =
        let len = length-append name (58 ∷ (inner ++ 59 ∷ after)) in
        ap (map (element_shows known)) (items-more element_at element_len element_len-some start bytes (omega (arith, len)))
        ∙ ap (λ t. map (element_shows known) (cond t (group (group_at start bytes) ∷ []) (map single (single_at start (take (run BeforeSeparator bytes) bytes)))
        ++ items element_at element_len (start + element_len bytes) (drop (element_len bytes) bytes))) group-is
        ∙ ap (λ b. element_shows known (group (group_at start bytes)) ∷ map (element_shows known) (items element_at element_len (start + element_len bytes) b)) left-is
        ∙ ap (λ n. seen_group (lenient_value_in known (phrase_text n)) (map (single_shows known) (members_at (start + suc (name_len bytes)) (take (inner_len bytes) (after_name bytes))))
        ∷ map (element_shows known) (items element_at element_len (start + element_len bytes) left)) take-name
        ∙ ap (λ n. seen_group n (map (single_shows known) (members_at (start + suc (name_len bytes)) (take (inner_len bytes) (after_name bytes))))
        ∷ map (element_shows known) (items element_at element_len (start + element_len bytes) left)) is_name.1
        ∙ ap (λ b. seen_group g.display_name.now (map (single_shows known) (members_at (start + suc (name_len bytes)) b))
        ∷ map (element_shows known) (items element_at element_len (start + element_len bytes) left)) take-inner
        ∙ ap (λ ms. seen_group g.display_name.now ms ∷ map (element_shows known) (items element_at element_len (start + element_len bytes) left))
        (all-read g.members.now (start + suc (name_len bytes)) texts able)

    group-read : (start : ℕ) → ReadFirst before (new.Group g) after left start
    group-read start = (
      start + element_len bytes,
      ap (λ b. map (element_shows known) (items element_at element_len start (b ++ after))) (sym (append_assoc before (written_phrase g.display_name.now) (58 ∷ (inner ++ 59 ∷ []))))
          ∙ ap (λ b. map (element_shows known) (items element_at element_len start b)) (sym text-whole)
          ∙ group-first start,
    )

  -- ---- a list

  element-first : (before : List ℕ) (e : NewAddress) (after left : List ℕ) (start : ℕ) → IsWhite before → HasTexts e → is_element_writable e ≡ true → IsEnd after left
      → ReadFirst before e after left start
  element-first before (new.Mailbox m) after left start white texts able end =
      let text : List ℕ = before ++ written_mailbox m in
      let is = mailbox-written before m white texts able in
      let n : ℕ = min (suc (length text)) (length (text ++ after)) in (
        start + n,
        ap (map (element_shows known)) (single-first text after left (ends end) (λ span crosses. mailbox-passed crosses is) (mailbox-not_white is) (Some (parts_of before m))
            (mailbox-read text (parts_of before m) is) start)
            ∙ ap (λ s. seen_single s ∷ map (element_shows known) (items element_at element_len (start + n) left)) (mailbox-shows before m start text white texts able),
      )
  element-first before (new.Group g) after left start white texts able end = group-read before after left g white texts.0 texts.1 able end start

  pub written-reads : (list : List NewAddress) → HaveTexts list → are_writable list ≡ true → map (element_shows known) (addresses (written_list list)) ≡ map element_shown_for list
  unfolding written_list
  written-reads [] texts able = ap (map (element_shows known)) (no_items 0)
  written-reads (e ∷ es) texts able =
      joined-read NewAddress Element SeenElement element_at element_len written_element (element_shows known) element_shown_for (λ es. HaveTexts es × (are_writable es ≡ true))
      (λ e es h. (h.0.1, (and_parts (is_element_writable e) (are_writable es) h.1).1))
      (λ before e es after left start white h end. element-first before e after left start white h.0.0 (and_parts (is_element_writable e) (are_writable es) h.1).0 end)
      [] e es 0 white_ends (texts, able)
