-- Lemmas on mailboxes whose names may show anything.
use Rattle.std.proofs.Common.{◌≡◌, ℕ, suc, ◌+◌, ◌-◌, ◌<◌, true, false, eqb, ◌&&◌, ◌||◌, List, [], ◌∷◌, ◌++◌, Option, length, take, drop, map, refl, sym, ap, ◌∙◌, arith, append_assoc, length-append}
use Rattle.std.specs.Prelude.{min}
use Rattle.std.specs.List.{flat_map}
use Rattle.std.proofs.lemmas.Bool.{cond_both, cond-false, eqb-false, false≢true, ne_eqb, or_parts}
use Rattle.std.proofs.lemmas.List.{append-nil, drop_all, drop_at, take_at}
use Rattle.mail_codec.specs.Places.{begins}
use Rattle.mail_address.specs.declared.tokens.Kind.{Kind}
use Rattle.mail_address.specs.declared.tokens.Kind.TheVariants.{Angle, Comma, Quoted, At, Semicolon}
use Rattle.mail_address.specs.declared.tokens.Span.{Span}
use Rattle.mail_address.specs.declared.tokens.Span.TheVariants.{BeforeDelimiter, BeforeSeparator, White, Word, BeforeComma, InGroup}
use Rattle.mail_address.specs.Addresses.{after_name, element_at, element_len, inner_len, is_group, items, name_len, single, single_at, Single, member_at, member_len}
use Rattle.mail_address.specs.Enclosed.{IsBetween, no_bytes, quoted_pair, plain_byte, IsInAngles, in_angles}
use Rattle.mail_address.specs.Mailbox.{after_route, after_white, is_phrase, mailbox_of, Parts, spec_mailbox, within_ends}
use Rattle.mail_address.specs.Names.{AreNameWords, bracketed, IsNameWord, last_word, next_word, quoted_word, named}
use Rattle.mail_address.specs.Text.{escaped_byte, front_len, front_meaning, meaning, front_word, front_word_len, quoted_text, unquoted, word_at, word_or_space, word_or_white_len}
use Rattle.mail_address.specs.Tokens.{front_token, is_all_white, is_in, run, step}
use Rattle.mail_address.specs.Grammar.{any_word, any_words, atoms, IsPhrase, IsPhraseRest, IsWhite, literals, phrase, phrase_ends, phrase_white, phrase_word, white_byte, white_ends}
use Rattle.mail_address.proofs.lemmas.Addresses.{element_len-some, items-more, member_len-some}
use Rattle.mail_address.proofs.lemmas.Enclosed.{enclosed-passed, delimited-length, quoted-closed}
use Rattle.mail_address.proofs.lemmas.Tokens.{far-stop, far-nothing}
use Rattle.mail_address.proofs.lemmas.Passed.{comma-front, GoesOver, IsPassed, over-atoms, over-literals, over-words, passed-append, passed-up_to, phrase-passed, run-stops, semicolon-front, white-whole}
use Rattle.mail_address.proofs.lemmas.GrammarRead.{bracket-read, word-front}

-- ---- words with a space after each are a phrase

pub one_space : IsWhite (32 ∷ [])
one_space = white_byte refl white_ends

pub space-rest : {rest : List ℕ} → IsPhraseRest rest → IsPhraseRest (32 ∷ rest)
space-rest {rest} is = phrase_white {white = 32 ∷ []} {rest = rest} one_space is refl

names-rest : {bytes : List ℕ} → AreNameWords bytes → IsPhraseRest bytes
names-rest (last_word {word = word} is e) = phrase_word {word = word} {rest = 32 ∷ []} is (space-rest phrase_ends) e
names-rest (next_word {word = word} {rest = rest} is more e) = phrase_word {word = word} {rest = 32 ∷ rest} is (space-rest (names-rest more)) e

-- the first word, and the bytes after its space
record FirstWord (bytes : List ℕ) : Type 0 where
  pub word : List ℕ
  pub rest : List ℕ
  pub is : IsNameWord word
  pub is_rest : IsPhraseRest rest
  pub cut : bytes ≡ word ++ 32 ∷ rest

first-word : {bytes : List ℕ} → AreNameWords bytes → FirstWord bytes
first-word (last_word {word = word} is e) = record { word = word; rest = []; is = is; is_rest = phrase_ends; cut = e }
first-word (next_word {word = word} {rest = rest} is more e) = record { word = word; rest = rest; is = is; is_rest = names-rest more; cut = e }

names-phrase : {name : List ℕ} → AreNameWords name → IsPhrase name
names-phrase words =
    let first = first-word words in
    record { before = []; first = first.word; rest = 32 ∷ first.rest; white_before = white_ends; is_first = first.is; is_rest = space-rest first.is_rest; made = first.cut }

-- ---- the first token of words

pub record Front (bytes : List ℕ) : Type 0 where
  pub kind : Kind
  pub len : ℕ
  pub token : front_token bytes ≡ record { kind = kind; len = len }
  pub is_word : is_in Word kind ≡ true
  pub no_white : is_in White kind ≡ false

front-of : {name : List ℕ} → AreNameWords name → (rest : List ℕ) → Front (name ++ rest)
front-of {name} words rest =
    let first = first-word words in
    let t = word-front (any_word first.is) (32 ∷ (first.rest ++ rest)) in
    record {
      kind = t.kind;
      len = t.len;
      token = ap (λ b. front_token (b ++ rest)) first.cut ∙ ap front_token (append_assoc first.word (32 ∷ first.rest) rest) ∙ t.front;
      is_word = t.goes;
      no_white = t.no_white;
    }

names-some : {name : List ℕ} → AreNameWords name → 0 < length name
names-some {name} words =
    let first = first-word words in
    let len : length name ≡ length first.word + length (32 ∷ first.rest) = ap length first.cut ∙ length-append first.word (32 ∷ first.rest) in
    omega (arith, len)

step-white : (bytes : List ℕ) → Front bytes → step White bytes ≡ 0
unfolding step
step-white bytes front = rw (front.token) (rw (front.no_white) refl)

-- there is no whitespace or comment before a word
pub no_white-front : (bytes : List ℕ) → Front bytes → run White bytes ≡ 0
no_white-front bytes front = far-stop (step White) bytes (step-white bytes front)

all_white-not : (bytes : List ℕ) → Front bytes → 0 < length bytes → is_all_white bytes ≡ false
unfolding is_all_white
all_white-not bytes front some = let none = no_white-front bytes front in ne_eqb (run White bytes) (length bytes) (λ e. absurd (omega (arith, none, e)))

pub after_white-same : (bytes : List ℕ) → Front bytes → after_white bytes ≡ bytes
unfolding after_white
after_white-same bytes front = ap (λ n. drop n bytes) (no_white-front bytes front)

-- ---- an element at the front of a list

pub no_items : (start : ℕ) → items element_at element_len start [] ≡ []
unfolding items
no_items start = refl

-- the contents of a run that a comma or another delimiter ends
pub record Crosses (span : Span) : Type 0 where
  pub over_words : GoesOver any_words (IsPassed span)
  pub over_atoms : GoesOver atoms (IsPassed span)
  pub over_literals : GoesOver literals (IsPassed span)
  pub at : is_in span At ≡ true
  pub angle : is_in span Angle ≡ true

pub crosses-delimiter : Crosses BeforeDelimiter
crosses-delimiter = record { over_words = over-words BeforeDelimiter refl refl refl refl refl; over_atoms = over-atoms BeforeDelimiter refl refl refl refl; over_literals = over-literals BeforeDelimiter refl refl refl refl; at = refl; angle = refl }

crosses-separator : Crosses BeforeSeparator
crosses-separator = record { over_words = over-words BeforeSeparator refl refl refl refl refl; over_atoms = over-atoms BeforeSeparator refl refl refl refl; over_literals = over-literals BeforeSeparator refl refl refl refl; at = refl; angle = refl }

crosses-comma : Crosses BeforeComma
crosses-comma = record { over_words = over-words BeforeComma refl refl refl refl refl; over_atoms = over-atoms BeforeComma refl refl refl refl; over_literals = over-literals BeforeComma refl refl refl refl; at = refl; angle = refl }

pub crosses-group : Crosses InGroup
crosses-group = record { over_words = over-words InGroup refl refl refl refl refl; over_atoms = over-atoms InGroup refl refl refl refl; over_literals = over-literals InGroup refl refl refl refl; at = refl; angle = refl }

-- what may follow: the end, or a comma
pub data IsEnd : List ℕ → List ℕ → Type 0 where
  at_end : IsEnd [] []
  at_comma : (rest : List ℕ) → IsEnd (44 ∷ rest) rest

pub end-stops : (span : Span) → is_in span Comma ≡ false → {after left : List ℕ} → IsEnd after left → run span after ≡ 0
end-stops span stops at_end = far-nothing (step span)
end-stops span stops (at_comma rest) = run-stops span (44 ∷ rest) 1 Comma (comma-front rest) stops

-- what may follow an element of a list: the same, or a semicolon
pub data IsElementEnd : List ℕ → List ℕ → Type 0 where
  ends : {after left : List ℕ} → IsEnd after left → IsElementEnd after left
  at_semicolon : (rest : List ℕ) → IsElementEnd (59 ∷ rest) rest

pub element-stops : (span : Span) → is_in span Comma ≡ false → is_in span Semicolon ≡ false → {after left : List ℕ} → IsElementEnd after left → run span after ≡ 0
element-stops span comma semicolon (ends end) = end-stops span comma end
element-stops span comma semicolon (at_semicolon rest) = run-stops span (59 ∷ rest) 1 Semicolon (semicolon-front rest) semicolon

end-no_colon : {after left : List ℕ} → IsElementEnd after left → begins (λ b. eqb b 58) after ≡ false
end-no_colon (ends at_end) = refl
end-no_colon (ends (at_comma rest)) = refl
end-no_colon (at_semicolon rest) = refl

-- the bytes up to a separator, with it, and the bytes after it
separator-cut : (text : List ℕ) (b : ℕ) (rest : List ℕ) → drop (min (suc (length text)) (length (text ++ b ∷ rest))) (text ++ b ∷ rest) ≡ rest
separator-cut text b rest =
    let len = length-append text (b ∷ rest) in
    ap (drop (min (suc (length text)) (length (text ++ b ∷ rest)))) (sym (append_assoc text (b ∷ []) rest))
    ∙ drop_at (text ++ b ∷ []) rest (min (suc (length text)) (length (text ++ b ∷ rest))) (let front = length-append text (b ∷ []) in omega (arith, len, front))

pub end-left : (text : List ℕ) {after left : List ℕ} → IsElementEnd after left → drop (min (suc (length text)) (length (text ++ after))) (text ++ after) ≡ left
end-left text (ends at_end) =
    let same = append-nil text in
    let len = ap length same in
    drop_all (min (suc (length text)) (length (text ++ []))) (text ++ []) (omega (arith, len))
end-left text (ends (at_comma rest)) = separator-cut text 44 rest
end-left text (at_semicolon rest) = separator-cut text 59 rest

-- an element of the list, which is more than whitespace
abbrev pub as_single : ℕ → List ℕ → Option Parts → Single
as_single start text m = record { start = start; text = text; mailbox = m }

some-shown : (text after : List ℕ) → is_all_white text ≡ false → 0 < length (text ++ after)
some-shown [] after none = absurd (false≢true (sym none ∙ white-whole white_ends))
some-shown (b ∷ text) after none = omega arith

single-is : (text : List ℕ) → is_all_white text ≡ false → (m : Option Parts) → mailbox_of text ≡ m → (start : ℕ) → single_at start text ≡ as_single start text m ∷ []
unfolding single_at
single-is text shown m is start = cond-false _ _ _ shown ∙ ap (λ m. as_single start text m ∷ []) is

module _ (text after left : List ℕ) (end : IsElementEnd after left) (over : (span : Span) → Crosses span → IsPassed span text) (shown : is_all_white text ≡ false)
    (m : Option Parts) (is : mailbox_of text ≡ m) where
  up_to : (span : Span) → Crosses span → is_in span Comma ≡ false → is_in span Semicolon ≡ false → run span (text ++ after) ≡ length text
  up_to span crosses comma semicolon = passed-up_to span text after (over span crosses) (element-stops span comma semicolon end)

  no_group : is_group (text ++ after) ≡ false
  unfolding is_group name_len
  no_group =
      ap (λ n. begins (λ b. eqb b 58) (drop n (text ++ after)) && is_phrase (take n (text ++ after)) && begins (λ b. eqb b 59) (drop (inner_len (text ++ after)) (after_name (text ++ after))))
      (up_to BeforeDelimiter crosses-delimiter refl refl)
      ∙ ap (λ r. begins (λ b. eqb b 58) r && is_phrase (take (length text) (text ++ after)) && begins (λ b. eqb b 59) (drop (inner_len (text ++ after)) (after_name (text ++ after))))
      (drop_at text after (length text) refl)
      ∙ rw (end-no_colon end) refl

  pub element-is : (start : ℕ) → element_at start (text ++ after) ≡ single (as_single start text m) ∷ []
  unfolding element_at
  element-is start =
      cond-false _ _ _ no_group
      ∙ ap (λ n. map single (single_at start (take n (text ++ after)))) (up_to BeforeSeparator crosses-separator refl refl)
      ∙ ap (λ t. map single (single_at start t)) (take_at text after (length text) refl)
      ∙ ap (map single) (single-is text shown m is start)

  pub element_len-is : element_len (text ++ after) ≡ min (suc (length text)) (length (text ++ after))
  unfolding element_len
  element_len-is = cond-false _ _ _ no_group ∙ ap (λ n. min (suc n) (length (text ++ after))) (up_to BeforeSeparator crosses-separator refl refl)

  -- the first element, and then those of what is left
  pub single-first : (start : ℕ) → items element_at element_len start (text ++ after)
      ≡ single (as_single start text m) ∷ items element_at element_len (start + min (suc (length text)) (length (text ++ after))) left
  single-first start =
      items-more element_at element_len element_len-some start (text ++ after) (some-shown text after shown)
      ∙ ap (λ e. e ++ items element_at element_len (start + element_len (text ++ after)) (drop (element_len (text ++ after)) (text ++ after))) (element-is start)
      ∙ ap (λ n. single (as_single start text m) ∷ items element_at element_len (start + n) (drop n (text ++ after))) element_len-is
      ∙ ap (λ r. single (as_single start text m) ∷ items element_at element_len (start + min (suc (length text)) (length (text ++ after))) r) (end-left text end)

-- the same among the members of a group
module _ (text after left : List ℕ) (end : IsEnd after left) (over : (span : Span) → Crosses span → IsPassed span text) (shown : is_all_white text ≡ false)
    (m : Option Parts) (is : mailbox_of text ≡ m) where
  up_to_comma : run BeforeComma (text ++ after) ≡ length text
  up_to_comma = passed-up_to BeforeComma text after (over BeforeComma crosses-comma) (end-stops BeforeComma refl end)

  pub member-is : (start : ℕ) → member_at start (text ++ after) ≡ as_single start text m ∷ []
  unfolding member_at
  member-is start =
      ap (λ n. single_at start (take n (text ++ after))) up_to_comma
      ∙ ap (single_at start) (take_at text after (length text) refl)
      ∙ single-is text shown m is start

  pub member_len-is : member_len (text ++ after) ≡ min (suc (length text)) (length (text ++ after))
  unfolding member_len
  member_len-is = ap (λ n. min (suc n) (length (text ++ after))) up_to_comma

  pub member-first : (start : ℕ) → items member_at member_len start (text ++ after)
      ≡ as_single start text m ∷ items member_at member_len (start + min (suc (length text)) (length (text ++ after))) left
  member-first start =
      items-more member_at member_len member_len-some start (text ++ after) (some-shown text after shown)
      ∙ ap (λ e. e ++ items member_at member_len (start + member_len (text ++ after)) (drop (member_len (text ++ after)) (text ++ after))) (member-is start)
      ∙ ap (λ n. as_single start text m ∷ items member_at member_len (start + n) (drop n (text ++ after))) member_len-is
      ∙ ap (λ r. as_single start text m ∷ items member_at member_len (start + min (suc (length text)) (length (text ++ after))) r) (end-left text (ends end))

-- ---- the laws

module _ (name inner : List ℕ) (words : AreNameWords name) (inside : IsInAngles inner) where
  abbrev text : List ℕ
  text = name ++ bracketed inner

  text-passed : (span : Span) → Crosses span → IsPassed span text
  text-passed span crosses =
      passed-append span name (bracketed inner) (phrase-passed crosses.over_words (names-phrase words))
      (λ rest. enclosed-passed span (bracketed inner) rest crosses.angle (in_angles inside refl))

  text-shown : is_all_white text ≡ false
  text-shown =
      let some = names-some words in
      let len = length-append name (bracketed inner) in
      all_white-not text (front-of words (bracketed inner)) (omega (arith, some, len))

  named-first : {after left : List ℕ} → IsEnd after left → (start : ℕ)
      → items element_at element_len start (text ++ after) ≡ named start name inner ∷ items element_at element_len (start + min (suc (length text)) (length (text ++ after))) left
  named-first {after} {left} end =
      single-first text after left (ends end) text-passed text-shown (spec_mailbox name (after_route inner)) (bracket-read name inner [] (phrase (names-phrase words)) inside white_ends)

pub names-alone : (start : ℕ) (name inner : List ℕ) → AreNameWords name → IsInAngles inner → items element_at element_len start (name ++ bracketed inner) ≡ named start name inner ∷ []
names-alone start name inner words inside =
    let text : List ℕ = name ++ bracketed inner in
    ap (items element_at element_len start) (sym (append-nil text)) ∙ named-first name inner words inside at_end start
    ∙ ap (λ es. named start name inner ∷ es) (no_items (start + min (suc (length text)) (length (text ++ []))))

pub names-first : (start : ℕ) (name inner rest : List ℕ) → AreNameWords name → IsInAngles inner
    → items element_at element_len start ((name ++ bracketed inner) ++ 44 ∷ rest)
    ≡ named start name inner ∷ items element_at element_len (start + suc (length (name ++ bracketed inner))) rest
names-first start name inner rest words inside =
    let text : List ℕ = name ++ bracketed inner in
    let len = length-append text (44 ∷ rest) in
    let short : min (suc (length text)) (length (text ++ 44 ∷ rest)) ≡ suc (length text) = omega (arith, len) in
    named-first name inner words inside (at_comma rest) start ∙ ap (λ n. named start name inner ∷ items element_at element_len (start + n) rest) short

-- ---- a quoted name may contain anything

escaped-between : (text : List ℕ) → IsBetween 34 34 (flat_map escaped_byte text)
escaped-between [] = no_bytes
escaped-between (b ∷ text) =
    cond_both (eqb b 34 || eqb b 92) (92 ∷ b ∷ []) (b ∷ []) (λ bytes. IsBetween 34 34 (bytes ++ flat_map escaped_byte text)) (λ e. quoted_pair (escaped-between text))
    (λ e. let both = or_parts (eqb b 34) (eqb b 92) e in plain_byte (eqb-false b 34 both.0) (eqb-false b 34 both.0) (eqb-false b 92 both.1) (escaped-between text))

unquoted-escaped : (text : List ℕ) → unquoted false (flat_map escaped_byte text) ≡ text
unquoted-escaped [] = refl
unquoted-escaped (b ∷ text) =
    let later = ap (λ (r : List ℕ). b ∷ r) (unquoted-escaped text) in
    cond_both (eqb b 34 || eqb b 92) (92 ∷ b ∷ []) (b ∷ []) (λ bytes. unquoted false (bytes ++ flat_map escaped_byte text) ≡ b ∷ text) (λ e. later)
    (λ e. rw ((or_parts (eqb b 34) (eqb b 92) e).1) later)

pub quoted-is_word : (text : List ℕ) → IsNameWord (quoted_text text)
unfolding quoted_text
quoted-is_word text = quoted_word (escaped-between text) refl

pub quoted-token : (text rest : List ℕ) → front_token (quoted_text text ++ rest) ≡ record { kind = Quoted; len = length (quoted_text text) }
unfolding quoted_text
quoted-token text rest = (quoted-closed (escaped-between text) refl).front rest

quoted-within : (text : List ℕ) → within_ends (quoted_text text) ≡ flat_map escaped_byte text
unfolding quoted_text
quoted-within text =
    let len = delimited-length 34 34 (flat_map escaped_byte text) in
    take_at (flat_map escaped_byte text) (34 ∷ []) (length (quoted_text text) - 2) (omega (arith, len))

-- the text of the quoted string
pub quoted-meaning : (text rest : List ℕ) → front_meaning (quoted_text text ++ rest) ≡ text
unfolding front_meaning front_len
quoted-meaning text rest =
    ap (λ t. meaning t.kind (take t.len (quoted_text text ++ rest))) (quoted-token text rest)
    ∙ ap (λ b. unquoted false (within_ends b)) (take_at (quoted_text text) rest (length (quoted_text text)) refl)
    ∙ ap (unquoted false) (quoted-within text)
    ∙ unquoted-escaped text

pub quoted-len : (text rest : List ℕ) → front_len (quoted_text text ++ rest) ≡ length (quoted_text text)
unfolding front_len
quoted-len text rest = ap (λ t. t.len) (quoted-token text rest)

-- a word at the front of a phrase is its meaning, and not whitespace
pub word-meaning : (bytes : List ℕ) → Front bytes → 0 < length bytes → word_or_space bytes ≡ front_word bytes
unfolding word_or_space
word-meaning bytes front some = rw (all_white-not bytes front some) (rw (step-white bytes front) refl)

pub word-len : (bytes : List ℕ) → Front bytes → word_or_white_len bytes ≡ front_word_len bytes
unfolding word_or_white_len
word-len bytes front = rw (step-white bytes front) refl

pub no_words : (start : ℕ) → items word_at word_or_white_len start [] ≡ []
unfolding items
no_words start = refl
