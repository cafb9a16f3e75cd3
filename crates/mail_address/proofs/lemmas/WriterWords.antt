-- What names, local parts and domains are written as, and what they are read as.
use Rattle.std.proofs.Common.{◌≡◌, ◌≢◌, ℕ, zero, suc, ◌+◌, ◌<◌, ◌≤◌, Bool, true, false, cond, eqb, ◌&&◌, ◌||◌, List, [], ◌∷◌, ◌++◌, length, take, drop, refl, sym, ap, subst, ◌∙◌, arith, append_assoc, length-append, length-drop}
use Rattle.std.specs.Prelude.{codes, encode_utf8_all, nat_lt, not}
use Rattle.std.specs.List.{list_all, prefix_len}
use Rattle.std.specs.Str.{chars, IsUtf8}
use Rattle.std.proofs.lemmas.Bool.{and_from, and_parts, cond_both, cond-false, cond-true, eq-eqb, eqb-true, false≢true, le-ltb, ltb-true, ne_eqb, not-true, or_from, or_left}
use Rattle.std.proofs.lemmas.List.{append-nil, drop_all, drop_at, take_all, take_at, take-append-drop}
use Rattle.std.proofs.lemmas.List.Folds.{list_all-append}
use Rattle.std.proofs.lemmas.Str.{encodes-chars, scalars-chars}
use Rattle.std.proofs.Math.Seq.{drop-append-add}
use Rattle.base64.specs.GeneralPurpose.{IsBytes}
use Rattle.base64.proofs.Tables.{all_below_at}
use Rattle.mail_codec.specs.Base64.{letter}
use Rattle.mail_codec.specs.Charset.{Charsets}
use Rattle.mail_codec.specs.Places.{begins, has_prefix, is_empty}
use Rattle.mailparse.specs.Value.{lenient_value_in}
use Rattle.mail_address.specs.Encode.{is_plain_value, KnowUtf8, letters, one_word}
use Rattle.mail_address.proofs.lemmas.EncodeRead.{plain_is, plain_reads, word_bytes_are, words_read}
use Rattle.mail_address.proofs.lemmas.EncodeWord.{letters_pass}
use Rattle.mail_address.specs.declared.tokens.Kind.{Kind}
use Rattle.mail_address.specs.declared.tokens.Kind.TheVariants.{Atom, Literal, Quoted}
use Rattle.mail_address.specs.declared.tokens.Span.TheVariants.{Atoms, Literals, White}
use Rattle.mail_address.specs.declared.writer.NewMailbox.{NewMailbox}
use Rattle.mail_address.specs.Addresses.{items, items_within}
use Rattle.mail_address.specs.Grammar.{any_word, any_words, AreDotted, AreDotWords, atom, atoms, dot_word, dots_end, dotted, in_brackets, IsDomain, IsPadded, IsPhrase, IsPhraseRest, IsWhite, IsWord, literals, phrase_ends, phrase_white, phrase_word, white_byte, white_comment, white_ends, Words}
use Rattle.mail_address.specs.Folding.{has_no_control, is_control, unfolded, without_white}
use Rattle.mail_address.specs.Mailbox.{after_white, are_clean, is_dotted, within_ends}
use Rattle.mail_address.specs.Names.{IsNameWord, atom_word}
use Rattle.mail_address.specs.PhraseWords.{encoded_len, has_encoding, is_label_byte, is_word_end, may_follow, text_step}
use Rattle.mail_address.specs.Text.{address_bytes, address_front, address_front_at, address_meaning, bare, front_len, front_meaning, local_text, meaning, needs_no_quotes, phrase_text, front_word, front_word_len, quoted_text, word_at, word_or_space, word_or_white_len, unquoted, words_text}
use Rattle.mail_address.specs.Tokens.{far, front_token, is_all_white, is_atom_byte, is_in, is_special, is_white, run, step}
use Rattle.mail_address.specs.Writer.{are_atoms, are_atoms_after, is_literal, is_writable, written_local, written_phrase}
use Rattle.mail_address.proofs.lemmas.Addresses.{items-more}
use Rattle.mail_address.proofs.lemmas.Folding.{all-drop, plain_clean, quoted-no_control, unfolded-same}
use Rattle.mail_address.proofs.lemmas.GrammarMade.{dotted-made, either-made, front-meets, Meets, word-meets}
use Rattle.mail_address.proofs.lemmas.GrammarRead.{prefix-whole, white-no_atom}
use Rattle.mail_address.proofs.lemmas.Names.{after_white-same, Front, no_white-front, no_words, quoted-is_word, quoted-len, quoted-meaning, quoted-token, word-len, word-meaning, one_space, space-rest}
use Rattle.mail_address.proofs.lemmas.Passed.{atom_byte-front, dot-front, passed-whole, white-passed, white-whole}
use Rattle.mail_address.proofs.lemmas.Text.{front_len-some, word_or_white-some}
use Rattle.mail_address.proofs.lemmas.Tokens.{atom_byte-visible, byte-other, far-more, far-stop, no_atom_bytes}

-- ---- whitespace around a phrase

white-skipped : {white : List ℕ} → IsWhite white → (rest : List ℕ) → after_white (white ++ rest) ≡ after_white rest
unfolding after_white
white-skipped {white} is rest =
    ap (λ n. drop n (white ++ rest)) (white-passed White refl refl is rest) ∙ drop-append-add white rest (run White rest)

phrase-skipped : {white : List ℕ} → IsWhite white → (rest : List ℕ) → phrase_text (white ++ rest) ≡ phrase_text rest
unfolding phrase_text
phrase-skipped is rest = ap words_text (white-skipped is rest)

phrase-starts : (bytes : List ℕ) → Front bytes → phrase_text bytes ≡ items word_at word_or_white_len 0 bytes
unfolding phrase_text words_text
phrase-starts bytes front = ap (items word_at word_or_white_len 0) (after_white-same bytes front)

white-len : (bytes : List ℕ) → step White bytes ≢ 0 → word_or_white_len bytes ≡ run White bytes
unfolding word_or_white_len
white-len bytes some = cond-false _ _ _ (ne_eqb (step White bytes) 0 some)

white-shows : (white : List ℕ) → IsWhite white → (start : ℕ) → items word_at word_or_white_len start white ≡ []
unfolding word_or_space
white-shows [] is start = no_words start
white-shows (b ∷ rest) is start =
    let all = passed-whole White (b ∷ rest) (white-passed White refl refl is) in
    items-more word_at word_or_white_len word_or_white-some start (b ∷ rest) (omega arith)
    ∙ ap (λ s. s ++ items word_at word_or_white_len (start + word_or_white_len (b ∷ rest)) (drop (word_or_white_len (b ∷ rest)) (b ∷ rest))) (cond-true _ _ _ (white-whole is))
    ∙ ap (λ n. items word_at word_or_white_len (start + n) (drop n (b ∷ rest)))
    (white-len (b ∷ rest) (λ none. let stop = far-stop (step White) (b ∷ rest) none in absurd (omega (arith, stop, all))) ∙ all)
    ∙ ap (items word_at word_or_white_len (start + length (b ∷ rest))) (drop_all (length (b ∷ rest)) (b ∷ rest) (omega arith))
    ∙ no_words (start + length (b ∷ rest))

pub phrase-nothing : {white : List ℕ} → IsWhite white → phrase_text white ≡ []
unfolding phrase_text words_text after_white
phrase-nothing {white} is =
    let all = passed-whole White white (white-passed White refl refl is) in ap (items word_at word_or_white_len 0) (drop_all (run White white) white (omega (arith, all))) ∙ no_words 0

-- ---- one word of a phrase, and then the rest

word-then : (word rest meant : List ℕ) → Front (word ++ rest) → 0 < length word → front_word (word ++ rest) ≡ meant → front_word_len (word ++ rest) ≡ length word → (start : ℕ)
    → items word_at word_or_white_len start (word ++ rest) ≡ meant ++ items word_at word_or_white_len (start + length word) rest
word-then word rest meant front some means len start =
    let all = length-append word rest in
    let low : 0 < length (word ++ rest) = omega (arith, some, all) in
    items-more word_at word_or_white_len word_or_white-some start (word ++ rest) low
    ∙ ap (λ s. s ++ items word_at word_or_white_len (start + word_or_white_len (word ++ rest)) (drop (word_or_white_len (word ++ rest)) (word ++ rest)))
    (word-meaning (word ++ rest) front low ∙ means)
    ∙ ap (λ n. meant ++ items word_at word_or_white_len (start + n) (drop n (word ++ rest))) (word-len (word ++ rest) front ∙ len)
    ∙ ap (λ r. meant ++ items word_at word_or_white_len (start + length word) r) (drop_at word rest (length word) refl)

pub atom-token : {word : List ℕ} → IsWord atoms word → (rest : List ℕ) → begins is_atom_byte rest ≡ false → front_token (word ++ rest) ≡ record { kind = Atom; len = length word }
atom-token (atom {b = b} {bytes = bytes} h) rest ends =
    let both = and_parts (is_atom_byte b) (list_all is_atom_byte bytes) h in
    let all = prefix-whole bytes rest both.1 ends in
    atom_byte-front b (bytes ++ rest) both.0 ∙ ap (λ n. record { kind = Atom; len = n }) (omega (arith, all))

pub atom-some : {word : List ℕ} → IsWord atoms word → 0 < length word
atom-some (atom h) = omega arith

atom-front : {word : List ℕ} → IsWord atoms word → (rest : List ℕ) → begins is_atom_byte rest ≡ false → Front (word ++ rest)
atom-front {word} is rest ends = record { kind = Atom; len = length word; token = atom-token is rest ends; is_word = refl; no_white = refl }

-- a word that is no encoded word
plain-word : (bytes : List ℕ) → encoded_len bytes ≡ 0 → (front_word bytes ≡ front_meaning bytes) × (front_word_len bytes ≡ front_len bytes)
plain-word bytes none =
    let is = ap (λ n. eqb n 0) none in
    (cond-true (eqb (encoded_len bytes) 0) (front_meaning bytes) (take (encoded_len bytes) bytes) is, cond-true (eqb (encoded_len bytes) 0) (front_len bytes) (encoded_len bytes) is)

no_opening-none : (bytes : List ℕ) → has_prefix (codes "=?") bytes ≡ false → encoded_len bytes ≡ 0
unfolding encoded_len
no_opening-none bytes h =
    ap (λ t. cond (t && (has_encoding (drop (prefix_len is_label_byte (drop 2 bytes) + 2) bytes)
    && is_word_end (drop (prefix_len is_label_byte (drop 2 bytes) + 5 + far text_step (drop (prefix_len is_label_byte (drop 2 bytes) + 5) bytes)) bytes)))
    (prefix_len is_label_byte (drop 2 bytes) + 5 + far text_step (drop (prefix_len is_label_byte (drop 2 bytes) + 5) bytes) + 2) 0) h

and_false : (t : Bool) → t && false ≡ false
and_false true = refl
and_false false = refl

-- the bytes after an atom do not open an encoded word with it
opening-after : {word : List ℕ} → IsWord atoms word → (rest : List ℕ) → begins is_atom_byte rest ≡ false → has_prefix (codes "=?") word ≡ false → has_prefix (codes "=?") (word ++ rest) ≡ false
unfolding is_atom_byte
opening-after (atom {b = b} {bytes = c ∷ bytes} is) rest ends h = h
opening-after (atom {b = b} {bytes = []} is) [] ends h = h
opening-after (atom {b = b} {bytes = []} is) (c ∷ rest) ends h =
    let other : eqb 63 c ≡ false = ne_eqb 63 c (λ e. false≢true (sym ends ∙ ap is_atom_byte (sym e))) in
    ap (λ t. eqb 61 b && (t && true)) other ∙ and_false (eqb 61 b)

atom-then : {word : List ℕ} → IsWord atoms word → (rest : List ℕ) → begins is_atom_byte rest ≡ false → has_prefix (codes "=?") word ≡ false → (start : ℕ)
    → items word_at word_or_white_len start (word ++ rest) ≡ word ++ items word_at word_or_white_len (start + length word) rest
unfolding front_meaning front_len
atom-then {word} is rest ends plain start =
    let token = atom-token is rest ends in
    let none = plain-word (word ++ rest) (no_opening-none (word ++ rest) (opening-after is rest ends plain)) in
    word-then word rest word (atom-front is rest ends) (atom-some is)
    (none.0 ∙ ap (λ t. meaning t.kind (take t.len (word ++ rest))) token ∙ take_at word rest (length word) refl) (none.1 ∙ ap (λ t. t.len) token) start

quoted-front : (text rest : List ℕ) → Front (quoted_text text ++ rest)
quoted-front text rest = record { kind = Quoted; len = length (quoted_text text); token = quoted-token text rest; is_word = refl; no_white = refl }

quoted-some : (text : List ℕ) → 0 < length (quoted_text text)
unfolding quoted_text
quoted-some text = omega arith

quoted-no_opening : (text rest : List ℕ) → has_prefix (codes "=?") (quoted_text text ++ rest) ≡ false
unfolding quoted_text
quoted-no_opening text rest = refl

quoted-then : (text rest : List ℕ) (start : ℕ)
    → items word_at word_or_white_len start (quoted_text text ++ rest) ≡ text ++ items word_at word_or_white_len (start + length (quoted_text text)) rest
quoted-then text rest start =
    let none = plain-word (quoted_text text ++ rest) (no_opening-none (quoted_text text ++ rest) (quoted-no_opening text rest)) in
    word-then (quoted_text text) rest text (quoted-front text rest) (quoted-some text) (none.0 ∙ quoted-meaning text rest) (none.1 ∙ quoted-len text rest) start

pub quoted-shows : (text : List ℕ) {white : List ℕ} → IsWhite white → phrase_text (quoted_text text ++ white) ≡ text
quoted-shows text {white} is =
    phrase-starts (quoted_text text ++ white) (quoted-front text white) ∙ quoted-then text white 0
    ∙ ap (λ r. text ++ r) (white-shows white is (0 + length (quoted_text text))) ∙ append-nil text

not_white-after : (rest : List ℕ) → run White (32 ∷ rest) ≡ 1 → 0 < length rest → is_all_white (32 ∷ rest) ≡ false
unfolding is_all_white
not_white-after rest one some = ne_eqb (run White (32 ∷ rest)) (length (32 ∷ rest)) (λ e. absurd (omega (arith, e, one, some)))

space-word : (rest : List ℕ) → step White (32 ∷ rest) ≢ 0 → is_all_white (32 ∷ rest) ≡ false → word_or_space (32 ∷ rest) ≡ 32 ∷ []
unfolding word_or_space
space-word rest steps white = rw white (cond-false _ _ _ (ne_eqb (step White (32 ∷ rest)) 0 steps))

space-then : (rest : List ℕ) → Front rest → 0 < length rest → (start : ℕ)
    → items word_at word_or_white_len start (32 ∷ rest) ≡ 32 ∷ items word_at word_or_white_len (start + 1) rest
space-then rest front some start =
    let none = no_white-front rest front in
    let passed = white-passed White refl refl one_space rest in
    let one : run White (32 ∷ rest) ≡ 1 = omega (arith, none, passed) in
    let steps : step White (32 ∷ rest) ≢ 0 = λ stops. let over = far-stop (step White) (32 ∷ rest) stops in absurd (omega (arith, over, one)) in
    items-more word_at word_or_white_len word_or_white-some start (32 ∷ rest) (omega arith)
    ∙ ap (λ s. s ++ items word_at word_or_white_len (start + word_or_white_len (32 ∷ rest)) (drop (word_or_white_len (32 ∷ rest)) (32 ∷ rest)))
    (space-word rest steps (not_white-after rest one some))
    ∙ ap (λ n. 32 ∷ items word_at word_or_white_len (start + n) (drop n (32 ∷ rest))) (white-len (32 ∷ rest) steps ∙ one)

-- ---- names that are words

-- none of them begins with `=?`
data AreAtoms : List ℕ → Type 0 where
  last_atom : {word : List ℕ} → IsWord atoms word → has_prefix (codes "=?") word ≡ false → AreAtoms word
  next_atom : {word rest text : List ℕ} → IsWord atoms word → has_prefix (codes "=?") word ≡ false → AreAtoms rest → text ≡ word ++ 32 ∷ rest → AreAtoms text

-- bytes of a word, and then the end, or a space and words
data GoesOn : List ℕ → Type 0 where
  word_ends : (word : List ℕ) → list_all is_atom_byte word ≡ true → GoesOn word
  goes_on : (word : List ℕ) {rest text : List ℕ} → list_all is_atom_byte word ≡ true → AreAtoms rest → text ≡ word ++ 32 ∷ rest → GoesOn text

-- the front of bytes without `=?`
opening-front : (word rest : List ℕ) → has_prefix (codes "=?") (word ++ rest) ≡ false → has_prefix (codes "=?") word ≡ false
opening-front [] rest h = refl
opening-front (b ∷ []) rest h = and_false (eqb 61 b)
opening-front (b ∷ c ∷ word) rest h = h

atom-before : (b : ℕ) {text : List ℕ} → is_atom_byte b ≡ true → has_prefix (codes "=?") (b ∷ text) ≡ false → GoesOn text → AreAtoms (b ∷ text)
atom-before b h plain (word_ends word all) = last_atom (atom {b = b} {bytes = word} (and_from _ _ h all)) plain
atom-before b h plain (goes_on word {rest = rest} all more e) =
    next_atom {word = b ∷ word} {rest = rest} (atom {b = b} {bytes = word} (and_from _ _ h all))
    (opening-front (b ∷ word) (32 ∷ rest) (sym (ap (λ (t : List ℕ). has_prefix (codes "=?") (b ∷ t)) e) ∙ plain)) more (ap (λ (t : List ℕ). b ∷ t) e)

byte-before : (b : ℕ) {text : List ℕ} → is_atom_byte b ≡ true → GoesOn text → GoesOn (b ∷ text)
byte-before b h (word_ends word all) = word_ends (b ∷ word) (and_from _ _ h all)
byte-before b h (goes_on word {rest = rest} all more e) = goes_on (b ∷ word) {rest = rest} (and_from _ _ h all) more (ap (λ (t : List ℕ). b ∷ t) e)

abbrev AtomsAfter : Bool → List ℕ → Type 0
AtomsAfter false text = AreAtoms text
AtomsAfter true text = GoesOn text

atoms-made : (in_word : Bool) (text : List ℕ) → ((k : ℕ) → has_prefix (codes "=?") (drop k text) ≡ false) → are_atoms_after in_word text ≡ true → AtomsAfter in_word text
atoms-made true [] plain h = word_ends [] refl
atoms-made false [] plain h = absurd (false≢true h)
atoms-made in_word (b ∷ rest) plain h = go (eqb b 32) refl in_word (atoms-made false rest (λ k. plain (suc k))) (atoms-made true rest (λ k. plain (suc k))) h
  where
    go : (space : Bool) → eqb b 32 ≡ space → (in_word : Bool) → (are_atoms_after false rest ≡ true → AreAtoms rest) → (are_atoms_after true rest ≡ true → GoesOn rest)
        → cond space (in_word && are_atoms_after false rest) (is_atom_byte b && are_atoms_after true rest) ≡ true → AtomsAfter in_word (b ∷ rest)
    go true e true new more h = goes_on [] {rest = rest} refl (new h) (ap (λ (c : ℕ). c ∷ rest) (eqb-true b 32 e))
    go true e false new more h = absurd (false≢true h)
    go false e true new more h = let both = and_parts (is_atom_byte b) (are_atoms_after true rest) h in byte-before b both.0 (more both.1)
    go false e false new more h = let both = and_parts (is_atom_byte b) (are_atoms_after true rest) h in atom-before b both.0 (plain 0) (more both.1)

white-begins : (white : List ℕ) → IsWhite white → begins is_atom_byte white ≡ false
white-begins white is = ap (begins is_atom_byte) (sym (append-nil white)) ∙ white-no_atom is [] refl

atoms-front : {text : List ℕ} → AreAtoms text → (white : List ℕ) → IsWhite white → Front (text ++ white)
atoms-front (last_atom is plain) white w = atom-front is white (white-begins white w)
atoms-front (next_atom {word = word} {rest = rest} is plain more e) white w =
    subst (λ t. Front (t ++ white)) (sym e) (subst Front (sym (append_assoc word (32 ∷ rest) white)) (atom-front is (32 ∷ (rest ++ white)) no_atom_bytes.1))

atoms-some : {text : List ℕ} → AreAtoms text → (white : List ℕ) → 0 < length (text ++ white)
atoms-some {text} (last_atom is plain) white = let low = atom-some is in let len = length-append text white in omega (arith, low, len)
atoms-some {text} (next_atom {word = word} {rest = rest} is plain more e) white =
    let low = atom-some is in
    let all = ap length e ∙ length-append word (32 ∷ rest) in
    let len = length-append text white in
    omega (arith, low, all, len)

atoms-show : {text : List ℕ} → AreAtoms text → (white : List ℕ) → IsWhite white → (start : ℕ) → items word_at word_or_white_len start (text ++ white) ≡ text
atoms-show {text} (last_atom is plain) white w start =
    atom-then is white (white-begins white w) plain start ∙ ap (λ r. text ++ r) (white-shows white w (start + length text)) ∙ append-nil text
atoms-show {text} (next_atom {word = word} {rest = rest} is plain more e) white w start =
    ap (λ t. items word_at word_or_white_len start (t ++ white)) e
    ∙ ap (items word_at word_or_white_len start) (append_assoc word (32 ∷ rest) white)
    ∙ atom-then is (32 ∷ (rest ++ white)) no_atom_bytes.1 plain start
    ∙ ap (λ r. word ++ r) (space-then (rest ++ white) (atoms-front more white w) (atoms-some more white) (start + length word)
    ∙ ap (λ (r : List ℕ). 32 ∷ r) (atoms-show more white w (start + length word + 1)))
    ∙ sym e

name-word : {text : List ℕ} → IsWord atoms text → IsNameWord text
name-word (atom h) = atom_word h

white-rest : {white : List ℕ} → IsWhite white → IsPhraseRest white
white-rest {white} is = phrase_white {white = white} {rest = []} is phrase_ends (sym (append-nil white))

atoms-rest : {text : List ℕ} → AreAtoms text → (white : List ℕ) → IsWhite white → IsPhraseRest (text ++ white)
atoms-rest {text} (last_atom is plain) white w = phrase_word {word = text} {rest = white} (name-word is) (white-rest w) refl
atoms-rest (next_atom {word = word} {rest = rest} is plain more e) white w =
    phrase_word {word = word} {rest = 32 ∷ (rest ++ white)} (name-word is)
    (space-rest (atoms-rest more white w))
    (ap (λ t. t ++ white) e ∙ append_assoc word (32 ∷ rest) white)

atoms-phrase : {text : List ℕ} → AreAtoms text → (before white : List ℕ) → IsWhite before → IsWhite white → IsPhrase (before ++ (text ++ white))
atoms-phrase {text} (last_atom is plain) before white b w = record {
  before = before;
  first = text;
  rest = white;
  white_before = b;
  is_first = name-word is;
  is_rest = white-rest w;
  made = refl;
}
atoms-phrase (next_atom {word = word} {rest = rest} is plain more e) before white b w = record {
  before = before;
  first = word;
  rest = 32 ∷ (rest ++ white);
  white_before = b;
  is_first = name-word is;
  is_rest = space-rest (atoms-rest more white w);
  made = ap (λ t. before ++ (t ++ white)) e ∙ ap (λ t. before ++ t) (append_assoc word (32 ∷ rest) white);
}

-- ---- names

-- a phrase that is written for a name: with whitespace around it, it is a phrase and shows the name
pub record IsWritten (known : Charsets) (name phrase : List ℕ) : Type 0 where
  pub phrase_is : (before white : List ℕ) → IsWhite before → IsWhite white → IsPhrase (before ++ (phrase ++ white))
  pub shows : (before white : List ℕ) → IsWhite before → IsWhite white → lenient_value_in known (phrase_text (before ++ (phrase ++ white))) ≡ name

atoms-written : (known : Charsets) (name text : List ℕ) → AreAtoms text → lenient_value_in known text ≡ name → IsWritten known name text
atoms-written known name text are reads = record {
  phrase_is = atoms-phrase are;
  shows = λ before white b w.
      ap (lenient_value_in known) (phrase-skipped b (text ++ white) ∙ phrase-starts (text ++ white) (atoms-front are white w) ∙ atoms-show are white w 0) ∙ reads;
}

quoted-written : (known : Charsets) (name : List ℕ) → lenient_value_in known name ≡ name → IsWritten known name (quoted_text name)
quoted-written known name reads = record {
  phrase_is = λ before white b w. record {
    before = before;
    first = quoted_text name;
    rest = white;
    white_before = b;
    is_first = quoted-is_word name;
    is_rest = white-rest w;
    made = refl;
  };
  shows = λ before white b w.
      ap (lenient_value_in known) (phrase-skipped b (quoted_text name ++ white) ∙ quoted-shows name w) ∙ reads;
}

-- ---- encoded words

-- a byte of a text that an encoded word carries
abbrev is_carried : ℕ → Bool
is_carried b = is_atom_byte b && not (eqb b 63)

-- whitespace or a comment may follow a word, and so may nothing
white-follows : {white : List ℕ} → IsWhite white → (is_empty white || begins may_follow white) ≡ true
white-follows white_ends = refl
white-follows (white_byte {b = b} is more) = or_left (is_white b || eqb b 34) (eqb b 40) (or_left (is_white b) (eqb b 34) is)
white-follows (white_comment {inner = inner} commented more e) = ap (λ b. is_empty b || begins may_follow b) e

atom-no_control : (b : ℕ) → is_atom_byte b ≡ true → is_control b ≡ false
unfolding is_atom_byte
atom-no_control b h =
    let low = ltb-true 32 b (and_parts (nat_lt 32 b) (not (eqb b 127)) (and_parts (nat_lt 32 b && not (eqb b 127)) (not (is_special b)) h).0).0 in
    or_from (nat_lt b 32) (eqb b 127) (le-ltb b 32 (omega (arith, low))) (byte-other is_atom_byte b 127 h refl)

carried-step : (b : ℕ) (rest : List ℕ) → is_carried b ≡ true → text_step (b ∷ rest) ≡ 1
carried-step b rest h =
    let both = and_parts (is_atom_byte b) (not (eqb b 63)) h in
    let other : eqb 63 b ≡ false = ne_eqb 63 b (λ e. false≢true (sym (not-true (eqb b 63) both.1) ∙ eq-eqb b 63 (sym e))) in
    rw (atom-no_control b both.0, other) refl

-- the text of an encoded word ends before its `?=`
carried-far : (text white : List ℕ) → list_all is_carried text ≡ true → IsWhite white → far text_step (text ++ (63 ∷ 61 ∷ white)) ≡ length text
carried-far [] white h is = far-stop text_step (63 ∷ 61 ∷ white) (ap (λ t. cond t 0 1) (white-follows is))
carried-far (b ∷ text) white h is =
    let rest : List ℕ = text ++ (63 ∷ 61 ∷ white) in
    let both = and_parts (is_carried b) (list_all is_carried text) h in
    let one = carried-step b rest both.0 in
    let later = carried-far text white both.1 is in
    let more = far-more text_step (b ∷ rest) (omega arith) (λ e. absurd (omega (arith, e, one))) in
    let left = ap (λ n. far text_step (drop n (b ∷ rest))) one in
    omega (arith, one, later, more, left)

word-encoded : (bytes white : List ℕ) → list_all is_carried (letters bytes) ≡ true → IsWhite white → encoded_len (one_word bytes ++ white) ≡ length (one_word bytes)
unfolding encoded_len
word-encoded bytes white h is =
    let text : List ℕ = letters bytes in
    let whole : List ℕ = codes "=?utf-8?B?" ++ (text ++ (63 ∷ 61 ∷ white)) in
    let len = length-append text (codes "?=") in
    ap (λ t. encoded_len (codes "=?utf-8?B?" ++ t)) (append_assoc text (63 ∷ 61 ∷ []) white)
    ∙ ap (λ n. cond (is_word_end (drop (10 + n) whole)) (10 + n + 2) 0) (carried-far text white h is)
    ∙ ap (λ r. cond (is_word_end r) (10 + length text + 2) 0)
    (drop-append-add (codes "=?utf-8?B?") (text ++ (63 ∷ 61 ∷ white)) (length text) ∙ drop_at text (63 ∷ 61 ∷ white) (length text) refl)
    ∙ ap (λ t. cond t (10 + length text + 2) 0) (white-follows is)
    ∙ omega (arith, len)

letters-pass : (test : ℕ → Bool) → ((v : ℕ) → v < 64 → test (letter v) ≡ true) → test 61 ≡ true → (name : List ℕ) → IsUtf8 name → list_all test (letters name) ≡ true
letters-pass test each pad name utf8 =
    letters_pass test each pad name (subst IsBytes (encodes-chars name utf8) (word_bytes_are (chars name) (scalars-chars name utf8)))

letters-carried : (name : List ℕ) → IsUtf8 name → list_all is_carried (letters name) ≡ true
unfolding is_atom_byte
letters-carried name utf8 = letters-pass is_carried (λ v low. all_below_at (λ v. is_carried (letter v)) 64 v refl low) refl name utf8

word-atom : (name : List ℕ) → IsUtf8 name → IsWord atoms (one_word name)
unfolding is_atom_byte
word-atom name utf8 =
    atom {b = 61} {bytes = codes "?utf-8?B?" ++ (letters name ++ codes "?=")}
    (list_all-append is_atom_byte (letters name) (codes "?=")
    ∙ ap (λ t. t && true) (letters-pass is_atom_byte (λ v low. all_below_at (λ v. is_atom_byte (letter v)) 64 v refl low) refl name utf8))

encoded-written : (known : Charsets) (name : List ℕ) → IsUtf8 name → lenient_value_in known (one_word name) ≡ name → IsWritten known name (one_word name)
encoded-written known name utf8 reads =
    let word : List ℕ = one_word name in
    let is = word-atom name utf8 in
    let some = atom-some is in
    record {
      phrase_is = λ before white b w. record {
        before = before;
        first = word;
        rest = white;
        white_before = b;
        is_first = name-word is;
        is_rest = white-rest w;
        made = refl;
      };
      shows = λ before white b w.
          let front = atom-front is white (white-begins white w) in
          let len = word-encoded name white (letters-carried name utf8) w in
          let not_none = ap (λ n. eqb n 0) len ∙ ne_eqb (length word) 0 (λ e. absurd (omega (arith, some, e))) in
          ap (lenient_value_in known)
          (phrase-skipped b (word ++ white) ∙ phrase-starts (word ++ white) front
          ∙ word-then word white word front some
          (cond-false (eqb (encoded_len (word ++ white)) 0) _ _ not_none ∙ ap (λ n. take n (word ++ white)) len ∙ take_at word white (length word) refl)
          (cond-false (eqb (encoded_len (word ++ white)) 0) _ _ not_none ∙ len) 0
          ∙ ap (λ r. word ++ r) (white-shows white w (0 + length word)) ∙ append-nil word)
          ∙ reads;
    }

word-reads : (known : Charsets) → KnowUtf8 known → (name : List ℕ) → IsUtf8 name → lenient_value_in known (one_word name) ≡ name
word-reads known knows name utf8 =
    ap (λ n. lenient_value_in known (one_word n)) (sym (encodes-chars name utf8))
    ∙ words_read known knows (chars name ∷ []) (scalars-chars name utf8, tt)
    ∙ append-nil (encode_utf8_all (chars name)) ∙ encodes-chars name utf8

pub phrase-written : (known : Charsets) → KnowUtf8 known → (name : List ℕ) → IsUtf8 name → IsWritten known name (written_phrase name)
unfolding written_phrase
phrase-written known knows name utf8 =
    cond_both (is_plain_value name) _ _ (IsWritten known name)
    (λ plain. cond_both (are_atoms name) _ _ (IsWritten known name) (λ words. atoms-written known name name (atoms-made false name (plain_is name plain).no_opening words) (plain_reads known name plain))
    (λ words. quoted-written known name (plain_reads known name plain)))
    (λ plain. encoded-written known name utf8 (word-reads known knows name utf8))

-- ---- local parts and domains

abbrev pub is_dot_atom : ℕ → Bool
is_dot_atom b = is_atom_byte b || eqb b 46

itself : (b : ℕ) (rest : List ℕ) → is_dot_atom b ≡ true → address_front (b ∷ rest) ≡ take (front_len (b ∷ rest)) (b ∷ rest)
unfolding address_front front_len
itself b rest h =
    either-made (is_atom_byte b) (eqb b 46)
    (λ e. ap (λ t. address_meaning t.kind (take (front_token (b ∷ rest)).len (b ∷ rest))) (atom_byte-front b rest e))
    (λ e. ap (λ t. address_meaning t.kind (take (front_token (b ∷ rest)).len (b ∷ rest))) (ap (λ c. front_token (c ∷ rest)) (eqb-true b 46 e) ∙ dot-front rest)) h

bare-within : (most start : ℕ) (bytes : List ℕ) → length bytes ≤ most → list_all is_dot_atom bytes ≡ true → items_within address_front_at front_len most start bytes ≡ bytes
bare-within zero start [] low h = refl
bare-within zero start (b ∷ bytes) low h = absurd (omega (arith, low))
bare-within (suc most) start [] low h = refl
bare-within (suc most) start (b ∷ bytes) low h =
    let some = front_len-some (b ∷ bytes) (omega arith) in
    let cut = length-drop (front_len (b ∷ bytes)) (b ∷ bytes) in
    let both = and_parts (is_dot_atom b) (list_all is_dot_atom bytes) h in
    ap (λ f. f ++ items_within address_front_at front_len most (start + front_len (b ∷ bytes)) (drop (front_len (b ∷ bytes)) (b ∷ bytes))) (itself b bytes both.0)
    ∙ ap (λ r. take (front_len (b ∷ bytes)) (b ∷ bytes) ++ r)
    (bare-within most (start + front_len (b ∷ bytes)) (drop (front_len (b ∷ bytes)) (b ∷ bytes)) (omega (arith, some, cut, low)) (all-drop is_dot_atom (front_len (b ∷ bytes)) (b ∷ bytes) h))
    ∙ take-append-drop (front_len (b ∷ bytes)) (b ∷ bytes)

pub bare-same : (bytes : List ℕ) → list_all is_dot_atom bytes ≡ true → bare bytes ≡ bytes
unfolding bare items
bare-same bytes h = bare-within (length bytes) 0 bytes (omega arith) h

bare-one : (text : List ℕ) → 0 < length text → front_len text ≡ length text → bare text ≡ address_front text
unfolding bare items
bare-one text low len =
    items-more address_front_at front_len front_len-some 0 text low
    ∙ ap (λ n. address_front text ++ items address_front_at front_len (0 + n) (drop n text)) len
    ∙ ap (λ r. address_front text ++ items address_front_at front_len (0 + length text) r) (drop_all (length text) text (omega arith))
    ∙ append-nil (address_front text)

-- a quoted string of an address without control characters means the same as one of a name
quoted-means : (text : List ℕ) → has_no_control text ≡ true → address_front (quoted_text text) ≡ text
unfolding address_front front_meaning front_len
quoted-means text h =
    let same = append-nil (quoted_text text) in
    let token = ap front_token (sym same) ∙ quoted-token text [] in
    let whole = take_all (length (quoted_text text)) (quoted_text text) (omega arith) in
    ap (λ t. address_meaning t.kind (take t.len (quoted_text text))) token
    ∙ ap (λ b. unquoted false (within_ends (unfolded b))) whole
    ∙ ap (λ b. unquoted false (within_ends b)) (unfolded-same (quoted_text text) (quoted-no_control text h) ∙ sym whole)
    ∙ sym (ap (λ t. meaning t.kind (take t.len (quoted_text text))) token)
    ∙ ap front_meaning (sym same) ∙ quoted-meaning text []

bare-quoted : (text : List ℕ) → has_no_control text ≡ true → bare (quoted_text text) ≡ text
bare-quoted text h =
    let same = append-nil (quoted_text text) in
    bare-one (quoted_text text) (quoted-some text) (ap front_len (sym same) ∙ quoted-len text []) ∙ quoted-means text h

any-atom : {text : List ℕ} → IsWord atoms text → IsWord any_words text
any-atom is = any_word (name-word is)

any-padded : {text : List ℕ} → IsPadded atoms text → IsPadded any_words text
any-padded is = record {
  before = is.before;
  word = is.word;
  after = is.after;
  white_before = is.white_before;
  is_word = any-atom is.is_word;
  white_after = is.white_after;
  made = is.made;
}

any-dot_words : {text : List ℕ} → AreDotWords atoms text → AreDotWords any_words text
any-dot_words dots_end = dots_end
any-dot_words (dot_word {word = word} {rest = rest} is more e) = dot_word {word = word} {rest = rest} (any-padded is) (any-dot_words more) e

pub any-dotted : {text : List ℕ} → AreDotted atoms text → AreDotted any_words text
any-dotted are = record { first = are.first; rest = are.rest; is_first = any-padded are.is_first; are_rest = any-dot_words are.are_rest; made = are.made }

pub dot_atom-parts : (text : List ℕ) → needs_no_quotes text ≡ true → (list_all is_dot_atom text ≡ true) × (is_dotted Atoms text ≡ true)
unfolding needs_no_quotes
dot_atom-parts text h = and_parts (list_all is_dot_atom text) (is_dotted Atoms text) h

-- a word with nothing around it
pub padded-alone : {words : Words} {word : List ℕ} → IsWord words word → IsPadded words word
padded-alone {words} {word} is = record {
  before = [];
  word = word;
  after = [];
  white_before = white_ends;
  is_word = is;
  white_after = white_ends;
  made = sym (append-nil word);
}

pub local-is_local : (text : List ℕ) → AreDotted any_words (written_local text)
unfolding written_local
local-is_local text =
    cond_both (needs_no_quotes text) _ _ (AreDotted any_words) (λ e. any-dotted (dotted-made atoms text (dot_atom-parts text e).1)) (λ e. record {
      first = quoted_text text;
      rest = [];
      is_first = padded-alone (any_word (quoted-is_word text));
      are_rest = dots_end;
      made = sym (append-nil (quoted_text text));
    })

pub local-bare : (text : List ℕ) → has_no_control text ≡ true → bare (written_local text) ≡ text
unfolding written_local
local-bare text h = cond_both (needs_no_quotes text) _ _ (λ b. bare b ≡ text) (λ e. bare-same text (dot_atom-parts text e).0) (λ e. bare-quoted text h)

-- a domain that can be written
literal-parts : (text : List ℕ) → is_literal text ≡ true → (is_in Literals (front_token text).kind ≡ true) × ((front_token text).len ≡ length text)
unfolding is_literal
literal-parts text h =
    let both = and_parts (is_in Literals (front_token text).kind) (eqb (front_token text).len (length text)) h in
    (both.0, eqb-true (front_token text).len (length text) both.1)

literal-word : (text : List ℕ) → is_literal text ≡ true → IsWord literals text
literal-word text h =
    let parts = literal-parts text h in
    word-meets literals (front_token text).kind text parts.0
    (subst (λ t. Meets (front_token text).kind t) (take_all (front_token text).len text (let whole = parts.1 in omega (arith, whole))) (front-meets text))

literal-meaning : (kind : Kind) (text : List ℕ) → is_in Literals kind ≡ true → address_meaning kind text ≡ without_white false text
literal-meaning Literal text h = refl
literal-meaning _ text h = absurd (false≢true h)

literal-some : (text : List ℕ) → is_in Literals (front_token text).kind ≡ true → 0 < length text
unfolding front_token
literal-some [] h = absurd (false≢true h)
literal-some (b ∷ rest) h = omega arith

literal-bare : (text : List ℕ) → is_literal text ≡ true → bare text ≡ without_white false text
unfolding address_front front_len
literal-bare text h =
    let parts = literal-parts text h in
    let whole = parts.1 in
    bare-one text (literal-some text parts.0) whole
    ∙ literal-meaning (front_token text).kind (take (front_token text).len text) parts.0
    ∙ ap (without_white false) (take_all (front_token text).len text (omega (arith, whole)))

-- a dot-atom has no whitespace
dot_atom-kept : (text : List ℕ) → list_all is_dot_atom text ≡ true → without_white false text ≡ text
dot_atom-kept [] h = refl
dot_atom-kept (b ∷ text) h =
    let both = and_parts (is_dot_atom b) (list_all is_dot_atom text) h in
    let visible : is_white b ≡ false = either-made (is_atom_byte b) (eqb b 46) (atom_byte-visible b) (λ e. ap is_white (eqb-true b 46 e)) both.0 in
    let other : eqb b 92 ≡ false = byte-other is_dot_atom b 92 both.0 (ap (λ t. t || false) no_atom_bytes.8) in
    cond-false (is_white b) (without_white false text) (b ∷ without_white (eqb b 92) text) visible
    ∙ ap (λ t. b ∷ without_white t text) other ∙ ap (λ (r : List ℕ). b ∷ r) (dot_atom-kept text both.1)

domain-from : (text : List ℕ) → (needs_no_quotes text || is_literal text) ≡ true → IsDomain text × (bare text ≡ without_white false text)
domain-from text h =
    either-made (needs_no_quotes text) (is_literal text) (λ e. (dotted (dotted-made atoms text (dot_atom-parts text e).1), bare-same text (dot_atom-parts text e).0 ∙ sym (dot_atom-kept text (dot_atom-parts text e).0))) (λ e. (in_brackets (padded-alone (literal-word text e)), literal-bare text e)) h

pub domain-is_domain : (m : NewMailbox) → is_writable m ≡ true → IsDomain m.domain.now × (bare m.domain.now ≡ without_white false m.domain.now)
unfolding is_writable
domain-is_domain m h =
    domain-from m.domain.now
    (and_parts (has_no_control m.local_part.now && has_no_control m.domain.now) (needs_no_quotes m.domain.now || is_literal m.domain.now) h).1

no_controls : (m : NewMailbox) → is_writable m ≡ true → (has_no_control m.local_part.now ≡ true) × (has_no_control m.domain.now ≡ true)
unfolding is_writable
no_controls m h =
    and_parts (has_no_control m.local_part.now) (has_no_control m.domain.now)
    (and_parts (has_no_control m.local_part.now && has_no_control m.domain.now) (needs_no_quotes m.domain.now || is_literal m.domain.now) h).0

written-no_control : (text : List ℕ) → has_no_control text ≡ true → has_no_control (written_local text) ≡ true
unfolding written_local
written-no_control text h = cond_both (needs_no_quotes text) _ _ (λ t. has_no_control t ≡ true) (λ e. h) (λ e. quoted-no_control text h)

pub written-clean : (m : NewMailbox) → is_writable m ≡ true → are_clean (written_local m.local_part.now) m.domain.now ≡ true
written-clean m h =
    let no = no_controls m h in
    and_from _ _ (plain_clean (written_local m.local_part.now) (written-no_control m.local_part.now no.0)) (plain_clean m.domain.now no.1)

-- what is written of an address is its canonical form, but for whitespace in a domain literal
pub address-shows : (m : NewMailbox) → is_writable m ≡ true
    → address_bytes (written_local m.local_part.now) m.domain.now ≡ written_local m.local_part.now ++ 64 ∷ without_white false m.domain.now
unfolding address_bytes local_text written_local
address-shows m h =
    let local = local-bare m.local_part.now (no_controls m h).0 in
    let domain = (domain-is_domain m h).1 in
    ap (λ l. cond (needs_no_quotes l) l (quoted_text l) ++ 64 ∷ bare m.domain.now) local
    ∙ ap (λ d. cond (needs_no_quotes m.local_part.now) m.local_part.now (quoted_text m.local_part.now) ++ 64 ∷ d) domain
