-- The addresses that are read can be written.
use Rattle.std.proofs.Common.{◌≡◌, ◌≢◌, ℕ, zero, suc, ◌+◌, ◌/◌, ◌<◌, ◌≤◌, Bool, true, false, not, eqb, ◌||◌, ⊎_elim, List, [], ◌∷◌, ◌++◌, length, take, drop, refl, sym, ap, subst, ◌∙◌, arith, append_assoc, length-append}
use Rattle.std.specs.Prelude.{nat_lt}
use Rattle.std.specs.List.{list_all, prefix_len}
use Rattle.std.specs.Str.{is_utf8}
use Rattle.std.proofs.lemmas.Bool.{and_from, and_parts, cases_Bool, cond_both, cond-false, cond-true, eq-eqb, le-ltb, lt-ltb, ltb-false, ne_eqb, not-true, or_left, or_right}
use Rattle.std.proofs.lemmas.List.{append-nil, drop_at, take_at}
use Rattle.std.proofs.lemmas.List.Folds.{list_all-append}
use Rattle.std.proofs.lemmas.Str.{encodes-append}
use lib.Utf8.{encode, next}
use Rattle.mail_codec.specs.Latin1.{latin1_text}
use Rattle.mail_codec.specs.Places.{begins}
use Rattle.mailparse.specs.Value.{value_text}
use Rattle.mail_address.specs.declared.tokens.Kind.{Kind}
use Rattle.mail_address.specs.declared.tokens.Kind.TheVariants.{Atom, Blank, Comment, Dot, Literal}
use Rattle.mail_address.specs.declared.writer.NewMailbox.{NewMailbox}
use Rattle.mail_address.specs.Accepted.{bare_text, HasAddress, IsAccepted, IsWrittenAgain}
use Rattle.mail_address.specs.Addresses.{items, items_within, Single}
use Rattle.mail_address.specs.Enclosed.{IsBetween, no_bytes, plain_byte, quoted_pair}
use Rattle.mail_address.specs.Folding.{has_no_control, without_white}
use Rattle.mail_address.specs.Grammar.{address, AreDotted, AreDotWords, atom, atoms, dot_word, dots_end, dotted, in_brackets, IsByGrammar, IsDomain, IsMailbox, IsPadded, IsWhite, IsWord, literal, literals, named_address, white_byte, white_comment, white_ends}
use Rattle.mail_address.specs.Mailbox.{are_clean, is_clean, Parts}
use Rattle.mail_address.specs.Text.{address_bytes, address_front, address_front_at, address_meaning, bare, front_len, local_text, needs_no_quotes}
use Rattle.mail_address.specs.Tokens.{front_token, is_atom_byte, is_white}
use Rattle.mail_address.specs.Writer.{is_literal, is_writable, written_local}
use Rattle.mail_address.proofs.lemmas.Addresses.{items-more}
use Rattle.mail_address.proofs.lemmas.Encode.{list_all-weaker}
use Rattle.mail_address.proofs.lemmas.Enclosed.{comment-closed, delimited, literal-closed}
use Rattle.mail_address.proofs.lemmas.Folding.{clean-bare, text-no_control}
use Rattle.mail_address.proofs.lemmas.GrammarRead.{dotted-read, white-no_atom}
use Rattle.mail_address.proofs.lemmas.Passed.{dot-front, white_byte-front}
use Rattle.mail_address.proofs.lemmas.Text.{front_len-some, text-utf8}
use Rattle.mail_address.proofs.lemmas.WriterWords.{atom-some, atom-token, padded-alone}

-- ---- a local part or a domain, token by token

-- the offset of the first token does not matter
bare-anywhere : (most s t : ℕ) (bytes : List ℕ) → items_within address_front_at front_len most s bytes ≡ items_within address_front_at front_len most t bytes
bare-anywhere zero s t bytes = refl
bare-anywhere (suc most) s t [] = refl
bare-anywhere (suc most) s t (b ∷ rest) =
    ap (λ r. address_front (b ∷ rest) ++ r) (bare-anywhere most (s + front_len (b ∷ rest)) (t + front_len (b ∷ rest)) (drop (front_len (b ∷ rest)) (b ∷ rest)))

-- a token at the front, and then the rest
bare-front : (bytes : List ℕ) (kind : Kind) (len : ℕ) → 0 < length bytes → front_token bytes ≡ record { kind = kind; len = len } → bare bytes ≡ address_meaning kind (take len bytes) ++ bare (drop len bytes)
unfolding bare items address_front front_len
bare-front bytes kind len some token =
    items-more address_front_at front_len front_len-some 0 bytes some
    ∙ ap (λ t. address_meaning t.kind (take t.len bytes) ++ items address_front_at front_len (0 + t.len) (drop t.len bytes)) token
    ∙ ap (λ r. address_meaning kind (take len bytes) ++ r) (bare-anywhere (length (drop len bytes)) (0 + len) 0 (drop len bytes))

bare-token : (text rest : List ℕ) (kind : Kind) → 0 < length text → front_token (text ++ rest) ≡ record { kind = kind; len = length text } → bare (text ++ rest) ≡ address_meaning kind text ++ bare rest
bare-token text rest kind some token =
    let len = length-append text rest in
    bare-front (text ++ rest) kind (length text) (omega (arith, some, len)) token
    ∙ ap (λ t. address_meaning kind t ++ bare (drop (length text) (text ++ rest))) (take_at text rest (length text) refl)
    ∙ ap (λ r. address_meaning kind text ++ bare r) (drop_at text rest (length text) refl)

-- whitespace and comments mean nothing
bare-blank : (b : ℕ) (rest : List ℕ) → is_white b ≡ true → bare (b ∷ rest) ≡ bare (drop (prefix_len is_white rest) rest)
bare-blank b rest h =
    let next : 1 + prefix_len is_white rest ≡ suc (prefix_len is_white rest) = omega arith in
    bare-front (b ∷ rest) Blank (1 + prefix_len is_white rest) (omega arith) (white_byte-front b rest h) ∙ ap (λ n. bare (drop n (b ∷ rest))) next

prefix-more : (c : ℕ) (rest : List ℕ) → is_white c ≡ true → prefix_len is_white (c ∷ rest) ≡ suc (prefix_len is_white rest)
prefix-more c rest e = rw e (omega arith)

prefix-none : (c : ℕ) (rest : List ℕ) → is_white c ≡ false → prefix_len is_white (c ∷ rest) ≡ 0
prefix-none c rest e = rw e refl

bare-one_blank : (b : ℕ) (rest : List ℕ) → is_white b ≡ true → bare (b ∷ rest) ≡ bare rest
bare-one_blank b [] h = bare-blank b [] h
bare-one_blank b (c ∷ rest) h =
    ⊎_elim
    (λ e. bare-blank b (c ∷ rest) h ∙ ap (λ n. bare (drop n (c ∷ rest))) (prefix-more c rest e) ∙ sym (bare-blank c rest e))
    (λ e. bare-blank b (c ∷ rest) h ∙ ap (λ n. bare (drop n (c ∷ rest))) (prefix-none c rest e))
    (cases_Bool (is_white c))

bare-white : {white : List ℕ} → IsWhite white → (rest : List ℕ) → bare (white ++ rest) ≡ bare rest
bare-white white_ends rest = refl
bare-white (white_byte {b = b} {rest = more} h is) rest = bare-one_blank b (more ++ rest) h ∙ bare-white is rest
bare-white {white} (white_comment {inner = inner} {rest = more} commented is e) rest =
    let comment : List ℕ = 40 ∷ (inner ++ 41 ∷ []) in
    let closed = comment-closed commented refl in
    ap (λ t. bare (t ++ rest)) (e ∙ sym (delimited 40 41 inner more))
    ∙ ap bare (append_assoc comment more rest)
    ∙ bare-token comment (more ++ rest) Comment closed.some (closed.front (more ++ rest))
    ∙ bare-white is rest

bare-dot : (rest : List ℕ) → bare (46 ∷ rest) ≡ 46 ∷ bare rest
bare-dot rest = bare-token (46 ∷ []) rest Dot (omega arith) (dot-front rest)

-- a padded word means the word
bare-atom : {text : List ℕ} (is : IsPadded atoms text) (rest : List ℕ) → begins is_atom_byte rest ≡ false → bare (text ++ rest) ≡ is.word ++ bare rest
bare-atom {text} is rest ends =
    let after = white-no_atom is.white_after rest ends in
    ap (λ t. bare (t ++ rest)) is.made
    ∙ ap bare (append_assoc is.before (is.word ++ is.after) rest ∙ ap (λ t. is.before ++ t) (append_assoc is.word is.after rest))
    ∙ bare-white is.white_before (is.word ++ (is.after ++ rest))
    ∙ bare-token is.word (is.after ++ rest) Atom (atom-some is.is_word) (atom-token is.is_word (is.after ++ rest) after)
    ∙ ap (λ r. is.word ++ r) (bare-white is.white_after rest)

-- ---- atoms and dots

data DotAtoms : List ℕ → Type 0 where
  one_atom : {word : List ℕ} → IsWord atoms word → DotAtoms word
  more_atoms : {word rest text : List ℕ} → IsWord atoms word → DotAtoms rest → text ≡ word ++ 46 ∷ rest → DotAtoms text

dot_words : {text : List ℕ} → DotAtoms text → AreDotWords atoms (46 ∷ text)
dot_words {text} (one_atom is) = dot_word {word = text} {rest = []} (padded-alone is) dots_end (ap (λ (t : List ℕ). 46 ∷ t) (sym (append-nil text)))
dot_words (more_atoms {word = word} {rest = rest} is more e) =
    dot_word {word = word} {rest = 46 ∷ rest} (padded-alone is) (dot_words more) (ap (λ (t : List ℕ). 46 ∷ t) e)

dot_atoms-dotted : {text : List ℕ} → DotAtoms text → AreDotted atoms text
dot_atoms-dotted {text} (one_atom is) = record { first = text; rest = []; is_first = padded-alone is; are_rest = dots_end; made = sym (append-nil text) }
dot_atoms-dotted (more_atoms {word = word} {rest = rest} is more e) =
    record { first = word; rest = 46 ∷ rest; is_first = padded-alone is; are_rest = dot_words more; made = e }

abbrev is_dot_atom : ℕ → Bool
is_dot_atom b = is_atom_byte b || eqb b 46

atom-all : {word : List ℕ} → IsWord atoms word → list_all is_atom_byte word ≡ true
atom-all (atom h) = h

weaker : (word : List ℕ) → list_all is_atom_byte word ≡ true → list_all is_dot_atom word ≡ true
weaker [] h = refl
weaker (b ∷ word) h = let both = and_parts (is_atom_byte b) (list_all is_atom_byte word) h in and_from _ _ (or_left (is_atom_byte b) (eqb b 46) both.0) (weaker word both.1)

dot_atoms-all : {text : List ℕ} → DotAtoms text → list_all is_dot_atom text ≡ true
dot_atoms-all {text} (one_atom is) = weaker text (atom-all is)
dot_atoms-all (more_atoms {word = word} {rest = rest} is more e) =
    ap (list_all is_dot_atom) e ∙ list_all-append is_dot_atom word (46 ∷ rest)
    ∙ and_from _ _ (weaker word (atom-all is)) (and_from _ _ (or_right (is_atom_byte 46) true refl) (dot_atoms-all more))

dot_atoms-need_none : {text : List ℕ} → DotAtoms text → needs_no_quotes text ≡ true
unfolding needs_no_quotes
dot_atoms-need_none are = and_from _ _ (dot_atoms-all are) (dotted-read (dot_atoms-dotted are))

-- a domain that is not a literal means atoms and dots
dot_words-end : {text : List ℕ} → AreDotWords atoms text → begins is_atom_byte text ≡ false
unfolding is_atom_byte
dot_words-end dots_end = refl
dot_words-end (dot_word {word = word} {rest = rest} padded more e) = ap (begins is_atom_byte) e

bare-dot_words : {word text : List ℕ} → IsWord atoms word → AreDotWords atoms text → DotAtoms (word ++ bare text)
unfolding bare items
bare-dot_words {word} is dots_end = subst DotAtoms (sym (append-nil word)) (one_atom is)
bare-dot_words {word} is (dot_word {word = next} {rest = rest} padded more e) =
    more_atoms {word = word} {rest = padded.word ++ bare rest} is (bare-dot_words padded.is_word more)
    (ap (λ t. word ++ bare t) e ∙ ap (λ t. word ++ t) (bare-dot (next ++ rest) ∙ ap (λ (t : List ℕ). 46 ∷ t) (bare-atom padded rest (dot_words-end more))))

bare-dotted : {text : List ℕ} → AreDotted atoms text → DotAtoms (bare text)
bare-dotted are =
    subst DotAtoms (sym (ap bare are.made ∙ bare-atom are.is_first are.rest (dot_words-end are.are_rest))) (bare-dot_words are.is_first.is_word are.are_rest)

-- ---- domain literals

between-kept : {inner : List ℕ} → IsBetween 91 93 inner → (rest : List ℕ) → (kept : List ℕ) × IsBetween 91 93 kept × (without_white false (inner ++ rest) ≡ kept ++ without_white false rest)
between-kept no_bytes rest = ([], no_bytes, refl)
between-kept (quoted_pair {b = b} {rest = more} is) rest =
    let later = between-kept is rest in
    (92 ∷ b ∷ later.0, quoted_pair later.1, ap (λ (t : List ℕ). 92 ∷ b ∷ t) later.2)
between-kept (plain_byte {b = b} {rest = more} one other back is) rest =
    let later = between-kept is rest in
    ⊎_elim
    (λ e. (later.0, later.1, cond-true (is_white b) (without_white false (more ++ rest)) _ e ∙ later.2))
    (λ e. (
      b ∷ later.0,
      plain_byte one other back later.1,
      cond-false (is_white b) (without_white false (more ++ rest)) (b ∷ without_white (eqb b 92) (more ++ rest)) e
          ∙ ap (λ q. b ∷ without_white q (more ++ rest)) (ne_eqb b 92 back) ∙ ap (λ (t : List ℕ). b ∷ t) later.2,
    ))
    (cases_Bool (is_white b))

-- a text that is a domain literal and nothing else
record IsLiteralText (text : List ℕ) : Type 0 where
  inner : List ℕ
  between : IsBetween 91 93 inner
  made : text ≡ 91 ∷ (inner ++ 93 ∷ [])

literal-is : {text : List ℕ} → IsLiteralText text → is_literal text ≡ true
unfolding is_literal
literal-is {text} is =
    let closed = literal-closed is.between is.made in
    let token = ap front_token (sym (append-nil text)) ∙ closed.front [] in
    rw token (eq-eqb (length text) (length text) refl)

bare-literal : {text : List ℕ} → IsPadded literals text → IsLiteralText (bare text)
unfolding bare items
bare-literal {text} is = go is.is_word
  where
    go : IsWord literals is.word → IsLiteralText (bare text)
    go (literal {inner = inner} between e) =
        let closed = literal-closed between e in
        let kept = between-kept between (93 ∷ []) in
        record {
          inner = kept.0;
          between = kept.1;
          made =
              ap bare is.made ∙ bare-white is.white_before (is.word ++ is.after)
              ∙ bare-token is.word is.after Literal closed.some (closed.front is.after)
              ∙ ap (λ t. without_white false is.word ++ t) (ap bare (sym (append-nil is.after)) ∙ bare-white is.white_after [])
              ∙ append-nil (without_white false is.word)
              ∙ ap (without_white false) e
              ∙ ap (λ (t : List ℕ). 91 ∷ t) kept.2;
        }

-- ---- Latin-1

abbrev is_high : ℕ → Bool
is_high b = not (nat_lt b 128)

high-is : (b : ℕ) → 128 ≤ b → is_high b ≡ true
high-is b h = ap not (le-ltb b 128 h)

high-at_least : (b : ℕ) → is_high b ≡ true → 128 ≤ b
high-at_least b h = ltb-false b 128 (not-true (nat_lt b 128) h)

-- the UTF-8 of a character is its byte, or bytes of 128 and above
encode-has : (P : List ℕ → Type 0) (c : ℕ) → P (c ∷ []) → ((high : List ℕ) → list_all is_high high ≡ true → 0 < length high → P high) → P (encode c)
unfolding encode
encode-has P c low high =
    cond_both (nat_lt c 128) _ _ P (λ e. low)
    (λ e. cond_both (nat_lt c 2048) _ _ P (λ e. high ((192 + c / 64) ∷ next c ∷ []) (and_from _ _ (high-is (192 + c / 64) (omega arith)) (and_from _ _ (high-is (next c) (omega arith)) refl)) (omega arith))
    (λ e. cond_both (nat_lt c 65536) _ _ P
    (λ e. high ((224 + c / 4096) ∷ next (c / 64) ∷ next c ∷ [])
    (and_from _ _ (high-is (224 + c / 4096) (omega arith)) (and_from _ _ (high-is (next (c / 64)) (omega arith)) (and_from _ _ (high-is (next c) (omega arith)) refl))) (omega arith))
    (λ e. high ((240 + c / 262144) ∷ next (c / 4096) ∷ next (c / 64) ∷ next c ∷ [])
    (and_from _ _ (high-is (240 + c / 262144) (omega arith))
    (and_from _ _ (high-is (next (c / 4096)) (omega arith)) (and_from _ _ (high-is (next (c / 64)) (omega arith)) (and_from _ _ (high-is (next c) (omega arith)) refl)))) (omega arith))))

-- bytes of 128 and above belong to atoms
atom-high : (b : ℕ) → is_high b ≡ true → is_atom_byte b ≡ true
unfolding is_atom_byte
atom-high b h =
    let least = high-at_least b h in
    let no : (k : ℕ) → k < 128 → eqb b k ≡ false = λ k low. ne_eqb b k (λ e. absurd (omega (arith, least, e, low))) in
    rw (
      lt-ltb 32 b (omega (arith, least)),
      no 127 (omega arith),
      no 34 (omega arith),
      no 40 (omega arith),
      no 41 (omega arith),
      no 44 (omega arith),
      no 46 (omega arith),
      no 58 (omega arith),
      no 59 (omega arith),
      no 60 (omega arith),
      no 62 (omega arith),
      no 64 (omega arith),
      no 91 (omega arith),
      no 93 (omega arith),
      no 92 (omega arith),
    ) refl

latin1-atoms : (word : List ℕ) → list_all is_atom_byte word ≡ true → list_all is_atom_byte (latin1_text word) ≡ true
latin1-atoms [] h = refl
latin1-atoms (b ∷ word) h =
    let both = and_parts (is_atom_byte b) (list_all is_atom_byte word) h in
    list_all-append is_atom_byte (encode b) (latin1_text word)
    ∙ and_from _ _
    (encode-has (λ t. list_all is_atom_byte t ≡ true) b (and_from _ _ both.0 refl) (λ high are some. list_all-weaker is_high is_atom_byte atom-high high are))
    (latin1-atoms word both.1)

atoms-word : (text : List ℕ) → 0 < length text → list_all is_atom_byte text ≡ true → IsWord atoms text
atoms-word [] some h = absurd (omega (arith, some))
atoms-word (b ∷ text) some h = atom {b = b} {bytes = text} h

latin1-word : {word : List ℕ} → IsWord atoms word → IsWord atoms (latin1_text word)
latin1-word (atom {b = b} {bytes = bytes} h) =
    let some = encode-has (λ t. 0 < length t) b (omega arith) (λ high are more. more) in
    let len = length-append (encode b) (latin1_text bytes) in
    atoms-word (latin1_text (b ∷ bytes)) (omega (arith, some, len)) (latin1-atoms (b ∷ bytes) h)

latin1-dot_atoms : {text : List ℕ} → DotAtoms text → DotAtoms (latin1_text text)
unfolding encode
latin1-dot_atoms (one_atom is) = one_atom (latin1-word is)
latin1-dot_atoms (more_atoms {word = word} {rest = rest} is more e) =
    more_atoms {word = latin1_text word} {rest = latin1_text rest} (latin1-word is) (latin1-dot_atoms more) (ap latin1_text e ∙ encodes-append word (46 ∷ rest))

high-between : (high rest : List ℕ) → list_all is_high high ≡ true → IsBetween 91 93 rest → IsBetween 91 93 (high ++ rest)
high-between [] rest h is = is
high-between (b ∷ high) rest h is =
    let both = and_parts (is_high b) (list_all is_high high) h in
    let least = high-at_least b both.0 in
    let no : (k : ℕ) → k < 128 → b ≢ k = λ k low e. absurd (omega (arith, least, e, low)) in
    plain_byte (no 91 (omega arith)) (no 93 (omega arith)) (no 92 (omega arith)) (high-between high rest both.1 is)

pair-between : (high rest : List ℕ) → list_all is_high high ≡ true → 0 < length high → IsBetween 91 93 rest → IsBetween 91 93 (92 ∷ (high ++ rest))
pair-between [] rest h some is = absurd (omega (arith, some))
pair-between (b ∷ high) rest h some is = quoted_pair (high-between high rest (and_parts (is_high b) (list_all is_high high) h).1 is)

latin1-between : {inner : List ℕ} → IsBetween 91 93 inner → IsBetween 91 93 (latin1_text inner)
unfolding encode
latin1-between no_bytes = no_bytes
latin1-between (quoted_pair {b = b} {rest = rest} is) =
    let later = latin1-between is in
    encode-has (λ t. IsBetween 91 93 (92 ∷ (t ++ latin1_text rest))) b (quoted_pair later) (λ high are some. pair-between high (latin1_text rest) are some later)
latin1-between (plain_byte {b = b} {rest = rest} one other back is) =
    let later = latin1-between is in
    encode-has (λ t. IsBetween 91 93 (t ++ latin1_text rest)) b (plain_byte one other back later) (λ high are some. high-between high (latin1_text rest) are later)

latin1-literal : {text : List ℕ} → IsLiteralText text → IsLiteralText (latin1_text text)
unfolding encode
latin1-literal is = record {
  inner = latin1_text is.inner;
  between = latin1-between is.between;
  made = ap latin1_text is.made ∙ ap (λ (t : List ℕ). 91 ∷ t) (encodes-append is.inner (93 ∷ []));
}

-- ---- an address that was read

text-has : (P : List ℕ → Type 0) (bytes : List ℕ) → P bytes → P (latin1_text bytes) → P (value_text bytes)
text-has P bytes same latin1 = cond_both (is_utf8 bytes) bytes (latin1_text bytes) P (λ e. same) (λ e. latin1)

domain-accepted : {domain : List ℕ} → IsDomain domain → (needs_no_quotes (bare_text domain) || is_literal (bare_text domain)) ≡ true
domain-accepted {domain} (dotted are) =
    let means = bare-dotted are in
    or_left _ _ (text-has (λ t. needs_no_quotes t ≡ true) (bare domain) (dot_atoms-need_none means) (dot_atoms-need_none (latin1-dot_atoms means)))
domain-accepted {domain} (in_brackets is) =
    let means = bare-literal is in
    or_right _ _ (text-has (λ t. is_literal t ≡ true) (bare domain) (literal-is means) (literal-is (latin1-literal means)))

pub address-accepted : (name local domain : List ℕ) → IsDomain domain → are_clean local domain ≡ true → (new : NewMailbox)
    → HasAddress (record { display_name = name; local_part = local; domain = domain }) new → IsWrittenAgain (record { display_name = name; local_part = local; domain = domain }) new
unfolding is_writable written_local local_text address_bytes
address-accepted name local domain is clean new has =
    let both = and_parts (is_clean local) (is_clean domain) clean in
    record {
      accepted =
          and_from _ _
          (and_from _ _ (ap has_no_control has.local_part ∙ text-no_control (bare local) (clean-bare local both.0)) (ap has_no_control has.domain ∙ text-no_control (bare domain) (clean-bare domain both.1)))
          (ap (λ d. needs_no_quotes d || is_literal d) has.domain ∙ domain-accepted is);
      same = λ first second.
          ap (λ t. written_local t ++ 64 ∷ new.domain.now) (has.local_part ∙ text-utf8 (bare local) first)
          ∙ ap (λ t. written_local (bare local) ++ 64 ∷ t) (has.domain ∙ text-utf8 (bare domain) second);
    }

mailbox-accepted : {text : List ℕ} {m : Parts} → IsMailbox text m → (new : NewMailbox) → HasAddress m new → IsWrittenAgain m new
mailbox-accepted (address {local = local} {domain = domain} _ is clean _) = address-accepted [] local domain is clean
mailbox-accepted (named_address {name = name} {local = local} {domain = domain} _ _ _ is clean _ _) = address-accepted name local domain is clean

pub single-accepted : (s : Single) → IsByGrammar s → IsAccepted s
single-accepted s is m new e = mailbox-accepted ((is m).0 e) new
