-- What the grammar of a mailbox says is a mailbox is read as it.
use Rattle.std.proofs.Common.{◌≡◌, ℕ, suc, ◌+◌, ◌-◌, ◌<◌, true, false, eqb, ◌&&◌, ◌||◌, List, [], ◌∷◌, ◌++◌, Some, length, take, drop, refl, sym, ap, subst, ◌∙◌, arith, append_assoc, length-append}
use Rattle.std.specs.Prelude.{min}
use Rattle.std.specs.List.{list_all, prefix_len}
use Rattle.std.proofs.lemmas.Bool.{and_from, and_parts, eq-eqb, false_from_ne_true, false≢true, ne_eqb, or_left, or_right}
use Rattle.std.proofs.lemmas.Option.{same_Some}
use Rattle.std.proofs.lemmas.List.{append-nil, drop_all, drop_at, take_all, take_at}
use Rattle.mail_codec.specs.Places.{begins}
use Rattle.mail_address.specs.declared.tokens.Kind.{Kind}
use Rattle.mail_address.specs.declared.tokens.Kind.TheVariants.{Angle, At, Atom, Colon, Comma, Dot}
use Rattle.mail_address.specs.declared.tokens.Span.{Span}
use Rattle.mail_address.specs.declared.tokens.Span.TheVariants.{Atoms, BeforeAt, BeforeColon, BeforeComma, Literals, Phrase, White, Word}
use Rattle.mail_address.specs.Enclosed.{IsInAngles}
use Rattle.mail_address.specs.Grammar.{address, AreDotted, AreDotWords, AreStops, atom, any_word, any_words, atoms, dot_word, dots_end, dotted, in_brackets, IsDomain, IsMailbox, IsName, IsPadded, IsPhrase, IsRoute, IsStop, IsWhite, IsWord, last_stop, literal, literals, MayBeRoute, more_stops, named_address, next_stop, no_name, no_route, no_stop, one_stop, phrase, route, stop, white_byte, white_comment, white_ends, Words}
use Rattle.mail_address.specs.Mailbox.{are_clean, is_clean, after_route, after_white, dot_word_len, is_domain, is_dotted, is_phrase, is_route, is_stop, is_word, mailbox_of, named_mailbox, Parts, spec_mailbox, stop_len, within_ends, word_len}
use Rattle.mail_address.specs.Names.{atom_word, quoted_word}
use Rattle.mail_address.specs.Tokens.{far, front_token, is_all_white, is_atom_byte, is_in, run, step}
use Rattle.mail_address.proofs.lemmas.Enclosed.{angle-front, ClosedToken, far-token, literal-closed, delimited, delimited-length, quoted-closed, step-token}
use Rattle.mail_address.proofs.lemmas.Passed.{IsPassed, at_domain-passed, at-front, at-passed, atom_byte-front, colon-front, comma-front, comma-passed, dot-front, dotted-passed, name-passed, over-atoms, over-literals, over-words, passed-append, passed-up_to, passed-whole, phrase-passed, route-passed, route-stops, run-stops, span_of, spec-angles, stop-passed, white-passed, white-whole}
use Rattle.mail_address.proofs.lemmas.Tokens.{atom_byte-visible, drop_past, far-nothing}

-- ---- one word

-- the token that a word is: whole, if no byte of an atom follows
pub record WordFront (words : Words) (word rest : List ℕ) : Type 0 where
  pub kind : Kind
  pub len : ℕ
  pub front : front_token (word ++ rest) ≡ record { kind = kind; len = len }
  pub some : 0 < length word
  pub no_white : is_in White kind ≡ false
  pub goes : is_in (span_of words) kind ≡ true
  pub whole : begins is_atom_byte rest ≡ false → len ≡ length word

pub prefix-whole : (bytes rest : List ℕ) → list_all is_atom_byte bytes ≡ true → begins is_atom_byte rest ≡ false → prefix_len is_atom_byte (bytes ++ rest) ≡ length bytes
prefix-whole [] [] h ends = refl
prefix-whole [] (c ∷ rest) h ends = rw ends refl
prefix-whole (b ∷ bytes) rest h ends =
    let both = and_parts (is_atom_byte b) (list_all is_atom_byte bytes) h in
    let later = prefix-whole bytes rest both.1 ends in
    rw (both.0) (omega (arith, later))

atom-word_front : (words : Words) (b : ℕ) (bytes rest : List ℕ) → is_in (span_of words) Atom ≡ true → list_all is_atom_byte (b ∷ bytes) ≡ true → WordFront words (b ∷ bytes) rest
atom-word_front words b bytes rest goes h =
    let both = and_parts (is_atom_byte b) (list_all is_atom_byte bytes) h in
    record {
      kind = Atom;
      len = 1 + prefix_len is_atom_byte (bytes ++ rest);
      front = atom_byte-front b (bytes ++ rest) both.0;
      some = omega arith;
      no_white = refl;
      goes = goes;
      whole = λ ends. let all = prefix-whole bytes rest both.1 ends in omega (arith, all);
    }

closed-word_front : (words : Words) {kind : Kind} {word : List ℕ} → ClosedToken kind word → is_in White kind ≡ false → is_in (span_of words) kind ≡ true → (rest : List ℕ) → WordFront words word rest
closed-word_front words {kind} {word} token no_white goes rest = record {
  kind = kind;
  len = length word;
  front = token.front rest;
  some = token.some;
  no_white = no_white;
  goes = goes;
  whole = λ ends. refl;
}

pub word-front : {words : Words} {word : List ℕ} → IsWord words word → (rest : List ℕ) → WordFront words word rest
word-front (any_word (quoted_word between e)) rest = closed-word_front any_words (quoted-closed between e) refl refl rest
word-front (any_word (atom_word {b = b} {bytes = bytes} h)) rest = atom-word_front any_words b bytes rest refl h
word-front (atom {b = b} {bytes = bytes} h) rest = atom-word_front atoms b bytes rest refl h
word-front (literal between e) rest = closed-word_front literals (literal-closed between e) refl refl rest

-- what may follow a word with what is around it
record Follows (rest : List ℕ) : Type 0 where
  pub no_atom : begins is_atom_byte rest ≡ false
  pub no_white : run White rest ≡ 0

nothing-follows : Follows []
nothing-follows = record { no_atom = refl; no_white = far-nothing (step White) }

pub white-no_atom : {white : List ℕ} → IsWhite white → (rest : List ℕ) → begins is_atom_byte rest ≡ false → begins is_atom_byte (white ++ rest) ≡ false
unfolding is_atom_byte
white-no_atom white_ends rest h = h
white-no_atom (white_byte {b = b} is more) rest h = false_from_ne_true (is_atom_byte b) (λ e. false≢true (sym (atom_byte-visible b e) ∙ is))
white-no_atom (white_comment {inner = inner} commented more e) rest h = ap (λ b. begins is_atom_byte (b ++ rest)) e

word_len-is : (span : Span) (text : List ℕ) (w l a : ℕ) → run White text ≡ w → step span (drop w text) ≡ l → 0 < l → run White (drop (w + l) text) ≡ a
    → word_len span text ≡ w + l + a
unfolding word_len
word_len-is span text w l a first second some third =
    rw (first, second, third) (rw (ne_eqb l 0 (λ e. absurd (omega (arith, some, e)))) refl)

-- a word with what is around it has the length that the reader finds
padded-len : {words : Words} {bytes : List ℕ} → IsPadded words bytes → (rest : List ℕ) → Follows rest → word_len (span_of words) (bytes ++ rest) ≡ length bytes
padded-len {words} {bytes} is rest follows =
    let later : List ℕ = is.after ++ rest in
    let front = word-front is.is_word later in
    let ends = white-no_atom is.white_after rest follows.no_atom in
    let whole = front.whole ends in
    let cut : bytes ++ rest ≡ is.before ++ (is.word ++ later) =
    ap (λ b. b ++ rest) is.made ∙ append_assoc is.before (is.word ++ is.after) rest ∙ ap (λ b. is.before ++ b) (append_assoc is.word is.after rest) in
    let len : length bytes ≡ length is.before + (length is.word + length is.after) =
    ap length is.made ∙ length-append is.before (is.word ++ is.after) ∙ ap (λ n. length is.before + n) (length-append is.word is.after) in
    let white = passed-up_to White is.before (is.word ++ later) (white-passed White refl refl is.white_before) (run-stops White (is.word ++ later) front.len front.kind front.front front.no_white) in
    let word : step (span_of words) (is.word ++ later) ≡ length is.word = step-token (span_of words) (is.word ++ later) front.len front.kind front.front front.goes ∙ whole in
    let after = passed-up_to White is.after rest (white-passed White refl refl is.white_after) follows.no_white in
    let both : drop (length is.before + length is.word) (is.before ++ (is.word ++ later)) ≡ later =
    ap (drop (length is.before + length is.word)) (sym (append_assoc is.before is.word later))
    ∙ drop_at (is.before ++ is.word) later (length is.before + length is.word) (length-append is.before is.word) in
    let low = front.some in
    ap (word_len (span_of words)) cut
    ∙ word_len-is (span_of words) (is.before ++ (is.word ++ later)) (length is.before) (length is.word) (length is.after) white
    (ap (step (span_of words)) (drop_at is.before (is.word ++ later) (length is.before) refl) ∙ word) low (ap (run White) both ∙ after)
    ∙ omega (arith, len)

padded-some : {words : Words} {bytes : List ℕ} → IsPadded words bytes → 0 < length bytes
padded-some is =
    let low = (word-front is.is_word []).some in
    let len = ap length is.made ∙ length-append is.before (is.word ++ is.after) ∙ ap (λ n. length is.before + n) (length-append is.word is.after) in
    omega (arith, low, len)

-- ---- words with dots

dot_words-follow : {words : Words} {bytes : List ℕ} → AreDotWords words bytes → Follows bytes
unfolding is_atom_byte
dot_words-follow dots_end = nothing-follows
dot_words-follow (dot_word {word = word} {rest = rest} is more e) =
    subst Follows (sym e) (record { no_atom = refl; no_white = run-stops White (46 ∷ (word ++ rest)) 1 Dot (dot-front (word ++ rest)) refl })

dot_word-len : (span : Span) (text : List ℕ) (n : ℕ) → word_len span text ≡ n → 0 < n → dot_word_len span (46 ∷ text) ≡ suc n
unfolding dot_word_len
dot_word-len span text n is some = rw is (rw (ne_eqb n 0 (λ e. absurd (omega (arith, some, e)))) (omega arith))

dot_words-far : {words : Words} {bytes : List ℕ} → AreDotWords words bytes → far (dot_word_len (span_of words)) bytes ≡ length bytes
unfolding far
dot_words-far dots_end = refl
dot_words-far {words} {bytes} (dot_word {word = word} {rest = rest} is more e) =
    let pass : List ℕ → ℕ = dot_word_len (span_of words) in
    let one : pass ((46 ∷ word) ++ rest) ≡ suc (length word) = dot_word-len (span_of words) (word ++ rest) (length word) (padded-len is rest (dot_words-follow more)) (padded-some is) in
    let here = far-token pass (46 ∷ word) rest (omega arith) one in
    let later = dot_words-far more in
    let len = length-append word rest in
    let whole = ap (far pass) e in
    let all = ap length e in
    omega (arith, here, later, len, whole, all)

dotted-from : (span : Span) (text : List ℕ) (n : ℕ) → word_len span text ≡ n → 0 < n → n + far (dot_word_len span) (drop n text) ≡ length text → is_dotted span text ≡ true
unfolding is_dotted
dotted-from span text n is some all = rw is (rw (ne_eqb n 0 (λ e. absurd (omega (arith, some, e)))) (eq-eqb (n + far (dot_word_len span) (drop n text)) (length text) all))

pub dotted-read : {words : Words} {bytes : List ℕ} → AreDotted words bytes → is_dotted (span_of words) bytes ≡ true
dotted-read {words} {bytes} are =
    let first = padded-len are.is_first are.rest (dot_words-follow are.are_rest) in
    let rest = dot_words-far are.are_rest in
    let len = ap length are.made ∙ length-append are.first are.rest in
    let cut : drop (length are.first) bytes ≡ are.rest = ap (drop (length are.first)) are.made ∙ drop_at are.first are.rest (length are.first) refl in
    let same = ap (far (dot_word_len (span_of words))) cut in
    dotted-from (span_of words) bytes (length are.first) (ap (word_len (span_of words)) are.made ∙ first) (padded-some are.is_first) (omega (arith, rest, len, same))

word-from : (span : Span) (text : List ℕ) → word_len span text ≡ length text → 0 < length text → is_word span text ≡ true
unfolding is_word
word-from span text is some = rw is (rw (ne_eqb (length text) 0 (λ e. absurd (omega (arith, some, e)))) (eq-eqb (length text) (length text) refl))

domain-read : {bytes : List ℕ} → IsDomain bytes → is_domain bytes ≡ true
unfolding is_domain
domain-read {bytes} (dotted are) = or_left (is_dotted Atoms bytes) (is_word Literals bytes) (dotted-read are)
domain-read {bytes} (in_brackets is) =
    or_right (is_dotted Atoms bytes) (is_word Literals bytes)
    (word-from Literals bytes (ap (word_len Literals) (sym (append-nil bytes)) ∙ padded-len is [] nothing-follows) (padded-some is))

-- ---- an `@` with whitespace before it

at-behind_white : (white rest : List ℕ) → IsWhite white → after_white (white ++ 64 ∷ rest) ≡ 64 ∷ rest
unfolding after_white
at-behind_white white rest is =
    drop_at white (64 ∷ rest) (run White (white ++ 64 ∷ rest))
    (sym (passed-up_to White white (64 ∷ rest) (white-passed White refl refl is) (run-stops White (64 ∷ rest) 1 At (at-front rest) refl)))

-- ---- phrases

pub phrase-read : {bytes : List ℕ} → IsPhrase bytes → is_phrase bytes ≡ true
unfolding is_phrase after_white
phrase-read {bytes} is =
    let later : List ℕ = is.first ++ is.rest in
    let front = word-front (any_word is.is_first) is.rest in
    let white : run White bytes ≡ length is.before =
    ap (run White) is.made ∙ passed-up_to White is.before later (white-passed White refl refl is.white_before) (run-stops White later front.len front.kind front.front front.no_white) in
    let cut : drop (run White bytes) bytes ≡ later = ap (λ n. drop n bytes) white ∙ ap (drop (length is.before)) is.made ∙ drop_at is.before later (length is.before) refl in
    and_from _ _ (ap (λ b. is_in Word (front_token b).kind) cut ∙ ap (λ t. is_in Word t.kind) front.front ∙ front.goes)
    (eq-eqb (run Phrase bytes) (length bytes) (passed-whole Phrase bytes (phrase-passed (over-words Phrase refl refl refl refl refl) is)))

name-read : {bytes : List ℕ} → IsName bytes → (is_all_white bytes || is_phrase bytes) ≡ true
name-read {bytes} (no_name is) = or_left (is_all_white bytes) (is_phrase bytes) (white-whole is)
name-read {bytes} (phrase is) = or_right (is_all_white bytes) (is_phrase bytes) (phrase-read is)

-- ---- routes

stop-read : {bytes : List ℕ} → IsStop bytes → is_stop bytes ≡ true
unfolding is_stop
stop-read {bytes} (no_stop is) = or_left (is_all_white bytes) _ (white-whole is)
stop-read {bytes} (stop {white = white} {domain = domain} is_white domain_is e) =
    or_right (is_all_white bytes) _
    (ap (λ b. begins (λ c. eqb c 64) (after_white b) && is_domain (drop 1 (after_white b))) e
    ∙ ap (λ b. begins (λ c. eqb c 64) b && is_domain (drop 1 b)) (at-behind_white white domain is_white) ∙ domain-read domain_is)

over-comma : {bytes : List ℕ} → IsStop bytes → IsPassed BeforeComma bytes
over-comma is = stop-passed (over-atoms BeforeComma refl refl refl refl) (over-literals BeforeComma refl refl refl refl) (at-passed BeforeComma refl) is

stop_len-from : (text : List ℕ) (n : ℕ) → run BeforeComma text ≡ n → is_stop (take n text) ≡ true → stop_len text ≡ min (suc n) (length text)
unfolding stop_len
stop_len-from text n len is = rw len (rw is refl)

last_stop-len : {bytes : List ℕ} → IsStop bytes → stop_len bytes ≡ length bytes
last_stop-len {bytes} is =
    stop_len-from bytes (length bytes) (passed-whole BeforeComma bytes (over-comma is)) (ap is_stop (take_all (length bytes) bytes (omega arith)) ∙ stop-read is) ∙ omega arith

stop-len : {first : List ℕ} → IsStop first → (rest : List ℕ) → stop_len (first ++ 44 ∷ rest) ≡ suc (length first)
stop-len {first} is rest =
    let len = length-append first (44 ∷ rest) in
    stop_len-from (first ++ 44 ∷ rest) (length first) (passed-up_to BeforeComma first (44 ∷ rest) (over-comma is) (run-stops BeforeComma (44 ∷ rest) 1 Comma (comma-front rest) refl))
    (ap is_stop (take_at first (44 ∷ rest) (length first) refl) ∙ stop-read is)
    ∙ omega (arith, len)

last_stop-far : (bytes : List ℕ) → IsStop bytes → far stop_len bytes ≡ length bytes
last_stop-far [] is = far-nothing stop_len
last_stop-far (b ∷ bytes) is =
    let same = append-nil (b ∷ bytes) in
    let here = far-token stop_len (b ∷ bytes) [] (omega arith) (ap stop_len same ∙ last_stop-len is) in
    let none = far-nothing stop_len in
    let whole = ap (far stop_len) same in
    omega (arith, here, none, whole)

stops-far : {bytes : List ℕ} → AreStops bytes → far stop_len bytes ≡ length bytes
stops-far {bytes} (last_stop is) = last_stop-far bytes is
stops-far {bytes} (next_stop {first = first} {rest = rest} is more e) =
    let same = append_assoc first (44 ∷ []) rest in
    let len = length-append first (44 ∷ []) in
    let here = far-token stop_len (first ++ 44 ∷ []) rest (omega (arith, len)) (ap stop_len same ∙ stop-len is rest ∙ omega (arith, len)) in
    let later = stops-far more in
    let whole = ap (far stop_len) e in
    let cut = ap (far stop_len) same in
    let all = ap length e ∙ length-append first (44 ∷ rest) in
    omega (arith, here, later, whole, cut, all, len)

route-begins : {bytes : List ℕ} → IsRoute bytes → begins (λ c. eqb c 64) (after_white bytes) ≡ true
route-begins (one_stop {white = white} {domain = domain} is_white is_domain e) =
    ap (λ b. begins (λ c. eqb c 64) (after_white b)) e ∙ ap (begins (λ c. eqb c 64)) (at-behind_white white domain is_white)
route-begins (more_stops {white = white} {domain = domain} {rest = rest} is_white is_domain more e) =
    ap (λ b. begins (λ c. eqb c 64) (after_white b)) e ∙ ap (begins (λ c. eqb c 64)) (at-behind_white white (domain ++ 44 ∷ rest) is_white)

route-read : {bytes : List ℕ} → IsRoute bytes → is_route bytes ≡ true
unfolding is_route
route-read {bytes} is = and_from _ _ (route-begins is) (eq-eqb (far stop_len bytes) (length bytes) (stops-far (route-stops is)))

-- ---- addresses

module _ (local domain : List ℕ) (is_local : AreDotted any_words local) (domain_is : IsDomain domain) where
  spec-read : are_clean local domain ≡ true → (name : List ℕ) → spec_mailbox name (local ++ 64 ∷ domain) ≡ Some (record { display_name = name; local_part = local; domain = domain })
  unfolding spec_mailbox
  spec-read clean name =
      let both = and_parts (is_clean local) (is_clean domain) clean in
      let len : run BeforeAt (local ++ 64 ∷ domain) ≡ length local =
      passed-up_to BeforeAt local (64 ∷ domain) (dotted-passed (over-words BeforeAt refl refl refl refl refl) is_local) (run-stops BeforeAt (64 ∷ domain) 1 At (at-front domain) refl) in
      rw (len, drop_at local (64 ∷ domain) (length local) refl, take_at local (64 ∷ domain) (length local) refl, drop_past local 64 domain) (rw (dotted-read is_local, domain-read domain_is, both.0, both.1) refl)

  -- a run up to a colon contains an address
  over-spec : IsPassed BeforeColon (local ++ 64 ∷ domain)
  over-spec =
      passed-append BeforeColon local (64 ∷ domain) (dotted-passed (over-words BeforeColon refl refl refl refl refl) is_local)
      (at_domain-passed (over-atoms BeforeColon refl refl refl refl) (over-literals BeforeColon refl refl refl refl) (at-passed BeforeColon refl) [] domain white_ends domain_is)

  no_route-read : after_route (local ++ 64 ∷ domain) ≡ local ++ 64 ∷ domain
  unfolding after_route
  no_route-read =
      let all = passed-whole BeforeColon (local ++ 64 ∷ domain) over-spec in
      rw all (rw (drop_all (length (local ++ 64 ∷ domain)) (local ++ 64 ∷ domain) (omega arith)) refl)

  route-passes : (stops : List ℕ) → IsRoute stops → after_route (stops ++ 58 ∷ (local ++ 64 ∷ domain)) ≡ local ++ 64 ∷ domain
  unfolding after_route
  route-passes stops is =
      let spec : List ℕ = local ++ 64 ∷ domain in
      let len : run BeforeColon (stops ++ 58 ∷ spec) ≡ length stops =
      passed-up_to BeforeColon stops (58 ∷ spec)
      (route-passed (over-atoms BeforeColon refl refl refl refl) (over-literals BeforeColon refl refl refl refl) (at-passed BeforeColon refl) (comma-passed BeforeColon refl) is)
      (run-stops BeforeColon (58 ∷ spec) 1 Colon (colon-front spec) refl) in
      rw (len, drop_at stops (58 ∷ spec) (length stops) refl, take_at stops (58 ∷ spec) (length stops) refl) (rw (route-read is) (drop_past stops 58 spec))

  may_be_route-passes : {may_be_route : List ℕ} → MayBeRoute may_be_route → after_route (may_be_route ++ (local ++ 64 ∷ domain)) ≡ local ++ 64 ∷ domain
  may_be_route-passes no_route = no_route-read
  may_be_route-passes (route {stops = stops} is e) =
      ap (λ r. after_route (r ++ (local ++ 64 ∷ domain))) e ∙ ap after_route (append_assoc stops (58 ∷ []) (local ++ 64 ∷ domain)) ∙ route-passes stops is

  -- ---- mailboxes

  address-read : are_clean local domain ≡ true → mailbox_of (local ++ 64 ∷ domain) ≡ Some (record { display_name = []; local_part = local; domain = domain })
  unfolding mailbox_of
  address-read clean =
      let len : run Phrase (local ++ 64 ∷ domain) ≡ length local =
      passed-up_to Phrase local (64 ∷ domain) (dotted-passed (over-words Phrase refl refl refl refl refl) is_local) (run-stops Phrase (64 ∷ domain) 1 At (at-front domain) refl) in
      rw (len, drop_at local (64 ∷ domain) (length local) refl, at-front domain) (spec-read clean [])

-- a name, and the bytes in angle brackets
module _ (name inner after : List ℕ) (is_name : IsName name) (inside : IsInAngles inner) (is_white : IsWhite after) where
  abbrev bracket : List ℕ
  bracket = 60 ∷ (inner ++ 62 ∷ after)

  angle : front_token bracket ≡ record { kind = Angle; len = length inner + 2 }
  angle = angle-front inner after inside

  within : (n : ℕ) → n ≡ length inner + 2 → within_ends (take n bracket) ≡ inner
  within n is =
      let len = delimited-length 60 62 inner in
      ap within_ends (ap (take n) (sym (delimited 60 62 inner after)) ∙ take_at (60 ∷ (inner ++ 62 ∷ [])) after n (len ∙ sym is))
      ∙ take_at inner (62 ∷ []) (length (60 ∷ (inner ++ 62 ∷ [])) - 2) (omega (arith, len))

  later : (n : ℕ) → n ≡ length inner + 2 → drop n bracket ≡ after
  later n is =
      ap (drop n) (sym (delimited 60 62 inner after)) ∙ drop_at (60 ∷ (inner ++ 62 ∷ [])) after n (delimited-length 60 62 inner ∙ sym is)

  named-read : named_mailbox name bracket ≡ spec_mailbox name (after_route inner)
  unfolding named_mailbox
  named-read = rw (angle) (rw (name-read is_name, later (length inner + 2) refl, white-whole is_white, within (length inner + 2) refl) refl)

  pub bracket-read : mailbox_of (name ++ bracket) ≡ spec_mailbox name (after_route inner)
  unfolding mailbox_of
  bracket-read =
      let len : run Phrase (name ++ bracket) ≡ length name =
      passed-up_to Phrase name bracket (name-passed (over-words Phrase refl refl refl refl refl) is_name) (run-stops Phrase bracket (length inner + 2) Angle angle refl) in
      rw (len, drop_at name bracket (length name) refl, take_at name bracket (length name) refl) (rw angle named-read)

pub mailbox-read : (text : List ℕ) (m : Parts) → IsMailbox text m → mailbox_of text ≡ Some m
mailbox-read text m (address {local = local} {domain = domain} is_local is_domain clean e) = ap mailbox_of e ∙ address-read local domain is_local is_domain clean
mailbox-read text m (named_address {name = name} {may_be_route = may_be_route} {local = local} {domain = domain} {after = after} is_name is_route is_local is_domain clean is_white e) =
    ap mailbox_of e ∙ bracket-read name (may_be_route ++ (local ++ 64 ∷ domain)) after is_name (spec-angles is_route is_local is_domain) is_white
    ∙ ap (spec_mailbox name) (may_be_route-passes local domain is_local is_domain is_route) ∙ spec-read local domain is_local is_domain clean name

pub mailbox-one : (text : List ℕ) (m n : Parts) → IsMailbox text m → IsMailbox text n → m ≡ n
mailbox-one text m n one two = same_Some m n (sym (mailbox-read text m one) ∙ mailbox-read text n two)
