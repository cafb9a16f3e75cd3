-- Lemmas on runs over the parts of the grammar of a mailbox.
use Rattle.std.proofs.Common.{◌≡◌, ℕ, ◌+◌, Bool, true, false, List, [], ◌∷◌, ◌++◌, length, refl, sym, ap, subst, ◌∙◌, arith, append_assoc, length-append}
use Rattle.std.specs.List.{list_all, prefix_len}
use Rattle.std.proofs.lemmas.Bool.{and_parts, cond-false, eq-eqb}
use Rattle.std.proofs.lemmas.List.{append-nil}
use Rattle.mail_address.specs.declared.tokens.Kind.{Kind}
use Rattle.mail_address.specs.declared.tokens.Kind.TheVariants.{At, Atom, Blank, Colon, Comma, Comment, Dot, Literal, Quoted, Semicolon}
use Rattle.mail_address.specs.declared.tokens.Span.{Span}
use Rattle.mail_address.specs.declared.tokens.Span.TheVariants.{Atoms, Literals, White, Word}
use Rattle.mail_address.specs.Enclosed.{IsClosed, IsInAngles, angles_end, angles_pair, angles_byte, angles_closed, in_comment, in_literal, in_quotes, is_opener}
use Rattle.mail_address.specs.Grammar.{AreDotted, AreDotWords, AreStops, atom, any_word, any_words, atoms, dot_word, dots_end, dotted, in_brackets, IsDomain, IsName, IsPadded, IsPhrase, IsPhraseRest, IsRoute, IsStop, IsWhite, IsWord, last_stop, literal, literals, MayBeRoute, more_stops, next_stop, no_name, no_route, no_stop, one_stop, phrase, phrase_dot, phrase_ends, phrase_white, phrase_word, route, stop, white_byte, white_comment, white_ends, Words}
use Rattle.mail_address.specs.Names.{atom_word, quoted_word}
use Rattle.mail_address.specs.Tokens.{front_token, is_all_white, is_atom_byte, is_in, is_white, run, single_kind, step}
use Rattle.mail_address.proofs.lemmas.Enclosed.{closed-passed, comment-closed, far-run, literal-closed, delimited, quoted-closed, run-token, step-token}
use Rattle.mail_address.proofs.lemmas.Tokens.{atom_byte-visible, byte-other, far-nothing, far-stop, no_atom_bytes}

-- ---- texts within a run

-- a run contains the text, whatever follows it
abbrev pub IsPassed : Span → List ℕ → Type 0
IsPassed span text = (rest : List ℕ) → run span (text ++ rest) ≡ length text + run span rest

pub passed-append : (span : Span) (one two : List ℕ) → IsPassed span one → IsPassed span two → IsPassed span (one ++ two)
passed-append span one two first second rest =
    let here = first (two ++ rest) in
    let later = second rest in
    let len = length-append one two in
    let same = ap (run span) (append_assoc one two rest) in
    omega (arith, here, later, len, same)

pub passed-same : (span : Span) {bytes made : List ℕ} → bytes ≡ made → IsPassed span made → IsPassed span bytes
passed-same span e passed = subst (IsPassed span) (sym e) passed

-- a run over the whole of such a text
pub passed-whole : (span : Span) (text : List ℕ) → IsPassed span text → run span text ≡ length text
passed-whole span text passed =
    let all = passed [] in
    let none = far-nothing (step span) in
    let same = ap (run span) (append-nil text) in
    omega (arith, all, none, same)

-- a run up to the token that ends it
pub passed-up_to : (span : Span) (text rest : List ℕ) → IsPassed span text → run span rest ≡ 0 → run span (text ++ rest) ≡ length text
passed-up_to span text rest passed none = let all = passed rest in omega (arith, all, none)

-- ---- tokens

pub atom_byte-front : (b : ℕ) (rest : List ℕ) → is_atom_byte b ≡ true → front_token (b ∷ rest) ≡ record { kind = Atom; len = 1 + prefix_len is_atom_byte rest }
unfolding front_token
atom_byte-front b rest h = cond-false _ _ _ (byte-other is_atom_byte b 60 h no_atom_bytes.0) ∙ rw (atom_byte-visible b h, h) refl

pub white_byte-front : (b : ℕ) (rest : List ℕ) → is_white b ≡ true → front_token (b ∷ rest) ≡ record { kind = Blank; len = 1 + prefix_len is_white rest }
unfolding front_token
white_byte-front b rest h = cond-false _ _ _ (byte-other is_white b 60 h refl) ∙ rw h refl

pub dot-front : (rest : List ℕ) → front_token (46 ∷ rest) ≡ record { kind = Dot; len = 1 }
unfolding front_token is_atom_byte single_kind
dot-front rest = refl

pub at-front : (rest : List ℕ) → front_token (64 ∷ rest) ≡ record { kind = At; len = 1 }
unfolding front_token is_atom_byte single_kind
at-front rest = refl

pub comma-front : (rest : List ℕ) → front_token (44 ∷ rest) ≡ record { kind = Comma; len = 1 }
unfolding front_token is_atom_byte single_kind
comma-front rest = refl

pub colon-front : (rest : List ℕ) → front_token (58 ∷ rest) ≡ record { kind = Colon; len = 1 }
unfolding front_token is_atom_byte single_kind
colon-front rest = refl

pub semicolon-front : (rest : List ℕ) → front_token (59 ∷ rest) ≡ record { kind = Semicolon; len = 1 }
unfolding front_token is_atom_byte single_kind
semicolon-front rest = refl

-- a token that a run may not have ends it
pub run-stops : (span : Span) (bytes : List ℕ) (len : ℕ) (kind : Kind) → front_token bytes ≡ record { kind = kind; len = len } → is_in span kind ≡ false → run span bytes ≡ 0
unfolding step
run-stops span bytes len kind is stops = far-stop (step span) bytes (rw is (rw stops refl))

-- ---- folding whitespace, and words

pub white-passed : (span : Span) → is_in span Blank ≡ true → is_in span Comment ≡ true → {bytes : List ℕ} → IsWhite bytes → IsPassed span bytes
white-passed span blank comment white_ends rest = omega arith
white-passed span blank comment (white_byte {b = b} {rest = more} h white) rest =
    let later = white-passed span blank comment white rest in
    let here = far-run (step span) is_white (λ c cs k. step-token span (c ∷ cs) (1 + prefix_len is_white cs) Blank (white_byte-front c cs k) blank ∙ omega arith) b (more ++ rest) h in
    omega (arith, here, later)
white-passed span blank comment {bytes} (white_comment {inner = inner} {rest = more} commented white e) rest =
    passed-same span (e ∙ sym (delimited 40 41 inner more))
    (passed-append span (40 ∷ (inner ++ 41 ∷ [])) more (closed-passed span (comment-closed commented refl) comment) (white-passed span blank comment white)) rest

atoms-passed : (span : Span) → is_in span Atom ≡ true → (bytes : List ℕ) → list_all is_atom_byte bytes ≡ true → IsPassed span bytes
atoms-passed span goes [] h rest = omega arith
atoms-passed span goes (b ∷ bytes) h rest =
    let both = and_parts (is_atom_byte b) (list_all is_atom_byte bytes) h in
    let later = atoms-passed span goes bytes both.1 rest in
    let here = far-run (step span) is_atom_byte (λ c cs k. step-token span (c ∷ cs) (1 + prefix_len is_atom_byte cs) Atom (atom_byte-front c cs k) goes ∙ omega arith) b (bytes ++ rest) both.0 in
    omega (arith, here, later)

-- the span of words
abbrev pub span_of : Words → Span
span_of any_words = Word
span_of atoms = Atoms
span_of literals = Literals

pub at-passed : (span : Span) → is_in span At ≡ true → IsPassed span (64 ∷ [])
at-passed span goes rest = run-token span (64 ∷ []) rest At (omega arith) (at-front rest) goes

pub comma-passed : (span : Span) → is_in span Comma ≡ true → IsPassed span (44 ∷ [])
comma-passed span goes rest = run-token span (44 ∷ []) rest Comma (omega arith) (comma-front rest) goes

-- a property of such words and of what is between them, such as that a run contains it
pub record GoesOver (words : Words) (P : List ℕ → Type 0) : Type 0 where
  pub none : P []
  pub both : (one two : List ℕ) → P one → P two → P (one ++ two)
  pub white : {bytes : List ℕ} → IsWhite bytes → P bytes
  pub dot : P (46 ∷ [])
  pub word : {bytes : List ℕ} → IsWord words bytes → P bytes

goes_over : {words : Words} (span : Span) → is_in span Blank ≡ true → is_in span Comment ≡ true → is_in span Dot ≡ true → ((bytes : List ℕ) → IsWord words bytes → IsPassed span bytes)
    → GoesOver words (IsPassed span)
goes_over span blank comment dot word =
    record { none = λ rest. omega arith; both = passed-append span; white = λ is. white-passed span blank comment is; dot = λ rest. run-token span (46 ∷ []) rest Dot (omega arith) (dot-front rest) dot; word = λ is. word _ is }

pub over-words : (span : Span) → is_in span Blank ≡ true → is_in span Comment ≡ true → is_in span Dot ≡ true → is_in span Atom ≡ true → is_in span Quoted ≡ true
    → GoesOver any_words (IsPassed span)
over-words span blank comment dot goes quoted = goes_over span blank comment dot (λ bytes is. go is)
  where
    go : {bytes : List ℕ} → IsWord any_words bytes → IsPassed span bytes
    go (any_word (quoted_word between e)) = closed-passed span (quoted-closed between e) quoted
    go (any_word (atom_word {b = b} {bytes = bytes} h)) = atoms-passed span goes (b ∷ bytes) h

pub over-atoms : (span : Span) → is_in span Blank ≡ true → is_in span Comment ≡ true → is_in span Dot ≡ true → is_in span Atom ≡ true → GoesOver atoms (IsPassed span)
over-atoms span blank comment dot goes = goes_over span blank comment dot (λ bytes is. go is)
  where
    go : {bytes : List ℕ} → IsWord atoms bytes → IsPassed span bytes
    go (atom {b = b} {bytes = bytes} h) = atoms-passed span goes (b ∷ bytes) h

pub over-literals : (span : Span) → is_in span Blank ≡ true → is_in span Comment ≡ true → is_in span Dot ≡ true → is_in span Literal ≡ true → GoesOver literals (IsPassed span)
over-literals span blank comment dot goes = goes_over span blank comment dot (λ bytes is. go is)
  where
    go : {bytes : List ℕ} → IsWord literals bytes → IsPassed span bytes
    go (literal between e) = closed-passed span (literal-closed between e) goes

padded-passed : {words : Words} {P : List ℕ → Type 0} → GoesOver words P → {bytes : List ℕ} → IsPadded words bytes → P bytes
padded-passed {words} {P} goes_over is =
    subst P (sym is.made)
    (goes_over.both is.before (is.word ++ is.after) (goes_over.white is.white_before) (goes_over.both is.word is.after (goes_over.word is.is_word) (goes_over.white is.white_after)))

dot_words-passed : {words : Words} {P : List ℕ → Type 0} → GoesOver words P → {bytes : List ℕ} → AreDotWords words bytes → P bytes
dot_words-passed {words} {P} goes_over dots_end = goes_over.none
dot_words-passed {words} {P} goes_over (dot_word {word = word} {rest = rest} is more e) =
    subst P (sym e) (goes_over.both (46 ∷ []) (word ++ rest) goes_over.dot (goes_over.both word rest (padded-passed goes_over is) (dot_words-passed goes_over more)))

pub dotted-passed : {words : Words} {P : List ℕ → Type 0} → GoesOver words P → {bytes : List ℕ} → AreDotted words bytes → P bytes
dotted-passed {words} {P} goes_over are = subst P (sym are.made) (goes_over.both are.first are.rest (padded-passed goes_over are.is_first) (dot_words-passed goes_over are.are_rest))

domain-passed : {P : List ℕ → Type 0} → GoesOver atoms P → GoesOver literals P → {bytes : List ℕ} → IsDomain bytes → P bytes
domain-passed one two (dotted are) = dotted-passed one are
domain-passed one two (in_brackets is) = padded-passed two is

-- an `@` and a domain, with whitespace before them
pub at_domain-passed : {P : List ℕ → Type 0} → GoesOver atoms P → GoesOver literals P → P (64 ∷ []) → (white domain : List ℕ) → IsWhite white → IsDomain domain → P (white ++ 64 ∷ domain)
at_domain-passed one two at white domain is_white is_domain =
    one.both white (64 ∷ domain) (one.white is_white) (one.both (64 ∷ []) domain at (domain-passed one two is_domain))

pub stop-passed : {P : List ℕ → Type 0} → GoesOver atoms P → GoesOver literals P → P (64 ∷ []) → {bytes : List ℕ} → IsStop bytes → P bytes
stop-passed {P} one two at (no_stop white) = one.white white
stop-passed {P} one two at (stop {white = white} {domain = domain} is_white is_domain e) = subst P (sym e) (at_domain-passed one two at white domain is_white is_domain)

stops-passed : {P : List ℕ → Type 0} → GoesOver atoms P → GoesOver literals P → P (64 ∷ []) → P (44 ∷ []) → {bytes : List ℕ} → AreStops bytes → P bytes
stops-passed {P} one two at comma (last_stop is) = stop-passed one two at is
stops-passed {P} one two at comma (next_stop {first = first} {rest = rest} is more e) =
    subst P (sym e) (one.both first (44 ∷ rest) (stop-passed one two at is) (one.both (44 ∷ []) rest comma (stops-passed one two at comma more)))

-- a route is stops
pub route-stops : {bytes : List ℕ} → IsRoute bytes → AreStops bytes
route-stops (one_stop {white = white} {domain = domain} is_white is_domain e) = last_stop (stop {white = white} {domain = domain} is_white is_domain e)
route-stops (more_stops {white = white} {domain = domain} {rest = rest} is_white is_domain more e) =
    next_stop {first = white ++ 64 ∷ domain} {rest = rest} (stop {white = white} {domain = domain} is_white is_domain refl) more
    (e ∙ sym (append_assoc white (64 ∷ domain) (44 ∷ rest)))

pub route-passed : {P : List ℕ → Type 0} → GoesOver atoms P → GoesOver literals P → P (64 ∷ []) → P (44 ∷ []) → {bytes : List ℕ} → IsRoute bytes → P bytes
route-passed one two at comma is = stops-passed one two at comma (route-stops is)

phrase_rest-passed : {P : List ℕ → Type 0} → GoesOver any_words P → {bytes : List ℕ} → IsPhraseRest bytes → P bytes
phrase_rest-passed {P} goes_over phrase_ends = goes_over.none
phrase_rest-passed {P} goes_over (phrase_white {white = white} {rest = rest} is more e) = subst P (sym e) (goes_over.both white rest (goes_over.white is) (phrase_rest-passed goes_over more))
phrase_rest-passed {P} goes_over (phrase_dot {rest = rest} more) = goes_over.both (46 ∷ []) rest goes_over.dot (phrase_rest-passed goes_over more)
phrase_rest-passed {P} goes_over (phrase_word {word = word} {rest = rest} is more e) = subst P (sym e) (goes_over.both word rest (goes_over.word (any_word is)) (phrase_rest-passed goes_over more))

pub phrase-passed : {P : List ℕ → Type 0} → GoesOver any_words P → {bytes : List ℕ} → IsPhrase bytes → P bytes
phrase-passed {P} goes_over is =
    subst P (sym is.made)
    (goes_over.both is.before (is.first ++ is.rest) (goes_over.white is.white_before) (goes_over.both is.first is.rest (goes_over.word (any_word is.is_first)) (phrase_rest-passed goes_over is.is_rest)))

pub name-passed : {P : List ℕ → Type 0} → GoesOver any_words P → {bytes : List ℕ} → IsName bytes → P bytes
name-passed goes_over (no_name white) = goes_over.white white
name-passed goes_over (phrase is) = phrase-passed goes_over is

-- ---- whitespace, wholly

pub white-whole : {bytes : List ℕ} → IsWhite bytes → is_all_white bytes ≡ true
unfolding is_all_white
white-whole {bytes} is = eq-eqb (run White bytes) (length bytes) (passed-whole White bytes (white-passed White refl refl is))

-- ---- within angle brackets

angles-append : {one two : List ℕ} → IsInAngles one → IsInAngles two → IsInAngles (one ++ two)
angles-append angles_end second = second
angles-append (angles_pair more) second = angles_pair (angles-append more second)
angles-append (angles_byte h more) second = angles_byte h (angles-append more second)
angles-append {one} {two} (angles_closed {closed = front} {rest = rest} shut more e) second =
    angles_closed {closed = front} {rest = rest ++ two} shut (angles-append more second) (ap (λ b. b ++ two) e ∙ append_assoc front rest two)

angles-closed : {bytes : List ℕ} → IsClosed bytes → IsInAngles bytes
angles-closed {bytes} is = angles_closed {closed = bytes} {rest = []} is angles_end (sym (append-nil bytes))

opens_not : (test : ℕ → Bool) (b : ℕ) → test b ≡ true → test 34 ≡ false → test 40 ≡ false → test 91 ≡ false → test 92 ≡ false → test 60 ≡ false → test 62 ≡ false → is_opener b ≡ false
opens_not test b h q p s e o c =
    rw (byte-other test b 34 h q, byte-other test b 40 h p, byte-other test b 91 h s, byte-other test b 92 h e, byte-other test b 60 h o, byte-other test b 62 h c) refl

white-angles : {bytes : List ℕ} → IsWhite bytes → IsInAngles bytes
white-angles white_ends = angles_end
white-angles (white_byte {b = b} h white) = angles_byte (opens_not is_white b h refl refl refl refl refl refl) (white-angles white)
white-angles (white_comment {inner = inner} {rest = rest} commented white e) =
    angles_closed {closed = 40 ∷ (inner ++ 41 ∷ [])} {rest = rest} (in_comment commented refl) (white-angles white) (e ∙ sym (delimited 40 41 inner rest))

atoms-angles : (bytes : List ℕ) → list_all is_atom_byte bytes ≡ true → IsInAngles bytes
atoms-angles [] h = angles_end
atoms-angles (b ∷ bytes) h =
    let both = and_parts (is_atom_byte b) (list_all is_atom_byte bytes) h in
    let n = no_atom_bytes in
    angles_byte (opens_not is_atom_byte b both.0 n.5 n.6 n.7 n.8 n.0 n.9) (atoms-angles bytes both.1)

word-angles : {words : Words} {bytes : List ℕ} → IsWord words bytes → IsInAngles bytes
word-angles (any_word (quoted_word between e)) = angles-closed (in_quotes between e)
word-angles (any_word (atom_word {b = b} {bytes = bytes} h)) = atoms-angles (b ∷ bytes) h
word-angles (atom {b = b} {bytes = bytes} h) = atoms-angles (b ∷ bytes) h
word-angles (literal between e) = angles-closed (in_literal between e)

over-angles : (words : Words) → GoesOver words IsInAngles
over-angles words = record {
  none = angles_end;
  both = λ one two first second. angles-append first second;
  white = λ is. white-angles is;
  dot = angles_byte refl angles_end;
  word = λ is. word-angles is;
}

may_be_route-angles : {bytes : List ℕ} → MayBeRoute bytes → IsInAngles bytes
may_be_route-angles no_route = angles_end
may_be_route-angles (route is e) =
    subst IsInAngles (sym e) (angles-append (route-passed (over-angles atoms) (over-angles literals) (angles_byte refl angles_end) (angles_byte refl angles_end) is) (angles_byte refl angles_end))

-- an address, perhaps after a route
pub spec-angles : {may_be_route local domain : List ℕ} → MayBeRoute may_be_route → AreDotted any_words local → IsDomain domain
    → IsInAngles (may_be_route ++ (local ++ 64 ∷ domain))
spec-angles is local domain = angles-append (may_be_route-angles is) (angles-append (dotted-passed (over-angles any_words) local) (angles_byte refl (domain-passed (over-angles atoms) (over-angles literals) domain)))
