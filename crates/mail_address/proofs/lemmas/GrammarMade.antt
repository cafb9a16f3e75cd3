-- What is read as a mailbox is one by the grammar.
use Rattle.std.proofs.Common.{◌≡◌, ◌≢◌, ◌⊎◌, inl, inr, ℕ, zero, suc, ◌+◌, ◌-◌, ◌<◌, ◌≤◌, Bool, true, false, cond, eqb, not, ◌&&◌, ◌||◌, List, [], ◌∷◌, ◌++◌, Some, None, Option, length, take, drop, refl, sym, ap, subst, ◌∙◌, arith, append_assoc, length-append, length-drop}
use Rattle.std.specs.Prelude.{min, nat_lt}
use Rattle.std.specs.List.{list_all, prefix_len}
use Rattle.std.proofs.lemmas.Bool.{and_from, and_parts, cases_lt, cond_both, eqb-false, eqb-true, false≢true, ltb-true, not-true, or_parts}
use Rattle.std.proofs.lemmas.Option.{same_Some}
use Rattle.std.proofs.lemmas.List.{append-nil, drop_at, take_all, take_at, take-append-drop}
use Rattle.std.proofs.Math.Seq.{take-add}
use Rattle.mail_codec.specs.Places.{begins}
use Rattle.mail_address.specs.declared.tokens.Kind.{Kind}
use Rattle.mail_address.specs.declared.tokens.Kind.TheVariants.{Blank, Comment, Atom, Quoted, Literal, Angle, Dot, Comma, Semicolon, Opening, Other}
use Rattle.mail_address.specs.declared.tokens.Span.{Span}
use Rattle.mail_address.specs.declared.tokens.Span.TheVariants.{Atoms, BeforeAt, BeforeColon, BeforeComma, BeforeSeparator, Literals, Phrase, White, Word}
use Rattle.mail_address.specs.declared.tokens.Token.{Token}
use Rattle.mail_address.specs.Addresses.{is_separator}
use Rattle.mail_address.specs.Enclosed.{IsBetween, no_bytes, quoted_pair, plain_byte, IsCommented, comment_ends, comment_pair, comment_byte, comment_within}
use Rattle.mail_address.specs.Grammar.{address, AreDotted, AreDotWords, AreStops, atom, any_word, any_words, atoms, dot_word, dots_end, dotted, in_brackets, IsDomain, IsMailbox, IsName, IsPadded, IsPhrase, IsPhraseRest, IsRoute, IsStop, IsWhite, IsWord, last_stop, literal, literals, MayBeRoute, more_stops, named_address, next_stop, no_name, no_route, no_stop, one_stop, phrase, phrase_dot, phrase_ends, phrase_white, phrase_word, route, stop, white_byte, white_comment, white_ends, Words}
use Rattle.mail_address.specs.Mailbox.{are_clean, after_route, after_white, dot_word_len, is_domain, is_dotted, is_enclosed, is_local_part, is_phrase, is_route, is_stop, is_word, mailbox_of, named_mailbox, Parts, spec_mailbox, stop_len, within_ends, word_len}
use Rattle.mail_address.specs.Names.{IsNameWord, atom_word, quoted_word}
use Rattle.mail_address.specs.Tokens.{angle_place, angle_token, closes_comment, comment_place, comment_token, depth_after, far, far_within, front_token, is_all_white, is_atom_byte, is_in, is_white, literal_token, plain_token, quoted_token, run, single_kind, step, unquoted_place}
use Rattle.mail_address.proofs.lemmas.Addresses.{begins-within}
use Rattle.mail_address.proofs.lemmas.Bounds.{far-over, step-within, token-fits}
use Rattle.mail_address.proofs.lemmas.Enclosed.{delimited, delimited-length, step-token}
use Rattle.mail_address.proofs.lemmas.Tokens.{far-more, far-nothing}
use Rattle.mail_address.proofs.lemmas.Passed.{comma-front, passed-up_to, run-stops, span_of, white-passed}

-- ---- cuts

-- up to a byte at that offset, with it
cut-at : (last n : ℕ) (bytes : List ℕ) → begins (λ b. eqb b last) (drop n bytes) ≡ true → take (suc n) bytes ≡ take n bytes ++ last ∷ []
cut-at last zero [] h = absurd (false≢true h)
cut-at last zero (b ∷ bytes) h = ap (λ (c : ℕ). c ∷ []) (eqb-true b last h)
cut-at last (suc n) [] h = absurd (false≢true h)
cut-at last (suc n) (b ∷ bytes) h = ap (λ (r : List ℕ). b ∷ r) (cut-at last n bytes h)

-- such bytes are those before that byte, it, and those after it
pub cut-around : (last n : ℕ) (bytes : List ℕ) → begins (λ b. eqb b last) (drop n bytes) ≡ true → bytes ≡ take n bytes ++ last ∷ drop (suc n) bytes
cut-around last n bytes h =
    sym (take-append-drop (suc n) bytes) ∙ ap (λ b. b ++ drop (suc n) bytes) (cut-at last n bytes h)
    ∙ append_assoc (take n bytes) (last ∷ []) (drop (suc n) bytes)

-- the bytes up to an offset, with a byte there and some after it
pub cut-more : (last n k : ℕ) (bytes : List ℕ) → begins (λ b. eqb b last) (drop n bytes) ≡ true
    → take (suc n + k) bytes ≡ take n bytes ++ last ∷ take k (drop (suc n) bytes)
cut-more last n k bytes h =
    take-add (suc n) k bytes ∙ ap (λ t. t ++ take k (drop (suc n) bytes)) (cut-at last n bytes h) ∙ append_assoc (take n bytes) (last ∷ []) (take k (drop (suc n) bytes))

-- the bytes between two delimiters, with them
pub cut-closed : (first last n : ℕ) (bytes : List ℕ) → begins (λ b. eqb b last) (drop n bytes) ≡ true → take (n + 2) (first ∷ bytes) ≡ first ∷ (take n bytes ++ last ∷ [])
cut-closed first last n bytes h =
    let two : n + 2 ≡ suc (suc n) = omega arith in
    ap (λ k. take k (first ∷ bytes)) two ∙ ap (λ (r : List ℕ). first ∷ r) (cut-at last n bytes h)

-- ---- the bytes between two delimiters

-- the bytes before a delimiter; the first of them may be quoted
abbrev BetweenFrom : ℕ → ℕ → Bool → List ℕ → Type 0
BetweenFrom one other false text = IsBetween one other text
BetweenFrom one other true text = (c : ℕ) × (rest : List ℕ) × (text ≡ c ∷ rest) × IsBetween one other rest

between-made : (one other : ℕ) (quoted : Bool) (bytes : List ℕ) → unquoted_place one other quoted bytes < length bytes
    → BetweenFrom one other quoted (take (unquoted_place one other quoted bytes) bytes)
between-made one other quoted [] low = absurd (omega (arith, low))
between-made one other true (b ∷ rest) low = (b, take (unquoted_place one other false rest) rest, refl, between-made one other false rest (omega (arith, low)))
between-made one other false (b ∷ rest) low =
    go (eqb b one || eqb b other) refl (eqb b 92) refl (between-made one other true rest) (between-made one other false rest) low
  where
    go : (t : Bool) → (eqb b one || eqb b other) ≡ t → (s : Bool) → eqb b 92 ≡ s
        → (unquoted_place one other true rest < length rest → BetweenFrom one other true (take (unquoted_place one other true rest) rest))
        → (unquoted_place one other false rest < length rest → IsBetween one other (take (unquoted_place one other false rest) rest))
        → cond t 0 (suc (unquoted_place one other s rest)) < suc (length rest)
        → IsBetween one other (take (cond t 0 (suc (unquoted_place one other s rest))) (b ∷ rest))
    go true e s f pair plain low = no_bytes
    go false e true f pair plain low =
        let q = pair (omega (arith, low)) in
        subst (λ c. IsBetween one other (c ∷ take (unquoted_place one other true rest) rest)) (sym (eqb-true b 92 f))
        (subst (λ r. IsBetween one other (92 ∷ r)) (sym q.2) (quoted_pair q.3))
    go false e false f pair plain low =
        let both = or_parts (eqb b one) (eqb b other) e in
        plain_byte (eqb-false b one both.0) (eqb-false b other both.1) (eqb-false b 92 f) (plain (omega (arith, low)))

-- a search that ends at the first byte, or else in the rest
found-or_later : (ends : Bool) (test : ℕ → Bool) (b : ℕ) (rest : List ℕ) {n : ℕ} → (ends ≡ true → test b ≡ true) → (n < length rest → begins test (drop n rest) ≡ true)
    → cond ends 0 (suc n) < suc (length rest) → begins test (drop (cond ends 0 (suc n)) (b ∷ rest)) ≡ true
found-or_later true test b rest here later low = here refl
found-or_later false test b rest here later low = later (omega (arith, low))

or-same : (t : Bool) → (t || t) ≡ true → t ≡ true
or-same true h = refl
or-same false h = h

between-delimiter : (one : ℕ) (quoted : Bool) (bytes : List ℕ) → unquoted_place one one quoted bytes < length bytes
    → begins (λ b. eqb b one) (drop (unquoted_place one one quoted bytes) bytes) ≡ true
between-delimiter one quoted [] low = absurd (omega (arith, low))
between-delimiter one quoted (b ∷ rest) low =
    found-or_later (not quoted && (eqb b one || eqb b one)) (λ c. eqb c one) b rest (λ e. or-same (eqb b one) (and_parts (not quoted) (eqb b one || eqb b one) e).1)
    (between-delimiter one (not quoted && eqb b 92) rest) low

-- ---- comments

-- bytes in which `depth` comments are closed, and then those of one more
data ClosesTo : ℕ → List ℕ → Type 0 where
  closes_here : {text : List ℕ} → IsCommented text → ClosesTo zero text
  closes_later : {depth : ℕ} {inner rest text : List ℕ} → IsCommented inner → ClosesTo depth rest → text ≡ inner ++ 41 ∷ rest → ClosesTo (suc depth) text

closes-front : (front : List ℕ) → ((rest : List ℕ) → IsCommented rest → IsCommented (front ++ rest)) → {depth : ℕ} {text : List ℕ} → ClosesTo depth text → ClosesTo depth (front ++ text)
closes-front front more (closes_here {text = text} is) = closes_here (more text is)
closes-front front more (closes_later {inner = inner} {rest = rest} is later e) =
    closes_later {inner = front ++ inner} {rest = rest} (more inner is) later (ap (λ t. front ++ t) e ∙ sym (append_assoc front inner (41 ∷ rest)))

closes-opened : {depth : ℕ} {text : List ℕ} → ClosesTo (suc depth) text → ClosesTo depth (40 ∷ text)
closes-opened {depth} {text} (closes_later {inner = inner} {rest = rest} is later e) =
    subst (ClosesTo depth) (delimited 40 41 inner rest ∙ ap (λ (t : List ℕ). 40 ∷ t) (sym e))
    (closes-front (40 ∷ (inner ++ 41 ∷ [])) (λ more commented. comment_within {inner = inner} {rest = more} is commented (delimited 40 41 inner more)) later)

closes-zero : {text : List ℕ} → ClosesTo zero text → IsCommented text
closes-zero (closes_here is) = is

abbrev CommentFrom : Bool → ℕ → List ℕ → Type 0
CommentFrom false depth text = ClosesTo depth text
CommentFrom true depth text = (c : ℕ) × (rest : List ℕ) × (text ≡ c ∷ rest) × ClosesTo depth rest

comment-made : (quoted : Bool) (depth : ℕ) (bytes : List ℕ) → comment_place quoted depth bytes < length bytes → CommentFrom quoted depth (take (comment_place quoted depth bytes) bytes)
comment-made quoted depth [] low = absurd (omega (arith, low))
comment-made true depth (b ∷ rest) low = (b, take (comment_place false depth rest) rest, refl, comment-made false depth rest (omega (arith, low)))
comment-made false depth (b ∷ rest) low =
    go (eqb b 41) refl (eqb depth 0) refl (eqb b 92) refl (eqb b 40) refl (λ quoted d. comment-made quoted d rest) low
  where
    go : (close : Bool) → eqb b 41 ≡ close → (none : Bool) → eqb depth 0 ≡ none → (slash : Bool) → eqb b 92 ≡ slash → (opens : Bool) → eqb b 40 ≡ opens
        → ((quoted : Bool) (d : ℕ) → comment_place quoted d rest < length rest → CommentFrom quoted d (take (comment_place quoted d rest) rest))
        → cond (close && none) 0 (suc (comment_place slash (cond opens (suc depth) (cond close (depth - 1) depth)) rest)) < suc (length rest)
        → ClosesTo depth (take (cond (close && none) 0 (suc (comment_place slash (cond opens (suc depth) (cond close (depth - 1) depth)) rest))) (b ∷ rest))
    go true ec true en slash es opens eo later low = subst (λ d. ClosesTo d []) (sym (eqb-true depth 0 en)) (closes_here comment_ends)
    go true ec false en true es opens eo later low = let x = eqb-true b 41 ec in let y = eqb-true b 92 es in absurd (omega (arith, x, y))
    go true ec false en false es true eo later low = let x = eqb-true b 41 ec in let y = eqb-true b 40 eo in absurd (omega (arith, x, y))
    go true ec false en false es false eo later low =
        let some = eqb-false depth 0 en in
        let same : suc (depth - 1) ≡ depth = omega (arith, some) in
        let text : List ℕ = take (comment_place false (depth - 1) rest) rest in
        subst (λ c. ClosesTo depth (c ∷ text)) (sym (eqb-true b 41 ec))
        (subst (λ d. ClosesTo d (41 ∷ text)) same (closes_later {inner = []} {rest = text} comment_ends (later false (depth - 1) (omega (arith, low))) refl))
    go false ec none en true es true eo later low = let x = eqb-true b 92 es in let y = eqb-true b 40 eo in absurd (omega (arith, x, y))
    go false ec none en true es false eo later low =
        let q = later true depth (omega (arith, low)) in
        subst (λ c. ClosesTo depth (c ∷ take (comment_place true depth rest) rest)) (sym (eqb-true b 92 es))
        (subst (λ r. ClosesTo depth (92 ∷ r)) (sym q.2) (closes-front (92 ∷ q.0 ∷ []) (λ more is. comment_pair is) q.3))
    go false ec none en false es true eo later low =
        subst (λ c. ClosesTo depth (c ∷ take (comment_place false (suc depth) rest) rest)) (sym (eqb-true b 40 eo))
        (closes-opened (later false (suc depth) (omega (arith, low))))
    go false ec none en false es false eo later low =
        closes-front (b ∷ []) (λ more is. comment_byte (eqb-false b 40 eo) (eqb-false b 41 ec) (eqb-false b 92 es) is) (later false depth (omega (arith, low)))

comment-delimiter : (quoted : Bool) (depth : ℕ) (bytes : List ℕ) → comment_place quoted depth bytes < length bytes → begins (λ b. eqb b 41) (drop (comment_place quoted depth bytes) bytes) ≡ true
comment-delimiter quoted depth [] low = absurd (omega (arith, low))
comment-delimiter quoted depth (b ∷ rest) low =
    found-or_later (closes_comment quoted depth b) (λ c. eqb c 41) b rest
    (λ e. (and_parts (eqb b 41) (eqb depth 0) (and_parts (not quoted) (eqb b 41 && eqb depth 0) e).1).0)
    (comment-delimiter (not quoted && eqb b 92) (depth_after quoted depth b) rest) low

-- ---- tokens

-- what the bytes of a token are
abbrev pub Meets : Kind → List ℕ → Type 0
Meets Blank text = IsWhite text
Meets Comment text = IsWhite text
Meets Atom text = IsWord atoms text
Meets Quoted text = IsNameWord text
Meets Literal text = IsWord literals text
Meets Angle text = (inner : List ℕ) × (text ≡ 60 ∷ (inner ++ 62 ∷ []))
Meets Dot text = text ≡ 46 ∷ []
Meets Comma text = text ≡ 44 ∷ []
Meets Semicolon text = text ≡ 59 ∷ []
Meets _ text = Unit {0}

-- a token at the front of these bytes is what its kind says
abbrev IsMet : List ℕ → Token → Type 0
IsMet bytes token = Meets token.kind (take token.len bytes)

-- a token of that kind and length
abbrev tok : Kind → ℕ → Token
tok k n = record { kind = k; len = n }

-- a property of the bytes at the front that pass a test
pub prefix-has : (P : List ℕ → Type 0) (test : ℕ → Bool) → P [] → ((b : ℕ) (rest : List ℕ) → test b ≡ true → P rest → P (b ∷ rest)) → (bytes : List ℕ)
    → P (take (prefix_len test bytes) bytes)
prefix-has P test none more [] = none
prefix-has P test none more (b ∷ bytes) =
    cond_both (test b) (1 + prefix_len test bytes) 0 (λ n. P (take n (b ∷ bytes)))
    (λ e. let one : suc (prefix_len test bytes) ≡ 1 + prefix_len test bytes = omega arith in
    subst (λ n. P (take n (b ∷ bytes))) one (more b (take (prefix_len test bytes) bytes) e (prefix-has P test none more bytes))) (λ e. none)

comment-meets : (rest : List ℕ) → IsMet (40 ∷ rest) (comment_token rest)
unfolding comment_token
comment-meets rest =
    let n : ℕ = comment_place false 0 rest in
    cond_both (nat_lt n (length rest)) (tok Comment (n + 2)) (tok Other (n + 1)) (IsMet (40 ∷ rest))
    (λ e. let low = ltb-true n (length rest) e in
    white_comment {inner = take n rest} {rest = []} (closes-zero (comment-made false 0 rest low)) white_ends (cut-closed 40 41 n rest (comment-delimiter false 0 rest low)))
    (λ e. tt)

quoted-meets : (rest : List ℕ) → IsMet (34 ∷ rest) (quoted_token rest)
unfolding quoted_token
quoted-meets rest =
    let n : ℕ = unquoted_place 34 34 false rest in
    cond_both (nat_lt n (length rest)) (tok Quoted (n + 2)) (tok Other 1) (IsMet (34 ∷ rest))
    (λ e. let low = ltb-true n (length rest) e in
    quoted_word {inner = take n rest} (between-made 34 34 false rest low) (cut-closed 34 34 n rest (between-delimiter 34 false rest low)))
    (λ e. tt)

literal-meets : (rest : List ℕ) → IsMet (91 ∷ rest) (literal_token rest)
unfolding literal_token
literal-meets rest =
    let n : ℕ = unquoted_place 91 93 false rest in
    cond_both (begins (λ b. eqb b 93) (drop n rest)) (tok Literal (n + 2)) (tok Other 1) (IsMet (91 ∷ rest))
    (λ e. literal {inner = take n rest} (between-made 91 93 false rest (begins-within (λ b. eqb b 93) n rest e)) (cut-closed 91 93 n rest e)) (λ e. tt)

angle-meets : (rest : List ℕ) → IsMet (60 ∷ rest) (angle_token rest)
unfolding angle_token
angle-meets rest =
    let n : ℕ = angle_place rest in
    cond_both (begins (λ b. eqb b 62) (drop n rest)) (tok Angle (n + 2)) (tok Opening 1) (IsMet (60 ∷ rest)) (λ e. (take n rest, cut-closed 60 62 n rest e)) (λ e. tt)

single-meets : (b : ℕ) → Meets (single_kind b) (b ∷ [])
unfolding single_kind
single-meets b =
    cond_both (eqb b 46) _ _ (λ k. Meets k (b ∷ [])) (λ e. ap (λ (x : ℕ). x ∷ []) (eqb-true b 46 e))
    (λ e. cond_both (eqb b 64) _ _ (λ k. Meets k (b ∷ [])) (λ e. tt)
    (λ e. cond_both (eqb b 44) _ _ (λ k. Meets k (b ∷ [])) (λ e. ap (λ (x : ℕ). x ∷ []) (eqb-true b 44 e))
    (λ e. cond_both (eqb b 59) _ _ (λ k. Meets k (b ∷ [])) (λ e. ap (λ (x : ℕ). x ∷ []) (eqb-true b 59 e))
    (λ e. cond_both (eqb b 58) _ _ (λ k. Meets k (b ∷ [])) (λ e. tt)
    (λ e. cond_both (eqb b 60) _ _ (λ k. Meets k (b ∷ [])) (λ e. tt) (λ e. cond_both (eqb b 62) _ _ (λ k. Meets k (b ∷ [])) (λ e. tt) (λ e. tt)))))))

plain-meets : (b : ℕ) (rest : List ℕ) → IsMet (b ∷ rest) (plain_token (b ∷ rest))
plain-meets b rest =
    cond_both (is_white b) _ _ (IsMet (b ∷ rest))
    (λ e. let one : suc (prefix_len is_white rest) ≡ 1 + prefix_len is_white rest = omega arith in
    subst (λ n. IsWhite (take n (b ∷ rest))) one (white_byte e (prefix-has IsWhite is_white white_ends (λ b rest e more. white_byte e more) rest)))
    (λ e. cond_both (is_atom_byte b) _ _ (IsMet (b ∷ rest))
    (λ e. let one : suc (prefix_len is_atom_byte rest) ≡ 1 + prefix_len is_atom_byte rest = omega arith in
    subst (λ n. IsWord atoms (take n (b ∷ rest))) one
    (atom (and_from _ _ e (prefix-has (λ text. list_all is_atom_byte text ≡ true) is_atom_byte refl (λ b rest e more. and_from _ _ e more) rest))))
    (λ e. cond_both (eqb b 40) _ _ (IsMet (b ∷ rest)) (λ e. subst (λ x. IsMet (x ∷ rest) (comment_token rest)) (sym (eqb-true b 40 e)) (comment-meets rest))
    (λ e. cond_both (eqb b 34) _ _ (IsMet (b ∷ rest)) (λ e. subst (λ x. IsMet (x ∷ rest) (quoted_token rest)) (sym (eqb-true b 34 e)) (quoted-meets rest))
    (λ e. cond_both (eqb b 91) _ _ (IsMet (b ∷ rest)) (λ e. subst (λ x. IsMet (x ∷ rest) (literal_token rest)) (sym (eqb-true b 91 e)) (literal-meets rest))
    (λ e. cond_both (eqb b 92) _ _ (IsMet (b ∷ rest)) (λ e. tt) (λ e. single-meets b))))))

pub front-meets : (bytes : List ℕ) → IsMet bytes (front_token bytes)
unfolding front_token
front-meets [] = tt
front-meets (b ∷ rest) =
    cond_both (eqb b 60) (angle_token rest) (plain_token (b ∷ rest)) (IsMet (b ∷ rest))
    (λ e. subst (λ x. IsMet (x ∷ rest) (angle_token rest)) (sym (eqb-true b 60 e)) (angle-meets rest)) (λ e. plain-meets b rest)

-- ---- steps and runs

-- a length under a test, if it is not 0
under_test : (t : Bool) (n : ℕ) → cond t n 0 ≢ 0 → (t ≡ true) × (cond t n 0 ≡ n)
under_test true n some = (refl, refl)
under_test false n some = absurd (some refl)

-- a step that takes bytes takes a token of the span
step-takes : (span : Span) (bytes : List ℕ) → step span bytes ≢ 0 → (is_in span (front_token bytes).kind ≡ true) × (step span bytes ≡ (front_token bytes).len)
unfolding step
step-takes span bytes some = under_test (is_in span (front_token bytes).kind) (front_token bytes).len some

-- the bytes that it takes are such a token
step-meets : (span : Span) (P : List ℕ → Type 0) → ((kind : Kind) (text : List ℕ) → is_in span kind ≡ true → Meets kind text → P text)
    → (bytes : List ℕ) → step span bytes ≢ 0 → P (take (step span bytes) bytes)
step-meets span P meets bytes some =
    let token = step-takes span bytes some in
    subst (λ n. P (take n bytes)) (sym token.1) (meets (front_token bytes).kind (take (front_token bytes).len bytes) token.0 (front-meets bytes))

-- what a step is repeated over, in pieces
module _ (pass : List ℕ → ℕ) (P : List ℕ → Type 0) (none : P [])
    (more : (bytes : List ℕ) (k : ℕ) → pass bytes ≢ 0 → P (take k (drop (pass bytes) bytes)) → P (take (pass bytes) bytes ++ take k (drop (pass bytes) bytes))) where
  far_within-made : (most : ℕ) (bytes : List ℕ) → P (take (far_within pass most bytes) bytes)
  far_within-made zero bytes = none
  far_within-made (suc most) [] = none
  far_within-made (suc most) (b ∷ bytes) =
      let all : List ℕ = b ∷ bytes in
      let left : ℕ = far_within pass most (drop (pass all) all) in
      let later = far_within-made most (drop (pass all) all) in
      cond_both (eqb (pass all) 0) 0 (pass all + left) (λ n. P (take n all)) (λ e. none)
      (λ e. subst P (sym (take-add (pass all) left all)) (more all left (eqb-false (pass all) 0 e) later))

  far-made : (bytes : List ℕ) → P (take (far pass bytes) bytes)
  unfolding far
  far-made bytes = far_within-made (length bytes) bytes

  -- all bytes, if it is repeated over them
  far-whole : (bytes : List ℕ) → far pass bytes ≡ length bytes → P bytes
  far-whole bytes all = subst P (take_all (far pass bytes) bytes (omega (arith, all))) (far-made bytes)

-- a run that ends before the bytes do is followed by a token that it may not have
module _ (span : Span) (test : ℕ → Bool) (meets : (kind : Kind) (text : List ℕ) → is_in span kind ≡ false → Meets kind text → begins test text ≡ true) where
  stop-first : (bytes : List ℕ) → 0 < length bytes → step span bytes ≡ 0 → begins test bytes ≡ true
  unfolding step
  stop-first [] low none = absurd (omega (arith, low))
  stop-first (b ∷ rest) low none = go (is_in span (front_token (b ∷ rest)).kind) refl none
    where
      some : 0 < (front_token (b ∷ rest)).len
      some = (token-fits b rest).0

      first : (n : ℕ) → 0 < n → begins test (take n (b ∷ rest)) ≡ true → test b ≡ true
      first zero low e = absurd (omega (arith, low))
      first (suc n) low e = e

      go : (t : Bool) → is_in span (front_token (b ∷ rest)).kind ≡ t → cond t (front_token (b ∷ rest)).len 0 ≡ 0 → test b ≡ true
      go true e none = let low = some in absurd (omega (arith, low, none))
      go false e none = first (front_token (b ∷ rest)).len some (meets (front_token (b ∷ rest)).kind _ e (front-meets (b ∷ rest)))

  stop-after : (bytes : List ℕ) → run span bytes < length bytes → begins test (drop (run span bytes) bytes) ≡ true
  stop-after bytes low =
      let len = length-drop (run span bytes) bytes in
      stop-first (drop (run span bytes) bytes) (omega (arith, low, len)) (far-over (step span) (step-within span) (length bytes) bytes (omega arith) low)

separator-meets : (kind : Kind) (text : List ℕ) → is_in BeforeSeparator kind ≡ false → Meets kind text → begins is_separator text ≡ true
separator-meets Comma text h m = ap (begins is_separator) m
separator-meets Semicolon text h m = ap (begins is_separator) m
separator-meets _ text h m = absurd (false≢true (sym h))

-- a run up to a separator is followed by one, or by nothing
pub run-separates : (bytes : List ℕ) → run BeforeSeparator bytes < length bytes → begins is_separator (drop (run BeforeSeparator bytes) bytes) ≡ true
run-separates = stop-after BeforeSeparator is_separator separator-meets

-- ---- folding whitespace and comments

white-append : {one two : List ℕ} → IsWhite one → IsWhite two → IsWhite (one ++ two)
white-append white_ends second = second
white-append (white_byte h more) second = white_byte h (white-append more second)
white-append {one} {two} (white_comment {inner = inner} {rest = rest} commented more e) second =
    white_comment {inner = inner} {rest = rest ++ two} commented (white-append more second)
    (ap (λ b. b ++ two) e ∙ ap (λ (b : List ℕ). 40 ∷ b) (append_assoc inner (41 ∷ rest) two))

white-meets : (kind : Kind) (text : List ℕ) → is_in White kind ≡ true → Meets kind text → IsWhite text
white-meets Blank text h m = m
white-meets Comment text h m = m
white-meets _ text h m = absurd (false≢true h)

pub white-made : (text : List ℕ) → IsWhite (take (run White text) text)
white-made text = far-made (step White) IsWhite white_ends (λ bytes k some later. white-append (step-meets White IsWhite white-meets bytes some) later) text

pub all_white-made : (text : List ℕ) → is_all_white text ≡ true → IsWhite text
unfolding is_all_white
all_white-made text h =
    let all = eqb-true (run White text) (length text) h in
    subst IsWhite (take_all (run White text) text (omega (arith, all))) (white-made text)

-- ---- words

atom-name : {text : List ℕ} → IsWord atoms text → IsNameWord text
atom-name (atom h) = atom_word h

pub word-meets : (words : Words) (kind : Kind) (text : List ℕ) → is_in (span_of words) kind ≡ true → Meets kind text → IsWord words text
word-meets any_words Atom text h m = any_word (atom-name m)
word-meets any_words Quoted text h m = any_word m
word-meets any_words _ text h m = absurd (false≢true h)
word-meets atoms Atom text h m = m
word-meets atoms _ text h m = absurd (false≢true h)
word-meets literals Literal text h m = m
word-meets literals _ text h m = absurd (false≢true h)

module _ (words : Words) (text : List ℕ) where
  abbrev w : ℕ
  w = run White text

  abbrev l : ℕ
  l = step (span_of words) (drop w text)

  abbrev a : ℕ
  a = run White (drop (w + l) text)

  word_len-made : word_len (span_of words) text ≢ 0 → IsPadded words (take (word_len (span_of words) text) text)
  unfolding word_len
  word_len-made =
      cond_both (eqb l 0) 0 (w + l + a) (λ n. n ≢ 0 → IsPadded words (take n text)) (λ e some. absurd (some refl)) (λ e some. record {
        before = take w text;
        word = take l (drop w text);
        after = take a (drop (w + l) text);
        white_before = white-made text;
        is_word = step-meets (span_of words) (IsWord words) (word-meets words) (drop w text) (eqb-false l 0 e);
        white_after = white-made (drop (w + l) text);
        made =
            take-add (w + l) a text ∙ ap (λ b. b ++ take a (drop (w + l) text)) (take-add w l text)
            ∙ append_assoc (take w text) (take l (drop w text)) (take a (drop (w + l) text));
      })

-- ---- words with dots

record DotWord (span : Span) (bytes : List ℕ) : Type 0 where
  pub rest : List ℕ
  pub cut : bytes ≡ 46 ∷ rest
  pub some : word_len span rest ≢ 0
  pub len : dot_word_len span bytes ≡ suc (word_len span rest)

dot_word-is : (span : Span) (bytes : List ℕ) → dot_word_len span bytes ≢ 0 → DotWord span bytes
unfolding dot_word_len
dot_word-is span [] some = absurd (some refl)
dot_word-is span (b ∷ rest) some =
    let is = under_test (eqb b 46 && not (eqb (word_len span rest) 0)) (1 + word_len span rest) some in
    let both = and_parts (eqb b 46) (not (eqb (word_len span rest) 0)) is.0 in
    record {
      rest = rest;
      cut = ap (λ (x : ℕ). x ∷ rest) (eqb-true b 46 both.0);
      some = eqb-false _ 0 (not-true (eqb (word_len span rest) 0) both.1);
      len = is.1 ∙ omega arith;
    }

dot_words-more : (words : Words) (bytes : List ℕ) (k : ℕ) → dot_word_len (span_of words) bytes ≢ 0 → AreDotWords words (take k (drop (dot_word_len (span_of words) bytes) bytes))
    → AreDotWords words (take (dot_word_len (span_of words) bytes) bytes ++ take k (drop (dot_word_len (span_of words) bytes) bytes))
dot_words-more words bytes k some later =
    let is = dot_word-is (span_of words) bytes some in
    let len : ℕ = word_len (span_of words) is.rest in
    let cut : take (dot_word_len (span_of words) bytes) bytes ≡ 46 ∷ take len is.rest = ap (λ n. take n bytes) is.len ∙ ap (take (suc len)) is.cut in
    dot_word {word = take len is.rest} {rest = take k (drop (dot_word_len (span_of words) bytes) bytes)} (word_len-made words is.rest is.some) later
    (ap (λ b. b ++ take k (drop (dot_word_len (span_of words) bytes) bytes)) cut)

pub dotted-made : (words : Words) (text : List ℕ) → is_dotted (span_of words) text ≡ true → AreDotted words text
unfolding is_dotted
dotted-made words text h =
    let n : ℕ = word_len (span_of words) text in
    let both = and_parts (not (eqb n 0)) (eqb (n + far (dot_word_len (span_of words)) (drop n text)) (length text)) h in
    let all = eqb-true (n + far (dot_word_len (span_of words)) (drop n text)) (length text) both.1 in
    let len = length-drop n text in
    record {
      first = take n text;
      rest = drop n text;
      is_first = word_len-made words text (eqb-false n 0 (not-true (eqb n 0) both.0));
      are_rest = far-whole (dot_word_len (span_of words)) (AreDotWords words) dots_end (dot_words-more words) (drop n text) (omega (arith, all, len));
      made = sym (take-append-drop n text);
    }

word-made : (words : Words) (text : List ℕ) → is_word (span_of words) text ≡ true → IsPadded words text
unfolding is_word
word-made words text h =
    let n : ℕ = word_len (span_of words) text in
    let both = and_parts (not (eqb n 0)) (eqb n (length text)) h in
    let all = eqb-true n (length text) both.1 in
    subst (IsPadded words) (take_all n text (omega (arith, all))) (word_len-made words text (eqb-false n 0 (not-true (eqb n 0) both.0)))

pub either-made : {P : Type 0} (t u : Bool) → (t ≡ true → P) → (u ≡ true → P) → (t || u) ≡ true → P
either-made true u one other h = one refl
either-made false u one other h = other h

pub domain-made : (text : List ℕ) → is_domain text ≡ true → IsDomain text
unfolding is_domain
domain-made text h =
    either-made (is_dotted Atoms text) (is_word Literals text) (λ e. dotted (dotted-made atoms text e)) (λ e. in_brackets (word-made literals text e)) h

-- ---- phrases

phrase-append : (kind : Kind) (text : List ℕ) {rest : List ℕ} → is_in Phrase kind ≡ true → Meets kind text → IsPhraseRest rest → IsPhraseRest (text ++ rest)
phrase-append Blank text {rest} h m more = phrase_white {white = text} {rest = rest} m more refl
phrase-append Comment text {rest} h m more = phrase_white {white = text} {rest = rest} m more refl
phrase-append Atom text {rest} h m more = phrase_word {word = text} {rest = rest} (atom-name m) more refl
phrase-append Quoted text {rest} h m more = phrase_word {word = text} {rest = rest} m more refl
phrase-append Dot text {rest} h m more = subst (λ b. IsPhraseRest (b ++ rest)) (sym m) (phrase_dot more)
phrase-append _ text h m more = absurd (false≢true h)

phrase_rest-made : (text : List ℕ) → run Phrase text ≡ length text → IsPhraseRest text
phrase_rest-made text all = far-whole (step Phrase) IsPhraseRest phrase_ends more text all
  where
    more : (bytes : List ℕ) (k : ℕ) → step Phrase bytes ≢ 0 → IsPhraseRest (take k (drop (step Phrase bytes) bytes))
        → IsPhraseRest (take (step Phrase bytes) bytes ++ take k (drop (step Phrase bytes) bytes))
    more bytes k some later =
        step-meets Phrase (λ front. IsPhraseRest (front ++ take k (drop (step Phrase bytes) bytes))) (λ kind text goes meets. phrase-append kind text goes meets later) bytes some

word-in_phrase : (kind : Kind) → is_in Word kind ≡ true → is_in Phrase kind ≡ true
word-in_phrase Atom h = refl
word-in_phrase Quoted h = refl
word-in_phrase _ h = absurd (false≢true h)

name_word-is : {text : List ℕ} → IsWord any_words text → IsNameWord text
name_word-is (any_word is) = is

-- the first word of a phrase, and what follows it
record PhraseCut (bytes : List ℕ) : Type 0 where
  pub first : List ℕ
  pub rest : List ℕ
  pub is_first : IsNameWord first
  pub is_rest : IsPhraseRest rest
  pub made : bytes ≡ first ++ rest

phrase-first : (bytes : List ℕ) → is_in Word (front_token bytes).kind ≡ true → run Phrase bytes ≡ length bytes → PhraseCut bytes
unfolding front_token
phrase-first [] h all = absurd (false≢true h)
phrase-first (b ∷ more) h all =
    let bytes : List ℕ = b ∷ more in
    let low = (token-fits b more).0 in
    let len = step-token Phrase bytes (front_token bytes).len (front_token bytes).kind refl (word-in_phrase (front_token bytes).kind h) in
    let passed = far-more (step Phrase) bytes (omega arith) (λ none. absurd (omega (arith, none, len, low))) in
    let fits = step-within Phrase bytes in
    let cut = length-drop (step Phrase bytes) bytes in
    record {
      first = take (step Phrase bytes) bytes;
      rest = drop (step Phrase bytes) bytes;
      is_first = subst (λ n. IsNameWord (take n bytes)) (sym len) (name_word-is (word-meets any_words (front_token bytes).kind (take (front_token bytes).len bytes) h (front-meets bytes)));
      is_rest = phrase_rest-made (drop (step Phrase bytes) bytes) (omega (arith, passed, fits, cut, all));
      made = sym (take-append-drop (step Phrase bytes) bytes);
    }

pub phrase-made : (text : List ℕ) → is_phrase text ≡ true → IsPhrase text
unfolding is_phrase after_white
phrase-made text h =
    let both = and_parts (is_in Word (front_token (drop (run White text) text)).kind) (eqb (run Phrase text) (length text)) h in
    let all = eqb-true (run Phrase text) (length text) both.1 in
    let white = white-passed Phrase refl refl (white-made text) (drop (run White text) text) in
    let whole = take-append-drop (run White text) text in
    let same = ap (run Phrase) whole in
    let len : length (take (run White text) text) + length (drop (run White text) text) ≡ length text =
    sym (length-append (take (run White text) text) (drop (run White text) text)) ∙ ap length whole in
    let cut = phrase-first (drop (run White text) text) both.0 (omega (arith, all, white, same, len)) in
    record {
      before = take (run White text) text;
      first = cut.first;
      rest = cut.rest;
      white_before = white-made text;
      is_first = cut.is_first;
      is_rest = cut.is_rest;
      made = sym whole ∙ ap (λ r. take (run White text) text ++ r) cut.made;
    }

name-made : (text : List ℕ) → (is_all_white text || is_phrase text) ≡ true → IsName text
name-made text h = either-made (is_all_white text) (is_phrase text) (λ e. no_name (all_white-made text e)) (λ e. phrase (phrase-made text e)) h

-- ---- routes

stop-made : (text : List ℕ) → is_stop text ≡ true → IsStop text
unfolding is_stop after_white
stop-made text h =
    let rest : List ℕ = drop (run White text) text in
    either-made (is_all_white text) (begins (λ b. eqb b 64) rest && is_domain (drop 1 rest)) (λ e. no_stop (all_white-made text e))
    (λ e. let both = and_parts (begins (λ b. eqb b 64) rest) (is_domain (drop 1 rest)) e in
    stop {white = take (run White text) text} {domain = drop 1 rest} (white-made text) (domain-made (drop 1 rest) both.1)
    (sym (take-append-drop (run White text) text) ∙ ap (λ r. take (run White text) text ++ r) (cut-around 64 0 rest both.0))) h

comma-meets : (kind : Kind) (text : List ℕ) → is_in BeforeComma kind ≡ false → Meets kind text → begins (λ b. eqb b 44) text ≡ true
comma-meets Comma text h m = ap (begins (λ b. eqb b 44)) m
comma-meets _ text h m = absurd (false≢true (sym h))

pub comma-after : (bytes : List ℕ) → run BeforeComma bytes < length bytes → begins (λ b. eqb b 44) (drop (run BeforeComma bytes) bytes) ≡ true
comma-after = stop-after BeforeComma (λ b. eqb b 44) comma-meets

stop_len-is : (bytes : List ℕ) → stop_len bytes ≢ 0 → (is_stop (take (run BeforeComma bytes) bytes) ≡ true) × (stop_len bytes ≡ min (suc (run BeforeComma bytes)) (length bytes))
unfolding stop_len
stop_len-is bytes some = under_test (is_stop (take (run BeforeComma bytes) bytes)) (min (suc (run BeforeComma bytes)) (length bytes)) some

stops-more : (bytes : List ℕ) (k : ℕ) → stop_len bytes ≢ 0 → AreStops (take k (drop (stop_len bytes) bytes)) → AreStops (take (stop_len bytes) bytes ++ take k (drop (stop_len bytes) bytes))
stops-more bytes k some later = by (cases_lt (run BeforeComma bytes) (length bytes))
  where
    is : (is_stop (take (run BeforeComma bytes) bytes) ≡ true) × (stop_len bytes ≡ min (suc (run BeforeComma bytes)) (length bytes))
    is = stop_len-is bytes some

    by : (run BeforeComma bytes < length bytes) ⊎ (length bytes ≤ run BeforeComma bytes) → AreStops (take (stop_len bytes) bytes ++ take k (drop (stop_len bytes) bytes))
    by (inl low) =
        let len = is.1 in
        let next : stop_len bytes ≡ suc (run BeforeComma bytes) = omega (arith, len, low) in
        next_stop {first = take (run BeforeComma bytes) bytes} {rest = take k (drop (stop_len bytes) bytes)} (stop-made (take (run BeforeComma bytes) bytes) is.0) later
        (ap (λ b. b ++ take k (drop (stop_len bytes) bytes)) (ap (λ n. take n bytes) next ∙ cut-at 44 (run BeforeComma bytes) bytes (comma-after bytes low))
        ∙ append_assoc (take (run BeforeComma bytes) bytes) (44 ∷ []) (take k (drop (stop_len bytes) bytes)))
    by (inr high) =
        let len = is.1 in
        subst AreStops (sym (sym (take-add (stop_len bytes) k bytes) ∙ take_all (stop_len bytes + k) bytes (omega (arith, len, high))))
        (last_stop (subst IsStop (take_all (run BeforeComma bytes) bytes high) (stop-made (take (run BeforeComma bytes) bytes) is.0)))

at-not_after : (white rest : List ℕ) → IsWhite white → run White rest ≡ 0 → begins (λ b. eqb b 64) rest ≡ false → begins (λ b. eqb b 64) (after_white (white ++ rest)) ≡ false
unfolding after_white
at-not_after white rest is none other =
    ap (begins (λ b. eqb b 64)) (drop_at white rest (run White (white ++ rest)) (sym (passed-up_to White white rest (white-passed White refl refl is) none))) ∙ other

route-from : {bytes : List ℕ} → AreStops bytes → begins (λ b. eqb b 64) (after_white bytes) ≡ true → IsRoute bytes
route-from (last_stop (stop {white = white} {domain = domain} is_white is_domain e)) at = one_stop {white = white} {domain = domain} is_white is_domain e
route-from {bytes} (last_stop (no_stop is)) at =
    absurd (false≢true (sym (ap (λ b. begins (λ c. eqb c 64) (after_white b)) (sym (append-nil bytes)) ∙ at-not_after bytes [] is (far-nothing (step White)) refl) ∙ at))
route-from (next_stop {first = first} {rest = rest} (stop {white = white} {domain = domain} is_white is_domain cut) more e) at =
    more_stops {white = white} {domain = domain} {rest = rest} is_white is_domain more
    (e ∙ ap (λ f. f ++ 44 ∷ rest) cut ∙ append_assoc white (64 ∷ domain) (44 ∷ rest))
route-from {bytes} (next_stop {first = first} {rest = rest} (no_stop is) more e) at =
    absurd (false≢true (sym (ap (λ b. begins (λ c. eqb c 64) (after_white b)) e
    ∙ at-not_after first (44 ∷ rest) is (run-stops White (44 ∷ rest) 1 Comma (comma-front rest) refl) refl) ∙ at))

route-made : (text : List ℕ) → is_route text ≡ true → IsRoute text
unfolding is_route
route-made text h =
    let both = and_parts (begins (λ b. eqb b 64) (after_white text)) (eqb (far stop_len text) (length text)) h in
    route-from (far-whole stop_len AreStops (last_stop (no_stop white_ends)) stops-more text (eqb-true (far stop_len text) (length text) both.1)) both.0

after_route-made : (text : List ℕ) → (may_be_route : List ℕ) × MayBeRoute may_be_route × (text ≡ may_be_route ++ after_route text)
unfolding after_route
after_route-made text =
    let len : ℕ = run BeforeColon text in
    cond_both (begins (λ b. eqb b 58) (drop len text) && is_route (take len text)) (drop (suc len) text) text
    (λ r. (may_be_route : List ℕ) × MayBeRoute may_be_route × (text ≡ may_be_route ++ r))
    (λ e. let both = and_parts (begins (λ b. eqb b 58) (drop len text)) (is_route (take len text)) e in (
      take len text ++ 58 ∷ [],
      route {stops = take len text} (route-made (take len text) both.1) refl,
      cut-around 58 len text both.0 ∙ sym (append_assoc (take len text) (58 ∷ []) (drop (suc len) text)),
    )) (λ e. ([], no_route, refl))

-- ---- mailboxes

record SpecCut (name text : List ℕ) (m : Parts) : Type 0 where
  pub local : List ℕ
  pub domain : List ℕ
  pub is_local : AreDotted any_words local
  pub domain_is : IsDomain domain
  pub clean : are_clean local domain ≡ true
  pub cut : text ≡ local ++ 64 ∷ domain
  pub same : record { display_name = name; local_part = local; domain = domain } ≡ m

pub none-some : {m : Parts} → ◌≡◌ {A = Option Parts} None (Some m) → ⊥
none-some e = cc

spec-made : (name text : List ℕ) (m : Parts) → spec_mailbox name text ≡ Some m → SpecCut name text m
unfolding spec_mailbox
spec-made name text m h =
    let len : ℕ = run BeforeAt text in
    cond_both (begins (λ b. eqb b 64) (drop len text) && (is_local_part (take len text) && is_domain (drop (suc len) text) && are_clean (take len text) (drop (suc len) text))) _ None (λ o. o ≡ Some m → SpecCut name text m)
    (λ e h. let first = and_parts (begins (λ b. eqb b 64) (drop len text)) (is_local_part (take len text) && is_domain (drop (suc len) text) && are_clean (take len text) (drop (suc len) text)) e in
    let clean = and_parts (is_local_part (take len text) && is_domain (drop (suc len) text)) (are_clean (take len text) (drop (suc len) text)) first.1 in
    let both = and_parts (is_local_part (take len text)) (is_domain (drop (suc len) text)) clean.0 in
    record {
      local = take len text;
      domain = drop (suc len) text;
      is_local = dotted-made any_words (take len text) both.0;
      domain_is = domain-made (drop (suc len) text) both.1;
      clean = clean.1;
      cut = cut-around 64 len text first.0;
      same = same_Some _ m h;
    }) (λ e h. absurd (none-some h)) h

angle-made : (kind : Kind) (text : List ℕ) → is_enclosed kind ≡ true → Meets kind text → (inner : List ℕ) × (text ≡ 60 ∷ (inner ++ 62 ∷ []))
angle-made Angle text h m = m
angle-made _ text h m = absurd (false≢true h)

within-made : (inner text : List ℕ) → text ≡ 60 ∷ (inner ++ 62 ∷ []) → within_ends text ≡ inner
within-made inner text e =
    let len = delimited-length 60 62 inner in
    ap within_ends e ∙ take_at inner (62 ∷ []) (length (60 ∷ (inner ++ 62 ∷ [])) - 2) (omega (arith, len))

named-made : (name rest : List ℕ) (m : Parts) → is_enclosed (front_token rest).kind ≡ true → named_mailbox name rest ≡ Some m → IsMailbox (name ++ rest) m
unfolding named_mailbox
named-made name rest m angle h =
    let is_angle = angle-made (front_token rest).kind (take (front_token rest).len rest) angle (front-meets rest) in
    cond_both ((is_all_white name || is_phrase name) && is_all_white (drop (front_token rest).len rest)) (spec_mailbox name (after_route (within_ends (take (front_token rest).len rest)))) None
    (λ o. o ≡ Some m → IsMailbox (name ++ rest) m)
    (λ e h. let both = and_parts (is_all_white name || is_phrase name) (is_all_white (drop (front_token rest).len rest)) e in
    let inner : List ℕ = is_angle.0 in
    let within : within_ends (take (front_token rest).len rest) ≡ inner = within-made inner (take (front_token rest).len rest) is_angle.1 in
    let spec = spec-made name (after_route inner) m (ap (λ b. spec_mailbox name (after_route b)) (sym within) ∙ h) in
    let routed = after_route-made inner in
    let whole : inner ≡ routed.0 ++ (spec.local ++ 64 ∷ spec.domain) = routed.2 ∙ ap (λ r. routed.0 ++ r) spec.cut in
    let cut : rest ≡ 60 ∷ (inner ++ 62 ∷ drop (front_token rest).len rest) =
    sym (take-append-drop (front_token rest).len rest) ∙ ap (λ b. b ++ drop (front_token rest).len rest) is_angle.1 ∙ delimited 60 62 inner (drop (front_token rest).len rest) in
    subst (IsMailbox (name ++ rest)) spec.same
    (named_address {name = name} {may_be_route = routed.0} {local = spec.local} {domain = spec.domain} {after = drop (front_token rest).len rest} (name-made name both.0) routed.1 spec.is_local spec.domain_is spec.clean
    (all_white-made (drop (front_token rest).len rest) both.1)
    (ap (λ r. name ++ r) cut ∙ ap (λ i. name ++ 60 ∷ (i ++ 62 ∷ drop (front_token rest).len rest)) whole)))
    (λ e h. absurd (none-some h)) h

pub mailbox-made : (text : List ℕ) (m : Parts) → mailbox_of text ≡ Some m → IsMailbox text m
unfolding mailbox_of
mailbox-made text m h =
    cond_both (is_enclosed (front_token (drop (run Phrase text) text)).kind) (named_mailbox (take (run Phrase text) text) (drop (run Phrase text) text)) (spec_mailbox [] text)
    (λ o. o ≡ Some m → IsMailbox text m)
    (λ e h. subst (λ b. IsMailbox b m) (take-append-drop (run Phrase text) text) (named-made (take (run Phrase text) text) (drop (run Phrase text) text) m e h))
    (λ e h. let spec = spec-made [] text m h in
    subst (IsMailbox text) spec.same (address {local = spec.local} {domain = spec.domain} spec.is_local spec.domain_is spec.clean spec.cut)) h
