-- Lemmas on what nothing within separates.
use Rattle.std.proofs.Common.{◌≡◌, ℕ, suc, ◌+◌, ◌-◌, ◌<◌, Bool, true, false, cond, eqb, List, [], ◌∷◌, ◌++◌, length, drop, refl, sym, ap, ◌∙◌, ⊎_elim, arith, append_assoc, length-append}
use Rattle.std.specs.Prelude.{min, nat_lt}
use Rattle.std.specs.List.{prefix_len}
use Rattle.std.proofs.lemmas.Bool.{cases_Bool, cond_both, cond-false, cond-true, eq-eqb, false≢true, lt-ltb, ne_eqb, or_right}
use Rattle.std.proofs.lemmas.List.{drop_at}
use Rattle.mail_codec.specs.Places.{begins}
use Rattle.mail_address.specs.declared.tokens.Kind.{Kind}
use Rattle.mail_address.specs.declared.tokens.Kind.TheVariants.{Angle, Colon, Comment, Literal, Other, Quoted}
use Rattle.mail_address.specs.declared.tokens.Span.{Span}
use Rattle.mail_address.specs.declared.tokens.Span.TheVariants.{BeforeAt, BeforeColon, BeforeComma, BeforeSeparator, BeforeDelimiter, InGroup}
use Rattle.mail_address.specs.Enclosed.{IsBetween, no_bytes, quoted_pair, plain_byte, IsCommented, comment_ends, comment_pair, comment_byte, comment_within, IsClosed, in_quotes, in_comment, in_literal, IsInAngles, angles_end, angles_pair, angles_byte, angles_closed, IsEnclosed, closed, in_angles, is_opener}
use Rattle.mail_address.specs.Tokens.{angle_place, angle_step, angle_token, comment_place, comment_token, far, front_token, is_angle, is_atom_byte, is_in, is_white, literal_token, plain_token, quoted_token, run, single_kind, step, unquoted_place}
use Rattle.mail_address.proofs.lemmas.Tokens.{atom_byte-visible, far-more, far-stop}

-- ---- closing delimiters

-- the closing delimiter of enclosed bytes is found directly after them
module _ (one other : ℕ) (first : eqb 92 one ≡ false) (second : eqb 92 other ≡ false) where
  between-place : {text : List ℕ} → IsBetween one other text → (rest : List ℕ) → unquoted_place one other false (text ++ other ∷ rest) ≡ length text
  between-place no_bytes rest = cond-true _ _ _ (or_right (eqb other one) (eqb other other) (eq-eqb other other refl))
  between-place (quoted_pair between) rest = let later = between-place between rest in rw (first, second) (ap suc (ap suc later))
  between-place (plain_byte {b = b} not_one not_other no_backslash between) rest =
      let later = between-place between rest in
      rw (ne_eqb b one not_one, ne_eqb b other not_other, ne_eqb b 92 no_backslash) (ap suc later)

-- a comment is skipped at any depth
comment-passed : {text : List ℕ} → IsCommented text → (depth : ℕ) (rest : List ℕ) → comment_place false depth (text ++ rest) ≡ length text + comment_place false depth rest
comment-passed comment_ends depth rest = omega arith
comment-passed (comment_pair inner) depth rest = let later = comment-passed inner depth rest in omega (arith, later)
comment-passed (comment_byte {b = b} not_open not_close no_backslash inner) depth rest =
    let later = comment-passed inner depth rest in
    rw (ne_eqb b 41 not_close, ne_eqb b 92 no_backslash, ne_eqb b 40 not_open) (omega (arith, later))
comment-passed (comment_within {inner = inner} {rest = more} one two e) depth rest =
    let within = comment-passed one (suc depth) (41 ∷ (more ++ rest)) in
    let later = comment-passed two depth rest in
    let len = length-append inner (41 ∷ more) in
    ap (λ bytes. comment_place false depth (bytes ++ rest)) e
    ∙ ap (λ bytes. suc (comment_place false (suc depth) bytes)) (append_assoc inner (41 ∷ more) rest)
    ∙ (let closes = at_close depth (more ++ rest) in omega (arith, within, later, len, closes))
    ∙ ap (λ bytes. length bytes + comment_place false depth rest) (sym e)
  where
    at_close : (depth : ℕ) (after : List ℕ) → comment_place false (suc depth) (41 ∷ after) ≡ suc (comment_place false depth after)
    at_close depth after =
        let down : suc depth - 1 ≡ depth = omega arith in
        ap (λ t. cond t 0 (suc (comment_place false (suc depth - 1) after))) (ne_eqb (suc depth) 0 (λ n. absurd (omega arith)))
        ∙ ap (λ d. suc (comment_place false d after)) down

-- ---- the tokens

-- enclosed bytes, and then what follows
pub delimited : (first last : ℕ) (inner rest : List ℕ) → (first ∷ (inner ++ last ∷ [])) ++ rest ≡ first ∷ (inner ++ last ∷ rest)
delimited first last inner rest = ap (λ (l : List ℕ). first ∷ l) (append_assoc inner (last ∷ []) rest)

-- its length
pub delimited-length : (first last : ℕ) (inner : List ℕ) → length (first ∷ (inner ++ last ∷ [])) ≡ length inner + 2
delimited-length first last inner = let len = length-append inner (last ∷ []) in omega arith

-- the closing delimiter is within the bytes
closes-within : (place last : ℕ) (inner rest : List ℕ) → place ≡ length inner → nat_lt place (length (inner ++ last ∷ rest)) ≡ true
closes-within place last inner rest at = let len = length-append inner (last ∷ rest) in lt-ltb place (length (inner ++ last ∷ rest)) (omega (arith, at, len))

quoted-is : (inner rest : List ℕ) → IsBetween 34 34 inner → quoted_token (inner ++ 34 ∷ rest) ≡ record { kind = Quoted; len = length inner + 2 }
unfolding quoted_token
quoted-is inner rest between =
    let at = between-place 34 34 refl refl between rest in
    rw (closes-within (unquoted_place 34 34 false (inner ++ 34 ∷ rest)) 34 inner rest at) (ap (λ n. record { kind = Quoted; len = n + 2 }) at)

comment-is : (inner rest : List ℕ) → IsCommented inner → comment_token (inner ++ 41 ∷ rest) ≡ record { kind = Comment; len = length inner + 2 }
unfolding comment_token
comment-is inner rest commented =
    let at : comment_place false 0 (inner ++ 41 ∷ rest) ≡ length inner =
    let passed = comment-passed commented 0 (41 ∷ rest) in omega (arith, passed) in
    rw (closes-within (comment_place false 0 (inner ++ 41 ∷ rest)) 41 inner rest at) (ap (λ n. record { kind = Comment; len = n + 2 }) at)

-- the byte after some bytes
byte-after : (place last : ℕ) (inner rest : List ℕ) → place ≡ length inner → begins (λ b. eqb b last) (drop place (inner ++ last ∷ rest)) ≡ true
byte-after place last inner rest at = ap (begins (λ b. eqb b last)) (drop_at inner (last ∷ rest) place (sym at)) ∙ eq-eqb last last refl

literal-is : (inner rest : List ℕ) → IsBetween 91 93 inner → literal_token (inner ++ 93 ∷ rest) ≡ record { kind = Literal; len = length inner + 2 }
unfolding literal_token
literal-is inner rest between =
    let at = between-place 91 93 refl refl between rest in
    rw (byte-after (unquoted_place 91 93 false (inner ++ 93 ∷ rest)) 93 inner rest at) (ap (λ n. record { kind = Literal; len = n + 2 }) at)

-- a run that may have angle brackets may have such a token
like_angle : (kind : Kind) → is_in BeforeAt kind ≡ true → is_in BeforeColon kind ≡ true → is_in BeforeComma kind ≡ true → is_in BeforeSeparator kind ≡ true → is_in BeforeDelimiter kind ≡ true
    → is_in InGroup kind ≡ true → (span : Span) → is_in span Angle ≡ true → is_in span kind ≡ true
like_angle kind at colon comma separator delimiter group BeforeAt h = at
like_angle kind at colon comma separator delimiter group BeforeColon h = colon
like_angle kind at colon comma separator delimiter group BeforeComma h = comma
like_angle kind at colon comma separator delimiter group BeforeSeparator h = separator
like_angle kind at colon comma separator delimiter group BeforeDelimiter h = delimiter
like_angle kind at colon comma separator delimiter group InGroup h = group
like_angle kind at colon comma separator delimiter group _ h = absurd (false≢true h)

-- a token of the kinds that are closed
pub record ClosedToken (kind : Kind) (bytes : List ℕ) : Type 0 where
  pub token : (rest : List ℕ) → plain_token (bytes ++ rest) ≡ record { kind = kind; len = length bytes }
  pub front : (rest : List ℕ) → front_token (bytes ++ rest) ≡ record { kind = kind; len = length bytes }
  pub no_angle : is_angle kind ≡ false
  pub passed : (span : Span) → is_in span Angle ≡ true → is_in span kind ≡ true
  pub some : 0 < length bytes

closed-by : (kind : Kind) (first last : ℕ) (inner : List ℕ) {bytes : List ℕ} → eqb first 60 ≡ false → is_angle kind ≡ false → ((span : Span) → is_in span Angle ≡ true → is_in span kind ≡ true)
    → bytes ≡ first ∷ (inner ++ last ∷ []) → ((rest : List ℕ) → plain_token (first ∷ (inner ++ last ∷ rest)) ≡ record { kind = kind; len = length inner + 2 }) → ClosedToken kind bytes
unfolding front_token
closed-by kind first last inner {bytes} no_opening no_angle passed e is =
    let len : length bytes ≡ length inner + 2 = ap length e ∙ delimited-length first last inner in
    let plain : (rest : List ℕ) → front_token (first ∷ (inner ++ last ∷ rest)) ≡ plain_token (first ∷ (inner ++ last ∷ rest)) = λ rest. cond-false _ _ _ no_opening in
    record {
      token = λ rest. ap (λ b. plain_token (b ++ rest)) e ∙ ap plain_token (delimited first last inner rest) ∙ is rest ∙ ap (λ n. record { kind = kind; len = n }) (sym len);
      front = λ rest.
          ap (λ b. front_token (b ++ rest)) e ∙ ap front_token (delimited first last inner rest) ∙ plain rest ∙ is rest
          ∙ ap (λ n. record { kind = kind; len = n }) (sym len);
      no_angle = no_angle;
      passed = passed;
      some = omega (arith, len);
    }

pub quoted-closed : {inner bytes : List ℕ} → IsBetween 34 34 inner → bytes ≡ 34 ∷ (inner ++ 34 ∷ []) → ClosedToken Quoted bytes
unfolding is_atom_byte
quoted-closed {inner} between e = closed-by Quoted 34 34 inner refl refl (like_angle Quoted refl refl refl refl refl refl) e (λ rest. quoted-is inner rest between)

pub comment-closed : {inner bytes : List ℕ} → IsCommented inner → bytes ≡ 40 ∷ (inner ++ 41 ∷ []) → ClosedToken Comment bytes
unfolding is_atom_byte
comment-closed {inner} commented e = closed-by Comment 40 41 inner refl refl (like_angle Comment refl refl refl refl refl refl) e (λ rest. comment-is inner rest commented)

pub literal-closed : {inner bytes : List ℕ} → IsBetween 91 93 inner → bytes ≡ 91 ∷ (inner ++ 93 ∷ []) → ClosedToken Literal bytes
unfolding is_atom_byte
literal-closed {inner} between e = closed-by Literal 91 93 inner refl refl (like_angle Literal refl refl refl refl refl refl) e (λ rest. literal-is inner rest between)

closed-token : {bytes : List ℕ} → IsClosed bytes → (kind : Kind) × ClosedToken kind bytes
closed-token (in_quotes between e) = (Quoted, quoted-closed between e)
closed-token (in_comment commented e) = (Comment, comment-closed commented e)
closed-token (in_literal between e) = (Literal, literal-closed between e)

-- ---- the bytes of a step

-- a step over a token at the front, and then the rest
pub far-token : (pass : List ℕ → ℕ) (bytes rest : List ℕ) → 0 < length bytes → pass (bytes ++ rest) ≡ length bytes → far pass (bytes ++ rest) ≡ length bytes + far pass rest
far-token pass bytes rest some is =
    let len = length-append bytes rest in
    far-more pass (bytes ++ rest) (omega arith) (λ none. absurd (omega (arith, none, is)))
    ∙ ap (λ n. n + far pass (drop n (bytes ++ rest))) is
    ∙ ap (λ r. length bytes + far pass r) (drop_at bytes rest (length bytes) refl)

-- ---- within angle brackets

-- the first of a run of such bytes is taken like the rest of the run
pub far-run : (pass : List ℕ → ℕ) (test : ℕ → Bool) → ((c : ℕ) (cs : List ℕ) → test c ≡ true → pass (c ∷ cs) ≡ suc (prefix_len test cs))
    → (b : ℕ) (bytes : List ℕ) → test b ≡ true → far pass (b ∷ bytes) ≡ suc (far pass bytes)
far-run pass test is b bytes h =
    let here = is b bytes h in
    far-more pass (b ∷ bytes) (omega arith) (λ none. absurd (omega (arith, none, here)))
    ∙ ap (λ n. n + far pass (drop n (b ∷ bytes))) here
    ∙ go bytes
  where
    next : (c : ℕ) (cs : List ℕ) (t : Bool) → test c ≡ t
        → suc (cond t (1 + prefix_len test cs) 0) + far pass (drop (cond t (1 + prefix_len test cs) 0) (c ∷ cs)) ≡ suc (far pass (c ∷ cs))
    next c cs true e =
        let there = is c cs e in
        let one : suc (prefix_len test cs) ≡ 1 + prefix_len test cs = omega arith in
        let more = far-more pass (c ∷ cs) (omega arith) (λ none. absurd (omega (arith, none, there))) in
        let same : pass (c ∷ cs) + far pass (drop (pass (c ∷ cs)) (c ∷ cs)) ≡ 1 + prefix_len test cs + far pass (drop (1 + prefix_len test cs) (c ∷ cs)) =
        ap (λ n. n + far pass (drop n (c ∷ cs))) (there ∙ one) in
        omega (arith, more, same)
    next c cs false e = omega arith

    go : (cs : List ℕ) → suc (prefix_len test cs) + far pass (drop (suc (prefix_len test cs)) (b ∷ cs)) ≡ suc (far pass cs)
    go [] = omega arith
    go (c ∷ cs) = next c cs (test c) refl

single-is_no_angle : (b : ℕ) → eqb b 60 ≡ false → eqb b 62 ≡ false → is_angle (single_kind b) ≡ false
unfolding single_kind
single-is_no_angle b opening closing =
    rw (opening, closing) (cond_both (eqb b 46) _ _ (λ k. is_angle k ≡ false) (λ e. refl) (λ e. cond_both (eqb b 64) _ _ (λ k. is_angle k ≡ false) (λ e. refl)
    (λ e. cond_both (eqb b 44) _ _ (λ k. is_angle k ≡ false) (λ e. refl) (λ e. cond_both (eqb b 59) _ _ (λ k. is_angle k ≡ false) (λ e. refl)
    (λ e. cond_both (eqb b 58) Colon Other (λ k. is_angle k ≡ false) (λ e. refl) (λ e. refl))))))

not_opener : (b delimiter : ℕ) → is_opener b ≡ false → is_opener delimiter ≡ true → eqb b delimiter ≡ false
not_opener b delimiter h opens = ne_eqb b delimiter (λ e. false≢true (sym h ∙ ap is_opener e ∙ opens))

-- a byte that opens nothing is a step of its own
angle-byte : (b : ℕ) (bytes : List ℕ) → is_opener b ≡ false → far angle_step (b ∷ bytes) ≡ suc (far angle_step bytes)
angle-byte b bytes h =
    ⊎_elim (λ white. far-run angle_step is_white (λ c cs h. rw h (omega arith)) b bytes white) (λ no_white. ⊎_elim
    (λ atom. far-run angle_step is_atom_byte (λ c cs h. rw (atom_byte-visible c h, h) (omega arith)) b bytes atom)
    (λ no_atom. let passed = far-token angle_step (b ∷ []) bytes (omega arith) (one no_white no_atom) in omega (arith, passed))
    (cases_Bool (is_atom_byte b))) (cases_Bool (is_white b))
  where
    one : (is_white b ≡ false) → (is_atom_byte b ≡ false) → angle_step (b ∷ bytes) ≡ 1
    one no_white no_atom =
        rw (no_white, no_atom, not_opener b 40 h refl, not_opener b 34 h refl, not_opener b 91 h refl, not_opener b 92 h refl)
        (rw (single-is_no_angle b (not_opener b 60 h refl) (not_opener b 62 h refl)) refl)

-- a backslash takes the byte after it
pair-step : (b : ℕ) (bytes : List ℕ) → angle_step (92 ∷ b ∷ bytes) ≡ 2
unfolding is_atom_byte
pair-step b bytes = omega arith

angles-passed : {text : List ℕ} → IsInAngles text → (rest : List ℕ) → far angle_step (text ++ rest) ≡ length text + far angle_step rest
angles-passed angles_end rest = omega arith
angles-passed (angles_pair {b = b} {rest = inner} more) rest =
    let later = angles-passed more rest in
    let here = far-token angle_step (92 ∷ b ∷ []) (inner ++ rest) (omega arith) (pair-step b (inner ++ rest)) in
    omega (arith, here, later)
angles-passed (angles_byte {b = b} {rest = inner} h more) rest =
    let later = angles-passed more rest in
    let here = angle-byte b (inner ++ rest) h in
    omega (arith, here, later)
angles-passed (angles_closed {closed = front} {rest = inner} {bytes = bytes} shut more e) rest =
    let later = angles-passed more rest in
    let token = (closed-token shut).1 in
    let here = far-token angle_step front (inner ++ rest) token.some (rw (token.token (inner ++ rest)) (rw (token.no_angle) refl)) in
    let len : length bytes ≡ length front + length inner = ap length e ∙ length-append front inner in
    let whole : far angle_step (bytes ++ rest) ≡ far angle_step (front ++ (inner ++ rest)) =
    ap (λ b. far angle_step (b ++ rest)) e ∙ ap (far angle_step) (append_assoc front inner rest) in
    omega (arith, whole, here, later, len)

angle-is : (inner rest : List ℕ) → IsInAngles inner → angle_token (inner ++ 62 ∷ rest) ≡ record { kind = Angle; len = length inner + 2 }
unfolding angle_token is_atom_byte single_kind
angle-is inner rest inside =
    let at : angle_place (inner ++ 62 ∷ rest) ≡ length inner =
    let passed = angles-passed inside (62 ∷ rest) in
    let stops = far-stop angle_step (62 ∷ rest) refl in
    omega (arith, passed, stops) in
    rw (byte-after (angle_place (inner ++ 62 ∷ rest)) 62 inner rest at) (ap (λ n. record { kind = Angle; len = n + 2 }) at)

pub angle-front : (inner rest : List ℕ) → IsInAngles inner → front_token (60 ∷ (inner ++ 62 ∷ rest)) ≡ record { kind = Angle; len = length inner + 2 }
unfolding front_token
angle-front inner rest inside = angle-is inner rest inside

-- ---- a run over them

pub step-token : (span : Span) (bytes : List ℕ) (len : ℕ) (kind : Kind) → front_token bytes ≡ record { kind = kind; len = len } → is_in span kind ≡ true → step span bytes ≡ len
unfolding step
step-token span bytes len kind is goes = rw is (rw goes refl)

-- a token of a run, and then the rest
pub run-token : (span : Span) (bytes rest : List ℕ) (kind : Kind) → 0 < length bytes → front_token (bytes ++ rest) ≡ record { kind = kind; len = length bytes }
    → is_in span kind ≡ true → run span (bytes ++ rest) ≡ length bytes + run span rest
run-token span bytes rest kind some is goes = far-token (step span) bytes rest some (step-token span (bytes ++ rest) (length bytes) kind is goes)

pub closed-passed : (span : Span) {kind : Kind} {bytes : List ℕ} → ClosedToken kind bytes → is_in span kind ≡ true → (rest : List ℕ) → run span (bytes ++ rest) ≡ length bytes + run span rest
closed-passed span {kind} {bytes} token goes rest = run-token span bytes rest kind token.some (token.front rest) goes

pub enclosed-passed : (span : Span) (text rest : List ℕ) → is_in span Angle ≡ true → IsEnclosed text → run span (text ++ rest) ≡ length text + run span rest
enclosed-passed span text rest goes (closed shut) =
    let token = (closed-token shut).1 in
    closed-passed span token (token.passed span goes) rest
enclosed-passed span text rest goes (in_angles {inner = inner} inside e) =
    let whole : text ++ rest ≡ 60 ∷ (inner ++ 62 ∷ rest) = ap (λ b. b ++ rest) e ∙ delimited 60 62 inner rest in
    let len : length text ≡ length inner + 2 = ap length e ∙ delimited-length 60 62 inner in
    run-token span text rest Angle (omega (arith, len)) (ap front_token whole ∙ angle-front inner rest inside ∙ ap (λ n. record { kind = Angle; len = n }) (sym len)) goes

pair-front : (b : ℕ) (rest : List ℕ) → front_token (92 ∷ b ∷ rest) ≡ record { kind = Other; len = 2 }
unfolding front_token is_atom_byte
pair-front b rest = let two : min 2 (1 + suc (length rest)) ≡ 2 = omega arith in ap (λ n. record { kind = Other; len = n }) two

-- outside of all of them a backslash takes the byte after it
pub pair-passed : (span : Span) (b : ℕ) (rest : List ℕ) → is_in span Angle ≡ true → run span (92 ∷ b ∷ rest) ≡ 2 + run span rest
pair-passed span b rest goes = run-token span (92 ∷ b ∷ []) rest Other (omega arith) (pair-front b rest) (like_angle Other refl refl refl refl refl refl span goes)
