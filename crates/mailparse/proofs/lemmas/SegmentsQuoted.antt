-- Lemmas on the contents of a quoted text.
use lib.Utf8.{encode}
use Rattle.std.proofs.Common.{◌≡◌, ◌≢◌, ℕ, suc, Bool, true, false, not, cond, eqb, ◌&&◌, None, List, [], ◌∷◌, ◌++◌, refl, sym, ap, subst, ◌∙◌, append_assoc}
use Rattle.std.proofs.lemmas.Bool.{cond-true, cond-false, and_right, eq-eqb, eqb-true, false_from_ne_true, false≢true, ne_eqb}
use Rattle.std.proofs.lemmas.List.{append-nil, nil_from_length}
use Rattle.std.proofs.lemmas.Str.{chars-nil, chars_past_char, encodes-chars, IsUtf8-past_char}
use Rattle.std.specs.Char.{encode_utf8}
use Rattle.std.specs.Str.{chars, encode_utf8_all, IsUtf8}
use Rattle.mail_codec.specs.Ascii.{backslash}
use Rattle.mail_codec.specs.Places.{begins, place}
use Rattle.mailparse.specs.Segments.{is_odd, without_escapes}
use Rattle.mailparse.proofs.lemmas.Places.{Nowhere, nowhere_found, nowhere_behind, not_some}
use Rattle.std.proofs.lemmas.Result.{IfOk-weaker}

-- the characters that stay, by a flag: whether the first of them is escaped
abbrev pub stays_after : Bool → List ℕ → List ℕ
stays_after escaped [] = []
stays_after escaped (c ∷ cs) = cond (eqb c backslash && not escaped) (stays_after true cs) (c ∷ stays_after false cs)

-- the flag says whether the run of backslashes has odd length
stays_by : (before c : ℕ) (cs : List ℕ) (t : Bool) → eqb c backslash ≡ t → (o : Bool) → is_odd before ≡ o
    → stays_after (not o) cs ≡ without_escapes (suc before) cs → stays_after false cs ≡ without_escapes 0 cs
    → stays_after (is_odd before) (c ∷ cs) ≡ without_escapes before (c ∷ cs)
stays_by before c cs true e true o later anew = rw (e, o) (ap (λ x. c ∷ x) later)
stays_by before c cs true e false o later anew = rw (e, o) later
stays_by before c cs false e _ o later anew = rw e (ap (λ x. c ∷ x) anew)

pub stays_is : (before : ℕ) (cs : List ℕ) → stays_after (is_odd before) cs ≡ without_escapes before cs
stays_is before [] = refl
stays_is before (c ∷ cs) = stays_by before c cs _ refl _ refl (stays_is (suc before) cs) (stays_is 0 cs)

-- what was written and what stays of the rest
abbrev pub Unescapes : List ℕ → List ℕ → Bool → List ℕ → Type 0
Unescapes inside written escaped rest =
    written ++ encode_utf8_all (stays_after escaped (chars rest)) ≡ encode_utf8_all (without_escapes 0 (chars inside))

pub unescapes_start : (inside written rest : List ℕ) → written ≡ [] → rest ≡ inside → Unescapes inside written false rest
unescapes_start inside written rest none all =
    ap (λ w. w ++ encode_utf8_all (stays_after false (chars rest))) none
    ∙ ap (λ r. encode_utf8_all (stays_after false (chars r))) all ∙ ap encode_utf8_all (stays_is 0 (chars inside))

pub unescapes_end : (inside written rest : List ℕ) (escaped : Bool) → rest ≡ [] → Unescapes inside written escaped rest
    → written ≡ encode_utf8_all (without_escapes 0 (chars inside))
unescapes_end inside written rest escaped none here =
    sym (append-nil written)
    ∙ ap (λ cs. written ++ encode_utf8_all (stays_after escaped cs)) (sym (ap chars none ∙ chars-nil))
    ∙ here

-- a backslash that is not escaped goes
pub unescapes_backslash : (inside written rest next : List ℕ) (escaped : Bool) (c : ℕ) → IsUtf8 rest → rest ≡ encode_utf8 c ++ next
    → c ≡ backslash → escaped ≡ false → Unescapes inside written escaped rest → Unescapes inside written true next
unescapes_backslash inside written rest next escaped c utf8 e is flag here =
    ap (λ cs. written ++ encode_utf8_all cs)
    (sym (ap (stays_after escaped) (chars_past_char rest next c utf8 e)
    ∙ cond-true _ _ _ (ap (λ t. t && not escaped) (eq-eqb c backslash is) ∙ ap not flag)))
    ∙ here

-- any other character stays
pub unescapes_other : (inside written rest next new : List ℕ) (escaped : Bool) (c : ℕ) → IsUtf8 rest → rest ≡ encode_utf8 c ++ next
    → (eqb c backslash && not escaped) ≡ false → new ≡ written ++ encode_utf8 c
    → Unescapes inside written escaped rest → Unescapes inside new false next
unescapes_other inside written rest next new escaped c utf8 e is push here =
    ap (λ w. w ++ encode_utf8_all (stays_after false (chars next))) push
    ∙ append_assoc written (encode_utf8 c) (encode_utf8_all (stays_after false (chars next)))
    ∙ ap (λ cs. written ++ encode_utf8_all cs)
    (sym (ap (stays_after escaped) (chars_past_char rest next c utf8 e) ∙ cond-false _ _ _ is))
    ∙ here

pub stays_escaped : (c : ℕ) (escaped : Bool) → escaped ≡ true → (eqb c backslash && not escaped) ≡ false
stays_escaped c escaped e = and_right (eqb c backslash) (not escaped) (ap not e)

pub stays_plain : (c : ℕ) (escaped : Bool) → c ≢ backslash → (eqb c backslash && not escaped) ≡ false
stays_plain c escaped some = ap (λ t. t && not escaped) (ne_eqb c backslash some)

-- a text without a backslash stays

no_backslash_stays : (cs : List ℕ) → Nowhere (begins (λ b. eqb b backslash)) (encode_utf8_all cs) → without_escapes 0 cs ≡ cs
unfolding encode
no_backslash_stays [] none = refl
no_backslash_stays (c ∷ cs) none =
    let other : eqb c backslash ≡ false =
    false_from_ne_true _ (λ e. false≢true (sym (none 0) ∙ ap (λ d. begins (λ b. eqb b backslash) (encode_utf8 d ++ encode_utf8_all cs)) (eqb-true c backslash e))) in
    rw other (ap (λ x. c ∷ x) (no_backslash_stays cs (nowhere_behind (begins (λ b. eqb b backslash)) (encode_utf8 c) (encode_utf8_all cs) none)))

pub unescapes_nothing : (text : List ℕ) → IsUtf8 text → None ≡ place (begins (λ b. eqb b backslash)) text
    → text ≡ encode_utf8_all (without_escapes 0 (chars text))
unescapes_nothing text utf8 none =
    let whole = encodes-chars text utf8 in
    let absent = nowhere_found (begins (λ b. eqb b backslash)) text refl none in
    sym whole ∙ ap encode_utf8_all (sym (no_backslash_stays (chars text) (subst (Nowhere (begins (λ b. eqb b backslash))) (sym whole) absent)))

-- a text without its escapes
pub ruleset unescapes = (nil_from_length, IfOk-weaker, IsUtf8-past_char, not_some, unescapes_nothing, unescapes_start, unescapes_end, unescapes_backslash, unescapes_other, stays_escaped, stays_plain)
