-- Lemmas on the segments of a text.
use Rattle.std.proofs.Common.{◌≡◌, ◌≢◌, ℕ, suc, ◌+◌, ◌<◌, Bool, true, false, cond, ◌||◌, eqb, List, [], ◌∷◌, ◌++◌, length, take, drop, get_or, refl, sym, ap, subst, ◌∙◌, append_assoc, take-add}
use Rattle.std.proofs.lemmas.Bool.{cond-true, cond-false, eqb-true, eqb-false, ne_eqb, false≢true}
use Rattle.std.proofs.lemmas.List.{append-nil, drop_more, drop-drop}
use Rattle.mail_codec.specs.Ascii.{quote, semicolon, backslash}
use Rattle.mail_codec.specs.Places.{begins, first_place}
use Rattle.mailparse.specs.Segments.{IsRunAfter, closing_quote, text_ends, lone_backslash, escaped_byte, plain_byte, IsSegment, segment_ends, other_byte, closed_run, open_run, AreSegments, last_segment, more_segments, QuoteState, outside, quoted, escaped, after, ends, with_front, segments_from, segments}
use Rattle.mailparse.specs.private.Segments.{plain_len}
use Rattle.std.proofs.lemmas.Str.{IsCharBoundary-after_ascii}

pub with_front-append : (a b : List ℕ) (ps : List (List ℕ)) → with_front a (with_front b ps) ≡ with_front (a ++ b) ps
with_front-append a b [] = refl
with_front-append a b (p ∷ ps) = ap (λ q. q ∷ ps) (sym (append_assoc a b p))

-- ---- what the function does at a byte

at_end : (w : QuoteState) (b : ℕ) (bytes : List ℕ) → ends w b ≡ true → segments_from w (b ∷ bytes) ≡ [] ∷ segments_from outside bytes
at_end w b bytes e = cond-true _ _ _ e

at_byte : (w : QuoteState) (b : ℕ) (bytes : List ℕ) → ends w b ≡ false → segments_from w (b ∷ bytes) ≡ with_front (b ∷ []) (segments_from (after w b) bytes)
at_byte w b bytes e = cond-false _ _ _ e

pub at_other : (b : ℕ) (bytes : List ℕ) → b ≢ quote → b ≢ semicolon
    → segments_from outside (b ∷ bytes) ≡ with_front (b ∷ []) (segments_from outside bytes)
at_other b bytes no_quote no_semicolon =
    at_byte outside b bytes (ne_eqb b semicolon no_semicolon)
    ∙ ap (λ w. with_front (b ∷ []) (segments_from w bytes)) (cond-false _ _ _ (ne_eqb b quote no_quote))

at_plain : (b : ℕ) (bytes : List ℕ) → b ≢ quote → b ≢ backslash
    → segments_from quoted (b ∷ bytes) ≡ with_front (b ∷ []) (segments_from quoted bytes)
at_plain b bytes no_quote no_backslash =
    ap (λ w. with_front (b ∷ []) (segments_from w bytes))
    (cond-false _ _ _ (ne_eqb b quote no_quote) ∙ cond-false _ _ _ (ne_eqb b backslash no_backslash))

-- ---- no other list fits

run_closed : {run : List ℕ} → IsRunAfter true run → (rest : List ℕ)
    → segments_from quoted (run ++ rest) ≡ with_front run (segments_from outside rest)
run_closed closing_quote rest = refl
run_closed (escaped_byte {b = b} {rest = run} r) rest =
    ap (λ ps. with_front (backslash ∷ []) (with_front (b ∷ []) ps)) (run_closed r rest)
    ∙ ap (with_front (backslash ∷ [])) (with_front-append (b ∷ []) run _)
    ∙ with_front-append (backslash ∷ []) (b ∷ run) _
run_closed (plain_byte {b = b} {rest = run} q s r) rest =
    at_plain b (run ++ rest) q s ∙ ap (with_front (b ∷ [])) (run_closed r rest) ∙ with_front-append (b ∷ []) run _

run_open : {run : List ℕ} → IsRunAfter false run → segments_from quoted run ≡ run ∷ []
run_open text_ends = refl
run_open lone_backslash = refl
run_open (escaped_byte {b = b} r) = ap (λ ps. with_front (backslash ∷ []) (with_front (b ∷ []) ps)) (run_open r)
run_open (plain_byte {b = b} {rest = run} q s r) = at_plain b run q s ∙ ap (with_front (b ∷ [])) (run_open r)

segment_last : {closed : Bool} {segment : List ℕ} → IsSegment closed segment → segments_from outside segment ≡ segment ∷ []
segment_last segment_ends = refl
segment_last (other_byte {b = b} {rest = rest} q s p) = at_other b rest q s ∙ ap (with_front (b ∷ [])) (segment_last p)
segment_last (closed_run {run = run} {rest = rest} r p e) =
    ap (segments_from outside) e ∙ ap (with_front (quote ∷ [])) (run_closed r rest ∙ ap (with_front run) (segment_last p))
    ∙ ap (λ q. q ∷ []) (sym e)
segment_last (open_run r) = ap (with_front (quote ∷ [])) (run_open r)

segment_more : {segment : List ℕ} → IsSegment true segment → (rest : List ℕ)
    → segments_from outside (segment ++ semicolon ∷ rest) ≡ segment ∷ segments_from outside rest
segment_more segment_ends rest = refl
segment_more (other_byte {b = b} {rest = more} q s p) rest =
    at_other b (more ++ semicolon ∷ rest) q s ∙ ap (with_front (b ∷ [])) (segment_more p rest)
segment_more (closed_run {run = run} {rest = more} r p e) rest =
    ap (λ x. segments_from outside (x ++ semicolon ∷ rest)) e
    ∙ ap (λ x. with_front (quote ∷ []) (segments_from quoted x)) (append_assoc run more (semicolon ∷ rest))
    ∙ ap (with_front (quote ∷ [])) (run_closed r (more ++ semicolon ∷ rest) ∙ ap (with_front run) (segment_more p rest))
    ∙ ap (λ q. q ∷ segments_from outside rest) (sym e)

segments_are : {text : List ℕ} {ps : List (List ℕ)} → AreSegments text ps → ps ≡ segments_from outside text
segments_are (last_segment p) = sym (segment_last p)
segments_are (more_segments {segment = segment} {rest = rest} p more e) =
    ap (λ ps. segment ∷ ps) (segments_are more) ∙ sym (ap (segments_from outside) e ∙ segment_more p rest)

pub segments_only : (text : List ℕ) (ps : List (List ℕ)) → AreSegments text ps → ps ≡ segments text
unfolding segments
segments_only text ps are = segments_are are

-- ---- the list that is computed fits

-- bytes in a quoted run, and the segments that they are from there on
data RunThen : List ℕ → List (List ℕ) → Type 0 where
  run_ends : {run : List ℕ} → IsRunAfter false run → RunThen run (run ∷ [])
  run_closes : {run rest bytes : List ℕ} {ps qs : List (List ℕ)} → IsRunAfter true run → AreSegments rest ps → bytes ≡ run ++ rest
      → qs ≡ with_front run ps → RunThen bytes qs

front_other : (b : ℕ) {bytes : List ℕ} {ps : List (List ℕ)} → b ≢ quote → b ≢ semicolon → AreSegments bytes ps
    → AreSegments (b ∷ bytes) (with_front (b ∷ []) ps)
front_other b q s (last_segment p) = last_segment (other_byte q s p)
front_other b q s (more_segments p more e) = more_segments (other_byte q s p) more (ap (λ x. b ∷ x) e)

front_run : {run rest : List ℕ} {ps : List (List ℕ)} → IsRunAfter true run → AreSegments rest ps
    → AreSegments (quote ∷ (run ++ rest)) (with_front (quote ∷ run) ps)
front_run r (last_segment p) = last_segment (closed_run r p refl)
front_run {run} r (more_segments {segment = segment} {rest = rest} p more e) =
    more_segments (closed_run r p refl) more (ap (λ x. quote ∷ (run ++ x)) e ∙ ap (λ x. quote ∷ x) (sym (append_assoc run segment (semicolon ∷ rest))))

from_run : {bytes : List ℕ} {ps : List (List ℕ)} → RunThen bytes ps → AreSegments (quote ∷ bytes) (with_front (quote ∷ []) ps)
from_run (run_ends r) = last_segment (open_run r)
from_run {bytes} (run_closes {run = run} {rest = rest} {ps = ps} r are e f) =
    subst (λ qs. AreSegments (quote ∷ bytes) (with_front (quote ∷ []) qs)) (sym f)
    (subst (λ x. AreSegments (quote ∷ x) (with_front (quote ∷ []) (with_front run ps))) (sym e)
    (subst (AreSegments (quote ∷ (run ++ rest))) (sym (with_front-append (quote ∷ []) run ps)) (front_run r are)))

then_plain : (b : ℕ) {bytes : List ℕ} {ps : List (List ℕ)} → b ≢ quote → b ≢ backslash → RunThen bytes ps
    → RunThen (b ∷ bytes) (with_front (b ∷ []) ps)
then_plain b q s (run_ends r) = run_ends (plain_byte q s r)
then_plain b q s (run_closes {run = run} {ps = ps} r are e f) =
    run_closes (plain_byte q s r) are (ap (λ x. b ∷ x) e) (ap (with_front (b ∷ [])) f ∙ with_front-append (b ∷ []) run ps)

then_escaped : (b : ℕ) {bytes : List ℕ} {ps : List (List ℕ)} → RunThen bytes ps
    → RunThen (backslash ∷ b ∷ bytes) (with_front (backslash ∷ []) (with_front (b ∷ []) ps))
then_escaped b (run_ends r) = run_ends (escaped_byte r)
then_escaped b (run_closes {run = run} {ps = ps} r are e f) =
    run_closes (escaped_byte r) are (ap (λ x. backslash ∷ b ∷ x) e)
    (ap (λ qs. with_front (backslash ∷ []) (with_front (b ∷ []) qs)) f ∙ with_front-append (backslash ∷ []) (b ∷ []) (with_front run ps)
    ∙ with_front-append (backslash ∷ b ∷ []) run ps)

outside_by : (b : ℕ) (bytes : List ℕ) (s : Bool) → eqb b semicolon ≡ s → (q : Bool) → eqb b quote ≡ q
    → AreSegments bytes (segments_from outside bytes) → RunThen bytes (segments_from quoted bytes) → AreSegments (b ∷ bytes) (segments_from outside (b ∷ bytes))
outside_by b bytes true es q eq are run =
    subst (AreSegments (b ∷ bytes)) (sym (at_end outside b bytes es))
    (more_segments segment_ends are (ap (λ x. x ∷ bytes) (eqb-true b semicolon es)))
outside_by b bytes false es true eq are run =
    subst (λ x. AreSegments (x ∷ bytes) (segments_from outside (x ∷ bytes))) (sym (eqb-true b quote eq)) (from_run run)
outside_by b bytes false es false eq are run =
    subst (AreSegments (b ∷ bytes)) (sym (at_other b bytes (eqb-false b quote eq) (eqb-false b semicolon es)))
    (front_other b (eqb-false b quote eq) (eqb-false b semicolon es) are)

-- a byte that is not a backslash, in a quoted run
quoted_by : (b : ℕ) (bytes : List ℕ) → b ≢ backslash → (q : Bool) → eqb b quote ≡ q → AreSegments bytes (segments_from outside bytes)
    → RunThen bytes (segments_from quoted bytes) → RunThen (b ∷ bytes) (segments_from quoted (b ∷ bytes))
quoted_by b bytes s true eq are run =
    subst (λ x. RunThen (x ∷ bytes) (segments_from quoted (x ∷ bytes))) (sym (eqb-true b quote eq))
    (run_closes closing_quote are refl refl)
quoted_by b bytes s false eq are run =
    subst (RunThen (b ∷ bytes)) (sym (at_plain b bytes (eqb-false b quote eq) s)) (then_plain b (eqb-false b quote eq) s run)

backslash_or : (P : ℕ → Type 0) (b : ℕ) → P backslash → (b ≢ backslash → P b) → P b
backslash_or P b here other = go (eqb b backslash) refl
  where
    go : (t : Bool) → eqb b backslash ≡ t → P b
    go true e = subst P (sym (eqb-true b backslash e)) here
    go false e = other (eqb-false b backslash e)

both : (bytes : List ℕ) → AreSegments bytes (segments_from outside bytes) × RunThen bytes (segments_from quoted bytes)
both [] = (last_segment segment_ends, run_ends text_ends)
both (b ∷ []) =
    let next = both [] in (
      outside_by b [] _ refl _ refl next.0 next.1,
      backslash_or (λ b. RunThen (b ∷ []) (segments_from quoted (b ∷ []))) b (run_ends lone_backslash)
          (λ s. quoted_by b [] s _ refl next.0 next.1),
    )
both (b ∷ c ∷ bytes) =
    let next = both (c ∷ bytes) in
    let later = both bytes in (
      outside_by b (c ∷ bytes) _ refl _ refl next.0 next.1,
      backslash_or (λ b. RunThen (b ∷ c ∷ bytes) (segments_from quoted (b ∷ c ∷ bytes))) b (then_escaped c later.1)
          (λ s. quoted_by b (c ∷ bytes) s _ refl next.0 next.1),
    )

pub segments_fit : (text : List ℕ) → AreSegments text (segments text)
unfolding segments
segments_fit text = (both text).0

-- ---- the search for the first segment

with_front-nil : (w : QuoteState) (bytes : List ℕ) → with_front [] (segments_from w bytes) ≡ segments_from w bytes
with_front-nil w [] = refl
with_front-nil w (b ∷ bytes) = go (ends w b) refl
  where
    go : (t : Bool) → ends w b ≡ t → with_front [] (segments_from w (b ∷ bytes)) ≡ segments_from w (b ∷ bytes)
    go true e = ap (with_front []) (at_end w b bytes e) ∙ sym (at_end w b bytes e)
    go false e =
        ap (with_front []) (at_byte w b bytes e) ∙ with_front-append [] (b ∷ []) (segments_from (after w b) bytes)
        ∙ sym (at_byte w b bytes e)

-- the bytes up to an offset come before the first segment there
abbrev pub Reaches : List ℕ → ℕ → QuoteState → Type 0
Reaches text at w = segments text ≡ with_front (take at text) (segments_from w (drop at text))

pub reaches_semicolon : (text : List ℕ) (at : ℕ) (w : QuoteState) (b : ℕ) → at < length text → b ≡ get_or text at 0 → true ≡ ends w b → Reaches text at w
    → segments text ≡ take at text ∷ segments (drop (at + 1) text)
unfolding segments
reaches_semicolon text at w b lt is e here =
    here
    ∙ ap (λ x. with_front (take at text) (segments_from w x)) (drop_more text at 0 lt ∙ ap (λ c. c ∷ drop (at + 1) text) (sym is))
    ∙ ap (with_front (take at text)) (at_end w b (drop (at + 1) text) (sym e))
    ∙ ap (λ p. p ∷ segments_from outside (drop (at + 1) text)) (append-nil (take at text))

-- a byte that ends a segment is a semicolon
pub semicolon_ends : (w : QuoteState) (b : ℕ) → true ≡ ends w b → b ≡ semicolon
semicolon_ends outside b e = eqb-true b semicolon (sym e)
semicolon_ends quoted b e = absurd (false≢true (sym e))
semicolon_ends escaped b e = absurd (false≢true (sym e))

-- the bytes before all quotes and semicolons do
pub reaches_plain : (text : List ℕ) → Reaches text (plain_len text) outside
unfolding segments
reaches_plain [] = refl
reaches_plain (b ∷ bytes) = by_test (eqb b semicolon) (eqb b quote) refl refl (reaches_plain bytes)
  where
    n : Bool → Bool → ℕ
    n s q = cond (s || q) 0 (suc (plain_len bytes))

    by_test : (s q : Bool) → eqb b semicolon ≡ s → eqb b quote ≡ q
        → segments_from outside bytes ≡ with_front (take (plain_len bytes) bytes) (segments_from outside (drop (plain_len bytes) bytes))
        → segments_from outside (b ∷ bytes) ≡ with_front (take (n s q) (b ∷ bytes)) (segments_from outside (drop (n s q) (b ∷ bytes)))
    by_test true q e f rest = sym (with_front-nil outside (b ∷ bytes))
    by_test false true e f rest = sym (with_front-nil outside (b ∷ bytes))
    by_test false false e f rest =
        at_other b bytes (eqb-false b quote f) (eqb-false b semicolon e) ∙ ap (with_front (b ∷ [])) rest
        ∙ with_front-append (b ∷ []) (take (plain_len bytes) bytes) (segments_from outside (drop (plain_len bytes) bytes))

-- the bytes of a quoted run before all quotes and backslashes stay in it
pub run_kept : (bytes : List ℕ) (n : ℕ) → n ≡ first_place (begins (λ b. eqb b quote || eqb b backslash)) bytes
    → segments_from quoted bytes ≡ with_front (take n bytes) (segments_from quoted (drop n bytes))
run_kept bytes n is = rw is (all bytes)
  where
    len : List ℕ → ℕ
    len = first_place (begins (λ b. eqb b quote || eqb b backslash))

    by_test : (b : ℕ) (bytes : List ℕ) (q s : Bool) → eqb b quote ≡ q → eqb b backslash ≡ s
        → segments_from quoted bytes ≡ with_front (take (len bytes) bytes) (segments_from quoted (drop (len bytes) bytes))
        → segments_from quoted (b ∷ bytes)
        ≡ with_front (take (cond (q || s) 0 (suc (len bytes))) (b ∷ bytes)) (segments_from quoted (drop (cond (q || s) 0 (suc (len bytes))) (b ∷ bytes)))
    by_test b bytes true s e f rest = sym (with_front-nil quoted (b ∷ bytes))
    by_test b bytes false true e f rest = sym (with_front-nil quoted (b ∷ bytes))
    by_test b bytes false false e f rest =
        at_plain b bytes (eqb-false b quote e) (eqb-false b backslash f) ∙ ap (with_front (b ∷ [])) rest
        ∙ with_front-append (b ∷ []) (take (len bytes) bytes) (segments_from quoted (drop (len bytes) bytes))

    all : (bytes : List ℕ) → segments_from quoted bytes ≡ with_front (take (len bytes) bytes) (segments_from quoted (drop (len bytes) bytes))
    all [] = refl
    all (b ∷ bytes) = by_test b bytes (eqb b quote) (eqb b backslash) refl refl (all bytes)

-- no bytes
pub none_kept : (w : QuoteState) (bytes : List ℕ) → segments_from w bytes ≡ with_front (take 0 bytes) (segments_from w (drop 0 bytes))
none_kept w bytes = sym (with_front-nil w bytes)

-- a byte, and the bytes after it that keep the next state
pub reaches_after : (text : List ℕ) (at n next : ℕ) (w v : QuoteState) (b : ℕ) → next ≡ at + suc n → at < length text → b ≡ get_or text at 0 → false ≡ ends w b
    → v ≡ after w b → segments_from v (drop (at + 1) text) ≡ with_front (take n (drop (at + 1) text)) (segments_from v (drop n (drop (at + 1) text)))
    → Reaches text at w → Reaches text next v
reaches_after text at n next w v b goes lt is e turns kept here =
    let rest = drop (at + 1) text in
    let cut : drop at text ≡ b ∷ rest = drop_more text at 0 lt ∙ ap (λ c. c ∷ rest) (sym is) in
    let front : take next text ≡ take at text ++ (b ∷ take n rest) = ap (λ k. take k text) goes ∙ take-add at (suc n) text ∙ ap (λ x. take at text ++ take (suc n) x) cut in
    let back : drop next text ≡ drop n rest = ap (λ k. drop k text) goes ∙ sym (drop-drop (suc n) at text) ∙ ap (drop (suc n)) cut in
    let tail = segments_from v (drop n rest) in
    let step : segments_from w (b ∷ rest) ≡ with_front (b ∷ take n rest) tail =
    at_byte w b rest (sym e) ∙ ap (λ u. with_front (b ∷ []) (segments_from u rest)) (sym turns) ∙ ap (with_front (b ∷ [])) kept
    ∙ with_front-append (b ∷ []) (take n rest) tail in
    here
    ∙ ap (λ x. with_front (take at text) (segments_from w x)) cut
    ∙ ap (with_front (take at text)) step
    ∙ with_front-append (take at text) (b ∷ take n rest) tail
    ∙ ap (λ x. with_front x tail) (sym front)
    ∙ ap (λ x. with_front (take next text) (segments_from v x)) (sym back)

-- where a segment is cut
pub ruleset segment_cuts = (IsCharBoundary-after_ascii, reaches_plain, reaches_semicolon, semicolon_ends)
