-- Lemmas on the lines of strict mails.
use Rattle.std.proofs.Common.{◌≡◌, ◌∙◌, ◌+◌, ◌-◌, ◌<◌, ℕ, zero, suc, Bool, true, false, not, List, [], ◌∷◌, length, refl, sym, ap, subst, inl, inr, arith}
use Rattle.std.specs.Prelude.{◌↔◌, ◌⊎◌, ◌&&◌, ◌||◌, ◌==◌, codes}
use Rattle.std.proofs.lemmas.Bool.{lt-ltb, eqb-true}
use Rattle.mail_codec.specs.Ascii.{carriage_return, line_feed}
use Rattle.mail_codec.specs.Places.{begins}
use Rattle.mail_check.specs.Bytes.{byte_at, is_bare_line_feed, is_lone_return, is_nul, is_return_feed}
use Rattle.mail_check.specs.Clean.{HasPlainBytes, Nowhere}
use Rattle.mail_grammar.specs.LineEnds.{HasNoNul, no_nul, not_nul, HasNoLoneReturn, no_return, not_return, return_feed, HasNoReturnFeed, no_more, any_other, alone, HasNoBareFeed, no_feed, not_feed, after_return, is_line_byte, AreLines, no_line, in_line, end_of_line, IsText}

-- ---- truth values

cases_Bool : (t : Bool) → (t ≡ true) ⊎ (t ≡ false)
cases_Bool true = inl refl
cases_Bool false = inr refl

no_left : (s t : Bool) → s ≡ false → (s && t) ≡ false
no_left false t h = refl
no_left true t h = absurd (cc)

no_right : (s t : Bool) → t ≡ false → (s && t) ≡ false
no_right false t h = refl
no_right true t h = h

no_other : (s t : Bool) → s ≡ true → (s && t) ≡ false → t ≡ false
no_other true t h e = e
no_other false t h e = absurd (cc)

no_first : (s t : Bool) → t ≡ true → (s && t) ≡ false → s ≡ false
no_first false t h e = refl
no_first true t h e = absurd (cc)

not_not : (t : Bool) → not t ≡ false → t ≡ true
not_not true h = refl
not_not false h = absurd (cc)

not_true : (t : Bool) → t ≡ true → not t ≡ false
not_true true h = refl
not_true false h = absurd (cc)

none_of_both : (s t : Bool) → (s && not t) ≡ false → (s && t) ≡ false → s ≡ false
none_of_both false t h e = refl
none_of_both true true h e = absurd (cc)
none_of_both true false h e = absurd (cc)

is_not : (t : Bool) → t ≡ false → not t ≡ true
is_not false h = refl
is_not true h = absurd (cc)

without_true : (t : Bool) → (t && true) ≡ false → t ≡ false
without_true false h = refl
without_true true h = h

none_of_three : (s t u : Bool) → s ≡ false → t ≡ false → u ≡ false → not (s || (t || u)) ≡ true
none_of_three false false false h e f = refl
none_of_three true t u h e f = absurd (cc)
none_of_three false true u h e f = absurd (cc)
none_of_three false false true h e f = absurd (cc)

not_any : (s t u : Bool) → not (s || (t || u)) ≡ true → (s ≡ false) × (t ≡ false) × (u ≡ false)
not_any false false false h = (refl, refl, refl)
not_any true t u h = absurd (cc)
not_any false true u h = absurd (cc)
not_any false false true h = absurd (cc)

not_end : (b : ℕ) → is_line_byte b ≡ true → ((b == 0) ≡ false) × ((b == carriage_return) ≡ false) × ((b == line_feed) ≡ false)
not_end b h = not_any (b == 0) (b == carriage_return) (b == line_feed) h

-- ---- tests that pass nowhere, of the bytes after the first

next_of : (p : ℕ) → suc p + 1 ≡ suc (p + 1)
next_of p = omega arith

nul_after : (b : ℕ) (rest : List ℕ) → Nowhere (is_nul (b ∷ rest)) (b ∷ rest) → Nowhere (is_nul rest) rest
nul_after b rest h p low = h (suc p) (omega arith)

lone_next : (b : ℕ) (rest : List ℕ) (p : ℕ) → is_lone_return (b ∷ rest) (suc p) ≡ is_lone_return rest p
lone_next b rest p = ap (λ (n : ℕ). byte_at rest p carriage_return && not (byte_at (b ∷ rest) n line_feed)) (next_of p)

lone_after : (b : ℕ) (rest : List ℕ) → Nowhere (is_lone_return (b ∷ rest)) (b ∷ rest) → Nowhere (is_lone_return rest) rest
lone_after b rest h p low = sym (lone_next b rest p) ∙ h (suc p) (omega arith)

feed_next : (b : ℕ) (rest : List ℕ) (p : ℕ) → is_return_feed (b ∷ rest) (suc p) ≡ is_return_feed rest p
feed_next b rest p = ap (λ (n : ℕ). byte_at rest p carriage_return && byte_at (b ∷ rest) n line_feed) (next_of p)

feed_after : (b : ℕ) (rest : List ℕ) → Nowhere (is_return_feed (b ∷ rest)) (b ∷ rest) → Nowhere (is_return_feed rest) rest
feed_after b rest h p low = sym (feed_next b rest p) ∙ h (suc p) (omega arith)

-- a LF that is not the first byte
bare_next : (b : ℕ) (rest : List ℕ) (p : ℕ) → is_bare_line_feed (b ∷ rest) (suc (suc p)) ≡ is_bare_line_feed rest (suc p)
bare_next b rest p =
    let first : suc (suc p) - 1 ≡ suc p = omega arith in
    let second : suc p - 1 ≡ p = omega arith in
    let more = lt-ltb 0 (suc (suc p)) (omega arith) in
    let less = lt-ltb 0 (suc p) (omega arith) in
    rw (first, second, more, less) refl

-- the first byte of the rest is no LF, or follows a CR
bare_front : (b : ℕ) (rest : List ℕ) → is_bare_line_feed (b ∷ rest) 1 ≡ (byte_at rest 0 line_feed && not (b == carriage_return))
bare_front b rest = refl

bare_first : (rest : List ℕ) → is_bare_line_feed rest 0 ≡ (byte_at rest 0 line_feed && true)
bare_first rest = refl

-- ---- NUL

nul_nowhere : (bytes : List ℕ) → HasNoNul bytes → Nowhere (is_nul bytes) bytes
nul_nowhere bytes no_nul p low = absurd (omega arith)
nul_nowhere bytes (not_nul {b = b} {rest = rest} other more) zero low = other
nul_nowhere bytes (not_nul {b = b} {rest = rest} other more) (suc p) low = nul_nowhere rest more p (omega arith)

nowhere_nul : (bytes : List ℕ) → Nowhere (is_nul bytes) bytes → HasNoNul bytes
nowhere_nul [] h = no_nul
nowhere_nul (b ∷ rest) h = not_nul (h 0 (omega arith)) (nowhere_nul rest (nul_after b rest h))

pub nul_named : (bytes : List ℕ) → Nowhere (is_nul bytes) bytes ↔ HasNoNul bytes
nul_named bytes = (nowhere_nul bytes, nul_nowhere bytes)

-- ---- lone CRs

-- after a CR and a LF
lone_past : (rest : List ℕ) → Nowhere (is_lone_return rest) rest → Nowhere (is_lone_return (carriage_return ∷ line_feed ∷ rest)) (carriage_return ∷ line_feed ∷ rest)
lone_past rest h zero low = refl
lone_past rest h (suc zero) low = refl
lone_past rest h (suc (suc p)) low = lone_next carriage_return (line_feed ∷ rest) (suc p) ∙ lone_next line_feed rest p ∙ h p (omega arith)

lone_nowhere : (bytes : List ℕ) → HasNoLoneReturn bytes → Nowhere (is_lone_return bytes) bytes
lone_nowhere bytes no_return p low = absurd (omega arith)
lone_nowhere bytes (not_return {b = b} {rest = rest} other more) zero low = no_left (b == carriage_return) _ other
lone_nowhere bytes (not_return {b = b} {rest = rest} other more) (suc p) low = lone_next b rest p ∙ lone_nowhere rest more p (omega arith)
lone_nowhere bytes (return_feed {rest = rest} more made) p low =
    subst (λ (xs : List ℕ). is_lone_return xs p ≡ false) (sym made) (lone_past rest (lone_nowhere rest more) p (subst (λ (xs : List ℕ). p < length xs) made low))

nowhere_lone : (bytes : List ℕ) → Nowhere (is_lone_return bytes) bytes → HasNoLoneReturn bytes
nowhere_lone [] h = no_return
nowhere_lone (b ∷ []) h = not_return (without_true (b == carriage_return) (h 0 (omega arith))) no_return
nowhere_lone (b ∷ (c ∷ rest)) h = elim (cases_Bool (b == carriage_return)) [
  | inr other ↦ not_return other (nowhere_lone (c ∷ rest) (lone_after b (c ∷ rest) h))
  | inl is ↦
      let feed = eqb-true c line_feed (not_not (c == line_feed) (no_other (b == carriage_return) (not (c == line_feed)) is (h 0 (omega arith)))) in
      return_feed (nowhere_lone rest (lone_after c rest (lone_after b (c ∷ rest) h)))
      (ap (λ (x : ℕ). x ∷ (c ∷ rest)) (eqb-true b carriage_return is) ∙ ap (λ (x : ℕ). carriage_return ∷ (x ∷ rest)) feed)
]

pub lone_named : (bytes : List ℕ) → Nowhere (is_lone_return bytes) bytes ↔ HasNoLoneReturn bytes
lone_named bytes = (nowhere_lone bytes, lone_nowhere bytes)

-- ---- CR LF

feed_past : (rest : List ℕ) → begins (λ b. b == line_feed) rest ≡ false → Nowhere (is_return_feed rest) rest
    → Nowhere (is_return_feed (carriage_return ∷ rest)) (carriage_return ∷ rest)
feed_past rest other h zero low = other
feed_past rest other h (suc p) low = feed_next carriage_return rest p ∙ h p (omega arith)

feed_nowhere : (bytes : List ℕ) → HasNoReturnFeed bytes → Nowhere (is_return_feed bytes) bytes
feed_nowhere bytes no_more p low = absurd (omega arith)
feed_nowhere bytes (any_other {b = b} {rest = rest} other more) zero low = no_left (b == carriage_return) _ other
feed_nowhere bytes (any_other {b = b} {rest = rest} other more) (suc p) low = feed_next b rest p ∙ feed_nowhere rest more p (omega arith)
feed_nowhere bytes (alone {rest = rest} other more made) p low =
    subst (λ (xs : List ℕ). is_return_feed xs p ≡ false) (sym made) (feed_past rest other (feed_nowhere rest more) p (subst (λ (xs : List ℕ). p < length xs) made low))

nowhere_feed : (bytes : List ℕ) → Nowhere (is_return_feed bytes) bytes → HasNoReturnFeed bytes
nowhere_feed [] h = no_more
nowhere_feed (b ∷ rest) h = elim (cases_Bool (b == carriage_return)) [
  | inr other ↦ any_other other (nowhere_feed rest (feed_after b rest h))
  | inl is ↦ alone (no_other (b == carriage_return) _ is (h 0 (omega arith))) (nowhere_feed rest (feed_after b rest h)) (ap (λ (x : ℕ). x ∷ rest) (eqb-true b carriage_return is))
]

pub feed_named : (bytes : List ℕ) → Nowhere (is_return_feed bytes) bytes ↔ HasNoReturnFeed bytes
feed_named bytes = (nowhere_feed bytes, feed_nowhere bytes)

-- ---- LF without CR

-- after one byte, if the rest does not begin with a LF or that byte is a CR
bare_past : (b : ℕ) (rest : List ℕ) → (b == line_feed) ≡ false → Nowhere (is_bare_line_feed rest) rest
    → Nowhere (is_bare_line_feed (b ∷ rest)) (b ∷ rest)
bare_past b rest other h zero low = no_left (b == line_feed) _ other
bare_past b [] other h (suc p) low = absurd (omega arith)
bare_past b (c ∷ rest) other h (suc zero) low = no_left (c == line_feed) _ (without_true (c == line_feed) (h 0 (omega arith)))
bare_past b (c ∷ rest) other h (suc (suc p)) low = bare_next b (c ∷ rest) p ∙ h (suc p) (omega arith)

bare_pair : (rest : List ℕ) → Nowhere (is_bare_line_feed rest) rest
    → Nowhere (is_bare_line_feed (carriage_return ∷ line_feed ∷ rest)) (carriage_return ∷ line_feed ∷ rest)
bare_pair rest h zero low = refl
bare_pair rest h (suc zero) low = refl
bare_pair [] h (suc (suc p)) low = absurd (omega arith)
bare_pair (c ∷ rest) h (suc (suc zero)) low = no_left (c == line_feed) _ (without_true (c == line_feed) (h 0 (omega arith)))
bare_pair (c ∷ rest) h (suc (suc (suc p))) low = bare_next carriage_return (line_feed ∷ (c ∷ rest)) (suc p) ∙ bare_next line_feed (c ∷ rest) p ∙ h (suc p) (omega arith)

bare_nowhere : (bytes : List ℕ) → HasNoBareFeed bytes → Nowhere (is_bare_line_feed bytes) bytes
bare_nowhere bytes no_feed p low = absurd (omega arith)
bare_nowhere bytes (not_feed {b = b} {rest = rest} other more) p low = bare_past b rest other (bare_nowhere rest more) p low
bare_nowhere bytes (after_return {rest = rest} more made) p low =
    subst (λ (xs : List ℕ). is_bare_line_feed xs p ≡ false) (sym made) (bare_pair rest (bare_nowhere rest more) p (subst (λ (xs : List ℕ). p < length xs) made low))

-- those after a byte and a LF
bare_past_feed : (b : ℕ) (rest : List ℕ) → Nowhere (is_bare_line_feed (b ∷ line_feed ∷ rest)) (b ∷ line_feed ∷ rest) → Nowhere (is_bare_line_feed rest) rest
bare_past_feed b rest h zero low = h 2 (omega arith)
bare_past_feed b rest h (suc p) low = sym (bare_next line_feed rest p) ∙ sym (bare_next b (line_feed ∷ rest) (suc p)) ∙ h (suc (suc (suc p))) (omega arith)

-- the first byte is no LF
no_front : (b : ℕ) (rest : List ℕ) → Nowhere (is_bare_line_feed (b ∷ rest)) (b ∷ rest) → (b == line_feed) ≡ false
no_front b rest h = without_true (b == line_feed) (h 0 (omega arith))

-- those after a byte, if they begin with no LF
bare_unfed : (b c : ℕ) (rest : List ℕ) → (c == line_feed) ≡ false → Nowhere (is_bare_line_feed (b ∷ (c ∷ rest))) (b ∷ (c ∷ rest)) → Nowhere (is_bare_line_feed (c ∷ rest)) (c ∷ rest)
bare_unfed b c rest other h zero low = no_left (c == line_feed) _ other
bare_unfed b c rest other h (suc p) low = sym (bare_next b (c ∷ rest) p) ∙ h (suc (suc p)) (omega arith)

nowhere_bare : (bytes : List ℕ) → Nowhere (is_bare_line_feed bytes) bytes → HasNoBareFeed bytes
nowhere_bare [] h = no_feed
nowhere_bare (b ∷ []) h = not_feed (no_front b [] h) no_feed
nowhere_bare (b ∷ (c ∷ rest)) h = elim (cases_Bool (c == line_feed)) [
  | inr other ↦ not_feed (no_front b (c ∷ rest) h) (nowhere_bare (c ∷ rest) (bare_unfed b c rest other h))
  | inl is ↦
      let feed = eqb-true c line_feed is in
      let return = eqb-true b carriage_return (not_not (b == carriage_return) (no_other (c == line_feed) (not (b == carriage_return)) is (h 1 (omega arith)))) in
      after_return (nowhere_bare rest (bare_past_feed b rest (subst (λ (x : ℕ). Nowhere (is_bare_line_feed (b ∷ x ∷ rest)) (b ∷ x ∷ rest)) feed h)))
      (ap (λ (x : ℕ). x ∷ (c ∷ rest)) return ∙ ap (λ (x : ℕ). carriage_return ∷ (x ∷ rest)) feed)
]

pub bare_named : (bytes : List ℕ) → Nowhere (is_bare_line_feed bytes) bytes ↔ HasNoBareFeed bytes
bare_named bytes = (nowhere_bare bytes, bare_nowhere bytes)

-- ---- lines

-- lines that end in LF
feed_lines_nul : (bytes : List ℕ) → AreLines (codes "\n") bytes → HasNoNul bytes
feed_lines_nul bytes no_line = no_nul
feed_lines_nul bytes (in_line {b = b} {rest = rest} is more) = not_nul (not_end b is).0 (feed_lines_nul rest more)
feed_lines_nul bytes (end_of_line {rest = rest} more made) = subst HasNoNul (sym made) (not_nul refl (feed_lines_nul rest more))

feed_lines_lone : (bytes : List ℕ) → AreLines (codes "\n") bytes → HasNoLoneReturn bytes
feed_lines_lone bytes no_line = no_return
feed_lines_lone bytes (in_line {b = b} {rest = rest} is more) = not_return (not_end b is).1 (feed_lines_lone rest more)
feed_lines_lone bytes (end_of_line {rest = rest} more made) = subst HasNoLoneReturn (sym made) (not_return refl (feed_lines_lone rest more))

feed_lines_alike : (bytes : List ℕ) → AreLines (codes "\n") bytes → HasNoReturnFeed bytes
feed_lines_alike bytes no_line = no_more
feed_lines_alike bytes (in_line {b = b} {rest = rest} is more) = any_other (not_end b is).1 (feed_lines_alike rest more)
feed_lines_alike bytes (end_of_line {rest = rest} more made) = subst HasNoReturnFeed (sym made) (any_other refl (feed_lines_alike rest more))

-- lines that end in CR LF
return_lines_nul : (bytes : List ℕ) → AreLines (codes "\r\n") bytes → HasNoNul bytes
return_lines_nul bytes no_line = no_nul
return_lines_nul bytes (in_line {b = b} {rest = rest} is more) = not_nul (not_end b is).0 (return_lines_nul rest more)
return_lines_nul bytes (end_of_line {rest = rest} more made) = subst HasNoNul (sym made) (not_nul refl (not_nul refl (return_lines_nul rest more)))

return_lines_lone : (bytes : List ℕ) → AreLines (codes "\r\n") bytes → HasNoLoneReturn bytes
return_lines_lone bytes no_line = no_return
return_lines_lone bytes (in_line {b = b} {rest = rest} is more) = not_return (not_end b is).1 (return_lines_lone rest more)
return_lines_lone bytes (end_of_line {rest = rest} more made) = return_feed (return_lines_lone rest more) made

return_lines_alike : (bytes : List ℕ) → AreLines (codes "\r\n") bytes → HasNoBareFeed bytes
return_lines_alike bytes no_line = no_feed
return_lines_alike bytes (in_line {b = b} {rest = rest} is more) = not_feed (not_end b is).2 (return_lines_alike rest more)
return_lines_alike bytes (end_of_line {rest = rest} more made) = after_return (return_lines_alike rest more) made

plain_text : (bytes : List ℕ) → IsText bytes → HasPlainBytes bytes
plain_text bytes (inl lines) = record {
  no_nul = nul_nowhere bytes (feed_lines_nul bytes lines);
  no_lone_return = lone_nowhere bytes (feed_lines_lone bytes lines);
  alike = inl (feed_nowhere bytes (feed_lines_alike bytes lines));
}
plain_text bytes (inr lines) = record {
  no_nul = nul_nowhere bytes (return_lines_nul bytes lines);
  no_lone_return = lone_nowhere bytes (return_lines_lone bytes lines);
  alike = inr (bare_nowhere bytes (return_lines_alike bytes lines));
}

feed_lines : (bytes : List ℕ) → Nowhere (is_nul bytes) bytes → Nowhere (is_lone_return bytes) bytes → Nowhere (is_return_feed bytes) bytes
    → AreLines (codes "\n") bytes
feed_lines [] nuls lone feeds = no_line
feed_lines (b ∷ rest) nuls lone feeds =
    let more = feed_lines rest (nul_after b rest nuls) (lone_after b rest lone) (feed_after b rest feeds) in
    let return = none_of_both (b == carriage_return) (byte_at (b ∷ rest) 1 line_feed) (lone 0 (omega arith)) (feeds 0 (omega arith)) in
    elim (cases_Bool (b == line_feed)) [
      | inl is ↦ end_of_line more (ap (λ (x : ℕ). x ∷ rest) (eqb-true b line_feed is))
      | inr other ↦ in_line (none_of_three (b == 0) (b == carriage_return) (b == line_feed) (nuls 0 (omega arith)) return other) more
    ]

return_lines : (bytes : List ℕ) → Nowhere (is_nul bytes) bytes → Nowhere (is_lone_return bytes) bytes → Nowhere (is_bare_line_feed bytes) bytes
    → AreLines (codes "\r\n") bytes
return_lines [] nuls lone bare = no_line
return_lines (b ∷ []) nuls lone bare =
    in_line (none_of_three (b == 0) (b == carriage_return) (b == line_feed) (nuls 0 (omega arith)) (without_true (b == carriage_return) (lone 0 (omega arith))) (no_front b [] bare)) no_line
return_lines (b ∷ (c ∷ rest)) nuls lone bare = elim (cases_Bool (c == line_feed)) [
  | inl is ↦
      let feed = eqb-true c line_feed is in
      let return = eqb-true b carriage_return (not_not (b == carriage_return) (no_other (c == line_feed) (not (b == carriage_return)) is (bare 1 (omega arith)))) in
      end_of_line
      (return_lines rest (nul_after c rest (nul_after b (c ∷ rest) nuls)) (lone_after c rest (lone_after b (c ∷ rest) lone))
      (bare_past_feed b rest (subst (λ (x : ℕ). Nowhere (is_bare_line_feed (b ∷ x ∷ rest)) (b ∷ x ∷ rest)) feed bare)))
      (ap (λ (x : ℕ). x ∷ (c ∷ rest)) return ∙ ap (λ (x : ℕ). carriage_return ∷ (x ∷ rest)) feed)
  | inr other ↦
      let return = no_first (b == carriage_return) (not (c == line_feed)) (is_not (c == line_feed) other) (lone 0 (omega arith)) in
      in_line (none_of_three (b == 0) (b == carriage_return) (b == line_feed) (nuls 0 (omega arith)) return (no_front b (c ∷ rest) bare))
      (return_lines (c ∷ rest) (nul_after b (c ∷ rest) nuls) (lone_after b (c ∷ rest) lone) (bare_unfed b c rest other bare))
]

text_plain : (bytes : List ℕ) → HasPlainBytes bytes → IsText bytes
text_plain bytes h = elim h.alike [
  | inl feeds ↦ inl (feed_lines bytes h.no_nul h.no_lone_return feeds)
  | inr bare ↦ inr (return_lines bytes h.no_nul h.no_lone_return bare)
]

pub text_is_plain : (bytes : List ℕ) → HasPlainBytes bytes ↔ IsText bytes
text_is_plain bytes = (text_plain bytes, plain_text bytes)
