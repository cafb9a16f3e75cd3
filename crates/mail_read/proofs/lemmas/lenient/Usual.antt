-- Lemmas on values in the usual form.
use Rattle.std.proofs.Common.{◌≡◌, ◌≢◌, ◌<◌, ◌≤◌, ◌+◌, ℕ, suc, Bool, true, false, cond, eqb, ltb, not, ◌||◌, ◌==◌, List, [], ◌∷◌, Some, length, drop, refl, sym, ap, ◌∙◌, ⊎_elim, arith, length-drop}
use Rattle.std.proofs.lemmas.Bool.{and_parts, cases_lt, cond-true, eqb-false, eqb-true, false≢true, ltb-false, not-true, or_parts}
use Rattle.std.proofs.lemmas.List.{drop-drop}
use Rattle.std.proofs.Math.ListN.{drop_of_length-le}
use Rattle.mail_codec.specs.Places.{begins, either_place, first_place, is_empty, place_from}
use Rattle.mail_codec.proofs.lemmas.Places.{place_from_here, place_from_next}
use Rattle.mail_codec.proofs.lemmas.PlacesSearches.{place_some}
use Rattle.mail_read.specs.lenient.Repairs.{after, lacks_nothing, may_follow, missing_at_end}
use Rattle.mail_read.specs.private.Usual.{ends_run, ends_value}
use Rattle.mail_read.specs.declared.lenient.repairs.Position.{Position}
use Rattle.mail_read.specs.declared.lenient.repairs.Position.TheVariants.{BeforeWord, InWord, InName, BeforeText, InText, InQuotes, AfterText}
use Rattle.mail_read.proofs.lemmas.lenient.Repairs.{enter-text, enter-word, same-name, same-text, same-word}

-- ---- runs of bytes

pub others : (c : ℕ) → ends_run c ≡ false → (45 ≤ c) × (c ≤ 126) × (c ≢ 47) × (c ≢ 59) × (c ≢ 61) × (c ≢ 92)
others c h =
    let all = or_parts (ltb c 45 || ltb 126 c) _ h in
    let ends = or_parts (ltb c 45) (ltb 126 c) all.0 in
    let bytes = or_parts _ _ all.1 in
    let one = or_parts _ _ bytes.0 in
    let two = or_parts _ _ bytes.1 in
    (ltb-false c 45 ends.0, ltb-false 126 c ends.1, eqb-false c 47 one.0, eqb-false c 59 one.1, eqb-false c 61 two.0, eqb-false c 92 two.1)

-- after a byte of a run the position is this one
abbrev Moves : (ℕ → Bool) → Position → Position → Type 0
Moves test position next = (c : ℕ) → test c ≡ false → (may_follow position c ≡ true) × (after position c ≡ next)

moved : (test : ℕ → Bool) (position next : Position) (c : ℕ) (cs : List ℕ) → Moves test position next → test c ≡ false
    → lacks_nothing position (c ∷ cs) ≡ lacks_nothing next cs
moved test position next c cs moves e = cond-true (may_follow position c) _ _ (moves c e).0 ∙ ap (λ p. lacks_nothing p cs) (moves c e).1

run : (test : ℕ → Bool) (position : Position) → Moves test position position → (xs : List ℕ)
    → lacks_nothing position (drop (first_place (begins test) xs) xs) ≡ lacks_nothing position xs
run test position same [] = refl
run test position same (c ∷ cs) = go (test c) refl (run test position same cs)
  where
    go : (t : Bool) → test c ≡ t → lacks_nothing position (drop (first_place (begins test) cs) cs) ≡ lacks_nothing position cs
        → lacks_nothing position (drop (cond t 0 (suc (first_place (begins test) cs))) (c ∷ cs)) ≡ lacks_nothing position (c ∷ cs)
    go true e ih = refl
    go false e ih = ih ∙ sym (moved test position position c cs same e)

-- a run that begins elsewhere, and may be empty
entered : (test : ℕ → Bool) (position next : Position) → Moves test position next → Moves test next next → (xs : List ℕ)
    → lacks_nothing position (drop (first_place (begins test) xs) xs) ≡ true → lacks_nothing next (drop (first_place (begins test) xs) xs) ≡ true
    → lacks_nothing position xs ≡ true
entered test position next enter same [] one other = one
entered test position next enter same (c ∷ cs) one other = go (test c) refl one other (run test next same cs)
  where
    go : (t : Bool) → test c ≡ t → lacks_nothing position (drop (cond t 0 (suc (first_place (begins test) cs))) (c ∷ cs)) ≡ true
        → lacks_nothing next (drop (cond t 0 (suc (first_place (begins test) cs))) (c ∷ cs)) ≡ true
        → lacks_nothing next (drop (first_place (begins test) cs) cs) ≡ lacks_nothing next cs → lacks_nothing position (c ∷ cs) ≡ true
    go true e one other on = one
    go false e one other on = moved test position next c cs enter e ∙ sym on ∙ other

in_word : Moves ends_run InWord InWord
in_word c h = let o = others c h in same-word c o.0 o.1 o.2 o.3 o.4 o.5

in_name : Moves ends_run InName InName
in_name c h = let o = others c h in same-name c o.0 o.1 o.2 o.3 o.4 o.5

in_text : Moves ends_run InText InText
in_text c h = let o = others c h in same-text c o.0 o.1 o.2 o.3 o.4 o.5

to_word : Moves ends_run BeforeWord InWord
to_word c h = let o = others c h in enter-word c o.0 o.1 o.2 o.3 o.4 o.5

to_text : Moves ends_run BeforeText InText
to_text c h = let o = others c h in enter-text c o.0 o.1 o.2 o.3 o.4 o.5

-- in quotes
in_quotes : Moves (λ b. b == 34 || b == 92) InQuotes InQuotes
in_quotes c h = let o : (eqb c 34 ≡ false) × (eqb c 92 ≡ false) = or_parts (eqb c 34) (eqb c 92) h in (refl, rw (o.0, o.1) refl)

-- ---- the end of a run

goes_on : (xs : List ℕ) → begins (λ b. not (ends_run b)) xs ≡ true → begins ends_run xs ≡ false
goes_on [] is = refl
goes_on (x ∷ xs) is = not-true (ends_run x) is

stops : (xs : List ℕ) → 0 < length xs → begins (λ b. not (ends_run b)) xs ≡ false → begins ends_run xs ≡ true
stops [] some is = absurd (omega (arith, some))
stops (x ∷ xs) some is = go (ends_run x) is
  where
    go : (t : Bool) → not t ≡ false → t ≡ true
    go true e = refl
    go false e = absurd (false≢true (sym e))

pub run-step : (bytes : List ℕ) (at : ℕ) → begins (λ b. not (ends_run b)) (drop at bytes) ≡ true
    → (at < length bytes) × (place_from (begins ends_run) bytes at ≡ place_from (begins ends_run) bytes (at + 1))
run-step bytes at is =
    let below : at < length bytes =
    ⊎_elim (λ low. low) (λ past. absurd (false≢true (sym (ap (begins (λ b. not (ends_run b))) (drop_of_length-le bytes past)) ∙ is))) (cases_lt at (length bytes)) in
    (below, place_from_next (begins ends_run) bytes at below (goes_on (drop at bytes) is))

pub run-stop : (bytes : List ℕ) (at : ℕ) → at ≤ length bytes → begins (λ b. not (ends_run b)) (drop at bytes) ≡ false → place_from (begins ends_run) bytes at ≡ at
run-stop bytes at within lacks =
    let size = length-drop at bytes in
    ⊎_elim (λ low. place_from_here (begins ends_run) bytes at low (stops (drop at bytes) (omega (arith, size)) lacks))
    (λ past. ap (λ (xs : List ℕ). at + first_place (begins ends_run) xs) (drop_of_length-le bytes past) ∙ omega arith) (cases_lt at (length bytes))

-- ---- the end of a value

ended : (position : Position) → is_empty (missing_at_end position) ≡ true → may_follow position 59 ≡ true → after position 59 ≡ InName
    → (xs : List ℕ) → ends_value xs ≡ true → lacks_nothing position xs ≡ true
ended position end may next [] h = end
ended position end may next (c ∷ cs) h =
    let parts = and_parts _ _ h in
    let is = eqb-true c 59 parts.0 in
    cond-true (may_follow position c) _ _ (ap (may_follow position) is ∙ may) ∙ ap (λ p. lacks_nothing p cs) (ap (after position) is ∙ next) ∙ parts.1

-- ---- bytes at offsets

head : (byte : ℕ) (xs : List ℕ) → begins (λ b. b == byte) xs ≡ true → xs ≡ byte ∷ drop 1 xs
head byte [] h = absurd (false≢true h)
head byte (x ∷ xs) h = ap (λ b. b ∷ xs) (eqb-true x byte h)

pub at_byte : (byte : ℕ) (bytes : List ℕ) (at : ℕ) → begins (λ b. b == byte) (drop at bytes) ≡ true → drop at bytes ≡ byte ∷ drop (at + 1) bytes
at_byte byte bytes at h = head byte (drop at bytes) h ∙ ap (λ xs. byte ∷ xs) (drop-drop 1 at bytes)

at_end : (test : List ℕ → Bool) (bytes : List ℕ) (from end : ℕ) → end ≡ place_from test bytes from
    → drop end bytes ≡ drop (first_place test (drop from bytes)) (drop from bytes)
at_end test bytes from end e = ap (λ n. drop n bytes) e ∙ sym (drop-drop (first_place test (drop from bytes)) from bytes)

-- ---- the parts of a value

pub usual-value : (bytes : List ℕ) (end : ℕ) → end ≡ place_from (begins ends_run) bytes 0 → ends_value (drop end bytes) ≡ true → lacks_nothing BeforeWord bytes ≡ true
usual-value bytes end found ends =
    let there = at_end (begins ends_run) bytes 0 end found in
    entered ends_run BeforeWord InWord to_word in_word bytes
    (sym (ap (lacks_nothing BeforeWord) there) ∙ ended BeforeWord refl refl refl (drop end bytes) ends)
    (sym (ap (lacks_nothing InWord) there) ∙ ended InWord refl refl refl (drop end bytes) ends)

pub usual-type : (bytes : List ℕ) (slash end : ℕ) → slash ≡ place_from (begins ends_run) bytes 0 → begins (λ b. b == 47) (drop slash bytes) ≡ true
    → end ≡ place_from (begins ends_run) bytes (slash + 1) → ends_value (drop end bytes) ≡ true → lacks_nothing BeforeWord bytes ≡ true
usual-type bytes slash end first is second ends =
    let rest = drop (slash + 1) bytes in
    let there = at_end (begins ends_run) bytes (slash + 1) end second in
    let subtype : lacks_nothing BeforeWord rest ≡ true =
    entered ends_run BeforeWord InWord to_word in_word rest
    (sym (ap (lacks_nothing BeforeWord) there) ∙ ended BeforeWord refl refl refl (drop end bytes) ends)
    (sym (ap (lacks_nothing InWord) there) ∙ ended InWord refl refl refl (drop end bytes) ends) in
    let cut : drop (first_place (begins ends_run) bytes) bytes ≡ 47 ∷ rest = sym (at_end (begins ends_run) bytes 0 slash first) ∙ at_byte 47 bytes slash is in
    entered ends_run BeforeWord InWord to_word in_word bytes
    (ap (lacks_nothing BeforeWord) cut ∙ subtype) (ap (lacks_nothing InWord) cut ∙ subtype)

pub usual-name : (bytes : List ℕ) (at : ℕ) → begins (λ b. b == 32) (drop at bytes) ≡ true → lacks_nothing InName (drop (at + 1) bytes) ≡ lacks_nothing InName (drop at bytes)
usual-name bytes at is = sym (ap (lacks_nothing InName) (at_byte 32 bytes at is))

pub usual-parameter : (bytes : List ℕ) (at name equals : ℕ) → begins (λ b. b == 59) (drop at bytes) ≡ true
    → lacks_nothing InName (drop name bytes) ≡ lacks_nothing InName (drop (at + 1) bytes) → equals ≡ place_from (begins ends_run) bytes name
    → begins (λ b. b == 61) (drop equals bytes) ≡ true → lacks_nothing BeforeText (drop (equals + 1) bytes) ≡ true → ends_value (drop at bytes) ≡ true
usual-parameter bytes at name equals is same found equal text =
    let named : lacks_nothing InName (drop equals bytes) ≡ lacks_nothing InName (drop name bytes) =
    ap (lacks_nothing InName) (at_end (begins ends_run) bytes name equals found) ∙ run ends_run InName in_name (drop name bytes) in
    ap ends_value (at_byte 59 bytes at is) ∙ sym same ∙ sym named ∙ ap (lacks_nothing InName) (at_byte 61 bytes equals equal) ∙ text

pub usual-word : (bytes : List ℕ) (from end : ℕ) → end ≡ place_from (begins ends_run) bytes from → ends_value (drop end bytes) ≡ true
    → lacks_nothing BeforeText (drop from bytes) ≡ true
usual-word bytes from end found ends =
    let there = at_end (begins ends_run) bytes from end found in
    entered ends_run BeforeText InText to_text in_text (drop from bytes)
    (sym (ap (lacks_nothing BeforeText) there) ∙ ended BeforeText refl refl refl (drop end bytes) ends)
    (sym (ap (lacks_nothing InText) there) ∙ ended InText refl refl refl (drop end bytes) ends)

pub usual-quoted : (bytes rest : List ℕ) (from length : ℕ) → begins (λ b. b == 34) (drop from bytes) ≡ true → rest ≡ drop (from + 1) bytes
    → Some length ≡ either_place rest 34 92 → begins (λ b. b == 34) (drop (from + 1 + length) bytes) ≡ true
    → ends_value (drop (from + 1 + length + 1) bytes) ≡ true → lacks_nothing BeforeText (drop from bytes) ≡ true
usual-quoted bytes rest from length is same found quote ends =
    let at = place_some (begins (λ b. b == 34 || b == 92)) rest length found in
    let there : drop (first_place (begins (λ b. b == 34 || b == 92)) rest) rest ≡ drop (from + 1 + length) bytes =
    ap (λ n. drop n rest) (sym at.0) ∙ ap (drop length) same ∙ drop-drop length (from + 1) bytes in
    ap (lacks_nothing BeforeText) (at_byte 34 bytes from is)
    ∙ ap (lacks_nothing InQuotes) (sym same)
    ∙ sym (run (λ b. b == 34 || b == 92) InQuotes in_quotes rest)
    ∙ ap (lacks_nothing InQuotes) (there ∙ at_byte 34 bytes (from + 1 + length) quote)
    ∙ ended AfterText refl refl refl (drop (from + 1 + length + 1) bytes) ends
