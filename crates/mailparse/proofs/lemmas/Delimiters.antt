-- Lemmas on delimiters: the offset of the first one, and the ranges of the parts.
use Rattle.std.proofs.Common.{◌≡◌, ℕ, zero, suc, ◌+◌, ◌-◌, ◌<◌, ◌≤◌, Bool, true, false, cond, eqb, List, [], ◌∷◌, ◌&&◌, ◌||◌, length, drop, get_or, Option, Some, None, option_map, refl, sym, ap, ◌∙◌, subst, ⊎_elim, arith, length-drop, get_or-drop, ◌++◌, map}
use Rattle.std.specs.Prelude.{nat_lt, filter_map, option_and_then, codes, if◌then◌else◌}
use Rattle.std.proofs.lemmas.Bool.{cond-true, cond-false, cases_lt, cases_eq, lt-ltb, le-ltb, eq-eqb, eqb-true, ne_eqb, and_parts, and_from, false_from_ne_true, false≢true}
use Rattle.std.proofs.Math.Bool.{and-false}
use Rattle.std.proofs.lemmas.List.{drop-drop}
use Rattle.bstr.specs.Find.{OccursAt, FindsNeedle}
use Rattle.mail_codec.specs.Places.{has_prefix, begins, first_place, least, byte_place, text_place, values_below}
use Rattle.mail_codec.proofs.lemmas.Places.{least-is, least-before, least-passes, first_place-before, first_place-passes}
use Rattle.mailparse.specs.Header.{is_line_feed}
use Rattle.mailparse.specs.Delimiters.{least_from, starts_line, is_delimiter, is_delimiter_as, delimiter_from, delimiter_from_as, ends_line, line_after, part_after, is_close_delimiter, next_part, next_part_as, part_start_as, part_starts_as, part_range, part_range_as}
use Rattle.mail_codec.proofs.lemmas.PlacesSearches.{place_none, place_some}
use Rattle.mailparse.specs.Ranges.{Range}
use Rattle.mailparse.proofs.lemmas.Block.{values_below-same}
use Rattle.mail_codec.specs.Ascii.{line_feed}

-- there is no delimiter from a start up to an offset
abbrev pub NoDelimiter : List ℕ → List ℕ → ℕ → ℕ → Type 0
NoDelimiter dash_boundary bytes start to = (k : ℕ) → start ≤ k → k < to → is_delimiter dash_boundary bytes start k ≡ false

-- ---- the least place from a start on

pub record IsLeastFrom (test : ℕ → Bool) (start end p : ℕ) : Type 0 where
  pub low : start ≤ p
  pub high : p < end
  pub passes : test p ≡ true
  pub before : (k : ℕ) → start ≤ k → k < p → test k ≡ false

pick : ℕ → ℕ → ℕ → Option ℕ
pick start size k = cond (nat_lt k size) (Some (start + k)) None

pub least_from-some : (test : ℕ → Bool) (start end p : ℕ) → IsLeastFrom test start end p → least_from test start end ≡ Some p
unfolding pick
least_from-some test start end p h =
    let low = h.low in
    let high = h.high in
    let at : test (start + (p - start)) ≡ true = ap test (omega arith) ∙ h.passes in
    let is : least (λ n. test (start + n)) (end - start) ≡ p - start =
    least-is (λ n. test (start + n)) (end - start) (p - start) (omega arith) (λ k small. h.before (start + k) (omega arith) (omega arith)) (λ _. at) in
    ap (pick start (end - start)) is ∙ cond-true _ _ _ (lt-ltb (p - start) (end - start) (omega arith)) ∙ ap Some (omega arith)

pub least_from-none : (test : ℕ → Bool) (start end : ℕ) → ((k : ℕ) → start ≤ k → k < end → test k ≡ false) → least_from test start end ≡ None
unfolding pick
least_from-none test start end h =
    let is : least (λ n. test (start + n)) (end - start) ≡ end - start =
    least-is (λ n. test (start + n)) (end - start) (end - start) (omega arith) (λ k small. h (start + k) (omega arith) (omega arith)) (λ low. absurd (omega arith)) in
    ap (pick start (end - start)) is ∙ cond-false _ _ _ (le-ltb (end - start) (end - start) (omega arith))

pub least_from-out : (test : ℕ → Bool) (start end p : ℕ) → least_from test start end ≡ Some p → IsLeastFrom test start end p
unfolding pick
least_from-out test start end p e =
    let k = least (λ n. test (start + n)) (end - start) in
    ⊎_elim (λ small.
    let here : Some (start + k) ≡ Some p = sym (cond-true (nat_lt k (end - start)) (Some (start + k)) None (lt-ltb k (end - start) small)) ∙ e in
    let same : start + k ≡ p = cc in
    record {
      low = omega arith;
      high = omega arith;
      passes = subst (λ q. test q ≡ true) same (least-passes (λ n. test (start + n)) (end - start) small);
      before = λ j low high.
          ap test (omega arith) ∙ least-before (λ n. test (start + n)) (end - start) (j - start) (omega arith);
    })
    (λ ge. let clash : None ≡ Some p = sym (cond-false (nat_lt k (end - start)) (Some (start + k)) None (le-ltb k (end - start) ge)) ∙ e in absurd (cc))
    (cases_lt k (end - start))

-- ---- a text at an offset

eqb_swap : (a b : ℕ) → eqb a b ≡ eqb b a
eqb_swap a b = ⊎_elim (λ e. ap (λ x. eqb x b) e ∙ ap (λ x. eqb b x) (sym e)) (λ n. ne_eqb a b n ∙ sym (ne_eqb b a (λ e. n (sym e)))) (cases_eq a b)

reads_more : (x b : ℕ) (text rest : List ℕ) → x ≡ b → ((j : ℕ) → j < length text → get_or rest j 0 ≡ get_or text j 0) → (j : ℕ) → j < suc (length text)
    → get_or (b ∷ rest) j 0 ≡ get_or (x ∷ text) j 0
reads_more x b text rest same h zero low = sym same
reads_more x b text rest same h (suc j) low = h j (omega arith)

pub has_prefix_reads : (text rest : List ℕ) → has_prefix text rest ≡ true → (length text ≤ length rest) × ((j : ℕ) → j < length text → get_or rest j 0 ≡ get_or text j 0)
has_prefix_reads [] rest h = (omega arith, λ j low. absurd (omega arith))
has_prefix_reads (x ∷ text) [] h = absurd (false≢true h)
has_prefix_reads (x ∷ text) (b ∷ rest) h =
    let parts = and_parts (eqb x b) (has_prefix text rest) h in
    let more = has_prefix_reads text rest parts.1 in
    (omega (arith, more.0), reads_more x b text rest (eqb-true x b parts.0) more.1)

pub reads_stands : (text rest : List ℕ) → length text ≤ length rest → ((j : ℕ) → j < length text → get_or rest j 0 ≡ get_or text j 0) → has_prefix text rest ≡ true
reads_stands [] rest fits h = refl
reads_stands (x ∷ text) [] fits h = absurd (omega arith)
reads_stands (x ∷ text) (b ∷ rest) fits h =
    and_from (eqb x b) (has_prefix text rest) (eq-eqb x b (sym (h 0 (omega arith)))) (reads_stands text rest (omega arith) (λ j low. h (suc j) (omega arith)))

-- a delimiter is wholly within the bytes
pub is_delimiter-fits : (dash_boundary bytes : List ℕ) (start p : ℕ) → p ≤ length bytes → is_delimiter dash_boundary bytes start p ≡ true → p + length dash_boundary ≤ length bytes
is_delimiter-fits dash_boundary bytes start p within h =
    let fits = (has_prefix_reads dash_boundary (drop p bytes) (and_parts (starts_line bytes start p) (has_prefix dash_boundary (drop p bytes)) h).1).0 in
    let len = length-drop p bytes in
    omega arith

-- ---- the first delimiter

pub delimiter_from-some : (dash_boundary bytes : List ℕ) (start p : ℕ) → start ≤ p → p < length bytes → is_delimiter dash_boundary bytes start p ≡ true → NoDelimiter dash_boundary bytes start p
    → Some p ≡ delimiter_from dash_boundary bytes start
unfolding delimiter_from
delimiter_from-some dash_boundary bytes start p low high at none =
    sym (least_from-some (is_delimiter dash_boundary bytes start) start (length bytes) p (record { low = low; high = high; passes = at; before = none }))

pub delimiter_from-none : (dash_boundary bytes : List ℕ) (start : ℕ) → NoDelimiter dash_boundary bytes start (length bytes) → None ≡ delimiter_from dash_boundary bytes start
unfolding delimiter_from
delimiter_from-none dash_boundary bytes start none = sym (least_from-none (is_delimiter dash_boundary bytes start) start (length bytes) none)

pub delimiter_from-out : (dash_boundary bytes : List ℕ) (start p : ℕ) → delimiter_from dash_boundary bytes start ≡ Some p → IsLeastFrom (is_delimiter dash_boundary bytes start) start (length bytes) p
unfolding delimiter_from
delimiter_from-out dash_boundary bytes start p e = least_from-out (is_delimiter dash_boundary bytes start) start (length bytes) p e

-- the result of a search, seen by a function
nowhere : (f : ℕ → ℕ) (o : Option ℕ) → None ≡ option_map f o → None ≡ o
nowhere f None e = refl
nowhere f (Some k) e = cc

pub somewhere : (f : ℕ → ℕ) (at : ℕ) (o : Option ℕ) → Some at ≡ option_map f o → (k : ℕ) × (Some k ≡ o) × (at ≡ f k)
somewhere f at None e = let clash : Some at ≡ None = e in absurd (cc)
somewhere f at (Some k) e = let same : Some at ≡ Some (f k) = e in (k, refl, cc)

-- ---- a search for the LF and the delimiter after it

feed_and : (dash_boundary rest : List ℕ) → has_prefix (10 ∷ dash_boundary) rest ≡ (begins is_line_feed rest && has_prefix dash_boundary (drop 1 rest))
feed_and dash_boundary [] = refl
feed_and dash_boundary (b ∷ rest) = ap (λ t. t && has_prefix dash_boundary rest) (eqb_swap 10 b)

-- after the start, a delimiter is where a LF and the delimiter are one byte before
pub is_delimiter-line : (dash_boundary bytes : List ℕ) (start p : ℕ) → start < p → is_delimiter dash_boundary bytes start p ≡ has_prefix (10 ∷ dash_boundary) (drop (p - 1) bytes)
is_delimiter-line dash_boundary bytes start p later =
    let other : eqb p start ≡ false = ne_eqb p start (λ e. absurd (omega (arith, later))) in
    let there : drop 1 (drop (p - 1) bytes) ≡ drop p bytes = drop-drop 1 (p - 1) bytes ∙ ap (λ n. drop n bytes) (omega arith) in
    ap (λ t. (t || begins is_line_feed (drop (p - 1) bytes)) && has_prefix dash_boundary (drop p bytes)) other
    ∙ ap (λ rest. begins is_line_feed (drop (p - 1) bytes) && has_prefix dash_boundary rest) (sym there)
    ∙ sym (feed_and dash_boundary (drop (p - 1) bytes))

has_prefix_occurs : (text bytes : List ℕ) (k : ℕ) → k ≤ length bytes → has_prefix text (drop k bytes) ≡ true → OccursAt bytes text k
has_prefix_occurs text bytes k within h =
    let reads = has_prefix_reads text (drop k bytes) h in
    let len = length-drop k bytes in
    record { fits = omega (arith, reads.0); reads = λ j low. sym (get_or-drop k bytes j 0) ∙ reads.1 j low }

occurs_stands : (text bytes : List ℕ) (k : ℕ) → OccursAt bytes text k → has_prefix text (drop k bytes) ≡ true
occurs_stands text bytes k h =
    let fits = h.fits in
    let len = length-drop k bytes in
    reads_stands text (drop k bytes) (omega arith) (λ j low. get_or-drop k bytes j 0 ∙ h.reads j low)

-- the start itself is a delimiter if the dash-boundary is there
pub is_delimiter-start : (dash_boundary bytes : List ℕ) (start : ℕ) → is_delimiter dash_boundary bytes start start ≡ has_prefix dash_boundary (drop start bytes)
is_delimiter-start dash_boundary bytes start = ap (λ t. (t || begins is_line_feed (drop (start - 1) bytes)) && has_prefix dash_boundary (drop start bytes)) (eq-eqb start start refl)

-- there is none up to an offset before which the LF and the delimiter occur nowhere
none_to : (dash_boundary bytes : List ℕ) (start to : ℕ) → start ≤ length bytes → to ≤ length (drop start bytes) → has_prefix dash_boundary (drop start bytes) ≡ false
    → ((k : ℕ) → 0 ≤ k → k < to → OccursAt (drop start bytes) (10 ∷ dash_boundary) k → ⊥) → NoDelimiter dash_boundary bytes start (suc (start + to))
none_to dash_boundary bytes start to within fits first none k low high =
    ⊎_elim (λ same. subst (λ p. is_delimiter dash_boundary bytes start p ≡ false) (sym same) (is_delimiter-start dash_boundary bytes start ∙ first))
    (λ other.
    let i = k - 1 - start in
    let there : drop i (drop start bytes) ≡ drop (k - 1) bytes = drop-drop i start bytes ∙ ap (λ n. drop n bytes) (omega (arith, other)) in
    is_delimiter-line dash_boundary bytes start k (omega (arith, other)) ∙ ap (has_prefix (10 ∷ dash_boundary)) (sym there)
    ∙ false_from_ne_true _ (λ e. none i (omega arith) (omega (arith, other)) (has_prefix_occurs (10 ∷ dash_boundary) (drop start bytes) i (omega arith) e)))
    (cases_eq k start)

-- ---- a search from one line that begins with the dash-boundary's first byte to the next

both_and : (s t u : Bool) → s && (t && true) ≡ false → s && (t && u) ≡ false
both_and true true u h = absurd (false≢true (sym h))
both_and true false u h = refl
both_and false t u h = refl

-- a LF and the dash-boundary are only where the LF and the dash-boundary's first byte are
pub has_prefix_pair : (dash_boundary rest : List ℕ) → 0 < length dash_boundary → has_prefix (10 ∷ get_or dash_boundary 0 0 ∷ []) rest ≡ false → has_prefix (10 ∷ dash_boundary) rest ≡ false
has_prefix_pair [] rest some h = absurd (omega arith)
has_prefix_pair (x ∷ dash_boundary) [] some h = refl
has_prefix_pair (x ∷ dash_boundary) (b ∷ []) some h = and-false (eqb 10 b)
has_prefix_pair (x ∷ dash_boundary) (b ∷ c ∷ rest) some h = both_and (eqb 10 b) (eqb x c) (has_prefix dash_boundary rest) h

-- two bytes that are found are both within the bytes
pub pair_within : (a b p : ℕ) (bytes : List ℕ) → Some p ≡ text_place bytes (a ∷ b ∷ []) → p + 2 ≤ length bytes
pair_within a b p bytes e =
    let found = place_some (has_prefix (a ∷ b ∷ [])) bytes p e in
    let reads = has_prefix_reads (a ∷ b ∷ []) (drop p bytes)
    (subst (λ n. has_prefix (a ∷ b ∷ []) (drop n bytes) ≡ true) (sym found.0) (first_place-passes (has_prefix (a ∷ b ∷ [])) bytes found.1)) in
    let len = length-drop p bytes in
    omega (arith, reads.0)

-- there is none at an offset, nor up to the next LF with the dash-boundary's first byte
no_delimiter_past : (dash_boundary bytes : List ℕ) (start at j : ℕ) → 0 < length dash_boundary → start ≤ at → NoDelimiter dash_boundary bytes start at → is_delimiter dash_boundary bytes start at ≡ false
    → first_place (has_prefix (10 ∷ get_or dash_boundary 0 0 ∷ [])) (drop at bytes) ≡ j → NoDelimiter dash_boundary bytes start (suc (at + j))
no_delimiter_past dash_boundary bytes start at j some after none here first k low high =
    ⊎_elim (λ below. none k low below)
    (λ above. ⊎_elim (λ same. subst (λ p. is_delimiter dash_boundary bytes start p ≡ false) (sym same) here)
    (λ other.
    let pair = has_prefix (10 ∷ get_or dash_boundary 0 0 ∷ []) in
    let i = k - 1 - at in
    let there : drop i (drop at bytes) ≡ drop (k - 1) bytes = drop-drop i at bytes ∙ ap (λ n. drop n bytes) (omega (arith, other)) in
    let fails : pair (drop i (drop at bytes)) ≡ false = first_place-before pair (drop at bytes) i (omega (arith, first, other)) in
    is_delimiter-line dash_boundary bytes start k (omega (arith, other)) ∙ has_prefix_pair dash_boundary (drop (k - 1) bytes) some (ap pair (sym there) ∙ fails))
    (cases_eq k at))
    (cases_lt k at)

-- no such line is left
pub no_delimiter_left : (dash_boundary bytes : List ℕ) (start at : ℕ) → 0 < length dash_boundary → start ≤ at → at ≤ length bytes → NoDelimiter dash_boundary bytes start at
    → is_delimiter dash_boundary bytes start at ≡ false → None ≡ option_map (λ k. suc (at + k)) (text_place (drop at bytes) (10 ∷ get_or dash_boundary 0 0 ∷ []))
    → NoDelimiter dash_boundary bytes start (length bytes)
no_delimiter_left dash_boundary bytes start at some after within none here e k low high =
    let pair = 10 ∷ get_or dash_boundary 0 0 ∷ [] in
    let len = length-drop at bytes in
    no_delimiter_past dash_boundary bytes start at (length (drop at bytes)) some after none here
    (place_none (has_prefix pair) (drop at bytes) (nowhere (λ k. suc (at + k)) (text_place (drop at bytes) pair) e)) k low (omega arith)

-- the next such line
pub no_delimiter_to_line : (dash_boundary bytes : List ℕ) (start at next : ℕ) → 0 < length dash_boundary → start ≤ at → NoDelimiter dash_boundary bytes start at
    → is_delimiter dash_boundary bytes start at ≡ false → Some next ≡ option_map (λ k. suc (at + k)) (text_place (drop at bytes) (10 ∷ get_or dash_boundary 0 0 ∷ []))
    → NoDelimiter dash_boundary bytes start next
no_delimiter_to_line dash_boundary bytes start at next some after none here e =
    let pair = 10 ∷ get_or dash_boundary 0 0 ∷ [] in
    let there = somewhere (λ k. suc (at + k)) next (text_place (drop at bytes) pair) e in
    subst (NoDelimiter dash_boundary bytes start) (sym there.2)
    (no_delimiter_past dash_boundary bytes start at there.0 some after none here (sym (place_some (has_prefix pair) (drop at bytes) there.0 there.1).0))

-- ---- a search for the LF and the delimiter after it, by the kit's search

-- where the search found nothing
pub found_nowhere : (dash_boundary bytes : List ℕ) (start : ℕ) → start ≤ length bytes → has_prefix dash_boundary (drop start bytes) ≡ false → FindsNeedle (drop start bytes) (10 ∷ dash_boundary) 0 None
    → None ≡ delimiter_from dash_boundary bytes start
found_nowhere dash_boundary bytes start within first none =
    let len = length-drop start bytes in
    delimiter_from-none dash_boundary bytes start (λ k low high.
    none_to dash_boundary bytes start (length (drop start bytes)) within (omega arith) first (λ j least small occurs. none j least (omega arith) occurs) k low (omega arith))

-- where it found a place
pub found_line : (dash_boundary bytes : List ℕ) (start k : ℕ) → 0 < length dash_boundary → start ≤ length bytes → has_prefix dash_boundary (drop start bytes) ≡ false → FindsNeedle (drop start bytes) (10 ∷ dash_boundary) 0 (Some k)
    → (Some (start + k + 1) ≡ delimiter_from dash_boundary bytes start) × (start + k + 1 + length dash_boundary ≤ length bytes)
found_line dash_boundary bytes start k some within first found =
    let len = length-drop start bytes in
    let fits = found.1.fits in
    let there : drop k (drop start bytes) ≡ drop (start + k + 1 - 1) bytes = drop-drop k start bytes ∙ ap (λ n. drop n bytes) (omega arith) in
    let at : is_delimiter dash_boundary bytes start (start + k + 1) ≡ true =
    is_delimiter-line dash_boundary bytes start (start + k + 1) (omega arith) ∙ ap (has_prefix (10 ∷ dash_boundary)) (sym there) ∙ occurs_stands (10 ∷ dash_boundary) (drop start bytes) k found.1 in (
      delimiter_from-some dash_boundary bytes start (start + k + 1) (omega arith) (omega arith) at
          (λ j low high. none_to dash_boundary bytes start k within (omega arith) first (λ i least small occurs. found.0.before i least small occurs) j low (omega arith)),
      omega arith,
    )

-- if the delimiter is at the start
pub starts_delimiter : (dash_boundary bytes : List ℕ) (start : ℕ) → 0 < length dash_boundary → has_prefix dash_boundary (drop start bytes) ≡ true → Some start ≡ delimiter_from dash_boundary bytes start
starts_delimiter dash_boundary bytes start some h =
    let fits = (has_prefix_reads dash_boundary (drop start bytes) h).0 in
    let len = length-drop start bytes in
    delimiter_from-some dash_boundary bytes start start (omega arith) (omega arith) (is_delimiter-start dash_boundary bytes start ∙ h) (λ k low high. absurd (omega arith))

-- ---- the ranges of the parts

-- the place after a line lies after it, within the bytes
pub line_after-bounds : (bytes : List ℕ) (p next : ℕ) → p ≤ length bytes → line_after bytes p ≡ Some next → (p < next) × (next ≤ length bytes)
line_after-bounds bytes p next within e =
    let there = somewhere (λ k. suc (p + k)) next (byte_place (drop p bytes) 10) (sym e) in
    let found = place_some (begins is_line_feed) (drop p bytes) there.0 there.1 in
    let place = found.0 in
    let low = found.1 in
    let same = there.2 in
    let len = length-drop p bytes in
    (omega arith, omega arith)

-- If whole lines are asked for, or not.
module _ (whole : Bool) where
  -- each such delimiter is one without this
  pub is_delimiter_as-out : (dash_boundary bytes : List ℕ) (start p : ℕ) → is_delimiter_as whole dash_boundary bytes start p ≡ true → is_delimiter dash_boundary bytes start p ≡ true
  is_delimiter_as-out dash_boundary bytes start p h = by_lines whole h
    where
      by_lines : (w : Bool) → is_delimiter_as w dash_boundary bytes start p ≡ true → is_delimiter dash_boundary bytes start p ≡ true
      by_lines true e = (and_parts (is_delimiter dash_boundary bytes start p) (ends_line (drop (p + length dash_boundary) bytes)) e).0
      by_lines false e = e

  pub delimiter_from_as-out : (dash_boundary bytes : List ℕ) (start p : ℕ) → delimiter_from_as whole dash_boundary bytes start ≡ Some p
      → IsLeastFrom (is_delimiter_as whole dash_boundary bytes start) start (length bytes) p
  delimiter_from_as-out dash_boundary bytes start p h = by_lines whole h
    where
      by_lines : (w : Bool) → delimiter_from_as w dash_boundary bytes start ≡ Some p → IsLeastFrom (is_delimiter_as w dash_boundary bytes start) start (length bytes) p
      by_lines true e = least_from-out (is_delimiter_as true dash_boundary bytes start) start (length bytes) p e
      by_lines false e = delimiter_from-out dash_boundary bytes start p e

  -- the next part starts on the line after a delimiter
  pub next_part_as-delimiter : (dash_boundary bytes : List ℕ) (s next : ℕ) → next_part_as whole dash_boundary bytes s ≡ Some next
      → (p : ℕ) × (delimiter_from_as whole dash_boundary bytes s ≡ Some p) × (part_after dash_boundary bytes p ≡ Some next)
  next_part_as-delimiter dash_boundary bytes s next e = by_delimiter (delimiter_from_as whole dash_boundary bytes s) refl e
    where
      by_last : (p : ℕ) → delimiter_from_as whole dash_boundary bytes s ≡ Some p → (t : Bool) → if t then None else part_after dash_boundary bytes p ≡ Some next
          → (p : ℕ) × (delimiter_from_as whole dash_boundary bytes s ≡ Some p) × (part_after dash_boundary bytes p ≡ Some next)
      by_last p f true h = absurd (cc)
      by_last p f false h = (p, f, h)

      by_delimiter : (o : Option ℕ) → delimiter_from_as whole dash_boundary bytes s ≡ o → option_and_then (λ p. if is_close_delimiter dash_boundary bytes p then None else part_after dash_boundary bytes p) o ≡ Some next
          → (p : ℕ) × (delimiter_from_as whole dash_boundary bytes s ≡ Some p) × (part_after dash_boundary bytes p ≡ Some next)
      by_delimiter None f h = absurd (cc)
      by_delimiter (Some p) f h = by_last p f (is_close_delimiter dash_boundary bytes p) h

  -- after this one does, within the bytes
  pub next_part_as-bounds : (dash_boundary bytes : List ℕ) (s next : ℕ) → next_part_as whole dash_boundary bytes s ≡ Some next → (s < next) × (next ≤ length bytes)
  next_part_as-bounds dash_boundary bytes s next e =
      let at = next_part_as-delimiter dash_boundary bytes s next e in
      let least = delimiter_from_as-out dash_boundary bytes s at.0 at.1 in
      let low = least.low in
      let high = least.high in
      let fits = is_delimiter-fits dash_boundary bytes s at.0 (omega arith) (is_delimiter_as-out dash_boundary bytes s at.0 least.passes) in
      let after = line_after-bounds bytes (at.0 + length dash_boundary) next fits at.2 in
      (omega (arith, after.0), after.1)

  part_start-more : (dash_boundary bytes : List ℕ) (s j : ℕ) → part_start_as whole dash_boundary bytes (Some s) (suc j) ≡ part_start_as whole dash_boundary bytes (next_part_as whole dash_boundary bytes s) j
  part_start-more dash_boundary bytes s zero = refl
  part_start-more dash_boundary bytes s (suc j) = ap (option_and_then (next_part_as whole dash_boundary bytes)) (part_start-more dash_boundary bytes s j)

  part_start-bounds : (dash_boundary bytes : List ℕ) (s j p : ℕ) → s ≤ length bytes → part_start_as whole dash_boundary bytes (Some s) j ≡ Some p → (s + j ≤ p) × (p ≤ length bytes)
  part_start-bounds dash_boundary bytes s zero p within e = let here : Some s ≡ Some p = e in let same : s ≡ p = cc in (omega arith, omega arith)
  part_start-bounds dash_boundary bytes s (suc j) p within e = by_part (part_start_as whole dash_boundary bytes (Some s) j) refl (λ q. part_start-bounds dash_boundary bytes s j q within) e
    where
      by_part : (o : Option ℕ) → part_start_as whole dash_boundary bytes (Some s) j ≡ o → ((q : ℕ) → part_start_as whole dash_boundary bytes (Some s) j ≡ Some q → (s + j ≤ q) × (q ≤ length bytes))
          → option_and_then (next_part_as whole dash_boundary bytes) o ≡ Some p → (s + suc j ≤ p) × (p ≤ length bytes)
      by_part None f ih h = let clash : None ≡ Some p = h in absurd (cc)
      by_part (Some q) f ih h =
          let before = (ih q f).0 in
          let more = next_part_as-bounds dash_boundary bytes q p h in
          (omega (arith, more.0), more.1)

  -- the ranges of the parts, by where the first one starts
  abbrev pub part_ranges_as : List ℕ → List ℕ → Option ℕ → List Range
  part_ranges_as dash_boundary bytes first = map (part_range_as whole dash_boundary bytes) (part_starts_as whole dash_boundary bytes first)

  -- if there is none, none follows
  part_start-none : (dash_boundary bytes : List ℕ) (j : ℕ) → part_start_as whole dash_boundary bytes None j ≡ None
  part_start-none dash_boundary bytes zero = refl
  part_start-none dash_boundary bytes (suc j) = ap (option_and_then (next_part_as whole dash_boundary bytes)) (part_start-none dash_boundary bytes j)

  -- the values that are there
  abbrev present : List (Option ℕ) → List ℕ
  present = filter_map (λ start. start)

  present-none : (n : ℕ) (f : ℕ → Option ℕ) → ((j : ℕ) → f j ≡ None) → present (values_below n f) ≡ []
  present-none zero f none = refl
  present-none (suc n) f none =
      ap (λ (o : Option ℕ). present (o ∷ values_below n (λ j. f (suc j)))) (none 0) ∙ present-none n (λ j. f (suc j)) (λ j. none (suc j))

  -- a last value that is not there does not count
  present-last : (n : ℕ) (f : ℕ → Option ℕ) → f n ≡ None → present (values_below (suc n) f) ≡ present (values_below n f)
  present-last zero f none = ap (λ (o : Option ℕ). present (o ∷ [])) none
  present-last (suc n) f none = go (f 0) (present-last n (λ j. f (suc j)) none)
    where
      go : (o : Option ℕ) → present (values_below (suc n) (λ j. f (suc j))) ≡ present (values_below n (λ j. f (suc j)))
          → present (o ∷ values_below (suc n) (λ j. f (suc j))) ≡ present (o ∷ values_below n (λ j. f (suc j)))
      go None same = same
      go (Some x) same = ap (λ (rest : List ℕ). x ∷ rest) same

  pub part_ranges_as-none : (dash_boundary bytes : List ℕ) → part_ranges_as dash_boundary bytes None ≡ []
  unfolding part_starts_as
  part_ranges_as-none dash_boundary bytes =
      ap (map (part_range_as whole dash_boundary bytes)) (present-none (suc (length bytes)) (part_start_as whole dash_boundary bytes None) (part_start-none dash_boundary bytes))

  -- no part that follows another one has the number of bytes as its number
  no_part_past : (dash_boundary bytes : List ℕ) (s : ℕ) → part_start_as whole dash_boundary bytes (next_part_as whole dash_boundary bytes s) (length bytes) ≡ None
  no_part_past dash_boundary bytes s = by_next (next_part_as whole dash_boundary bytes s) refl
    where
      by_part : (next : ℕ) → next_part_as whole dash_boundary bytes s ≡ Some next → (o : Option ℕ) → part_start_as whole dash_boundary bytes (Some next) (length bytes) ≡ o → o ≡ None
      by_part next e None f = refl
      by_part next e (Some p) f =
          let here = next_part_as-bounds dash_boundary bytes s next e in
          let there = part_start-bounds dash_boundary bytes next (length bytes) p here.1 f in
          absurd (omega (arith, here.0, there.0, there.1))

      by_next : (o : Option ℕ) → next_part_as whole dash_boundary bytes s ≡ o → part_start_as whole dash_boundary bytes o (length bytes) ≡ None
      by_next None e = part_start-none dash_boundary bytes (length bytes)
      by_next (Some next) e = by_part next e (part_start_as whole dash_boundary bytes (Some next) (length bytes)) refl

  part_starts-some : (dash_boundary bytes : List ℕ) (s : ℕ)
      → part_starts_as whole dash_boundary bytes (Some s) ≡ s ∷ part_starts_as whole dash_boundary bytes (next_part_as whole dash_boundary bytes s)
  unfolding part_starts_as
  part_starts-some dash_boundary bytes s =
      let more = values_below-same (length bytes) (λ j. part_start_as whole dash_boundary bytes (Some s) (suc j)) (part_start_as whole dash_boundary bytes (next_part_as whole dash_boundary bytes s))
      (part_start-more dash_boundary bytes s) in
      ap (λ (rest : List (Option ℕ)). s ∷ present rest) more
      ∙ ap (λ (rest : List ℕ). s ∷ rest)
      (sym (present-last (length bytes) (part_start_as whole dash_boundary bytes (next_part_as whole dash_boundary bytes s)) (no_part_past dash_boundary bytes s)))

  -- the parts from one on are it and those from the next one on
  pub part_ranges_as-some : (dash_boundary bytes : List ℕ) (s : ℕ) → part_ranges_as dash_boundary bytes (Some s) ≡ part_range_as whole dash_boundary bytes s ∷ part_ranges_as dash_boundary bytes (next_part_as whole dash_boundary bytes s)
  part_ranges_as-some dash_boundary bytes s = ap (map (part_range_as whole dash_boundary bytes)) (part_starts-some dash_boundary bytes s)

-- the same if whole lines are not asked for
abbrev pub part_ranges : List ℕ → List ℕ → Option ℕ → List Range
part_ranges dash_boundary bytes first = part_ranges_as false dash_boundary bytes first

pub part_ranges-none : (dash_boundary bytes : List ℕ) → part_ranges dash_boundary bytes None ≡ []
part_ranges-none dash_boundary bytes = part_ranges_as-none false dash_boundary bytes

pub part_ranges-some : (dash_boundary bytes : List ℕ) (s : ℕ) → part_ranges dash_boundary bytes (Some s) ≡ part_range dash_boundary bytes s ∷ part_ranges dash_boundary bytes (next_part dash_boundary bytes s)
part_ranges-some dash_boundary bytes s = part_ranges_as-some false dash_boundary bytes s

-- ---- a search from one delimiter to the next, until one is a whole line

-- no delimiter from a start up to an offset is a whole line
abbrev pub NoWhole : List ℕ → List ℕ → ℕ → ℕ → Type 0
NoWhole dash_boundary bytes start to = (k : ℕ) → start ≤ k → k < to → is_delimiter_as true dash_boundary bytes start k ≡ false

pub whole-none : (dash_boundary bytes : List ℕ) (start : ℕ) → NoWhole dash_boundary bytes start (length bytes) → None ≡ delimiter_from_as true dash_boundary bytes start
whole-none dash_boundary bytes start none = sym (least_from-none (is_delimiter_as true dash_boundary bytes start) start (length bytes) none)

pub whole-some : (dash_boundary bytes : List ℕ) (start p : ℕ) → start ≤ p → p < length bytes → is_delimiter_as true dash_boundary bytes start p ≡ true
    → NoWhole dash_boundary bytes start p → Some p ≡ delimiter_from_as true dash_boundary bytes start
whole-some dash_boundary bytes start p low high at none =
    sym (least_from-some (is_delimiter_as true dash_boundary bytes start) start (length bytes) p (record { low = low; high = high; passes = at; before = none }))

-- where there is no delimiter, none is a whole line
not_whole : (dash_boundary bytes : List ℕ) (start k : ℕ) → is_delimiter dash_boundary bytes start k ≡ false → is_delimiter_as true dash_boundary bytes start k ≡ false
not_whole dash_boundary bytes start k e = ap (λ t. t && ends_line (drop (k + length dash_boundary) bytes)) e

-- the delimiters are the same from an offset where a line starts
pub from_a_line : (dash_boundary bytes : List ℕ) (start from k : ℕ) → start ≤ from → starts_line bytes start from ≡ true → from ≤ k
    → is_delimiter dash_boundary bytes start k ≡ is_delimiter dash_boundary bytes from k
from_a_line dash_boundary bytes start from k low starts later =
    ⊎_elim (λ same.
    subst (λ q. is_delimiter dash_boundary bytes start q ≡ is_delimiter dash_boundary bytes from q) same
    (ap (λ t. t && has_prefix dash_boundary (drop from bytes)) starts ∙ sym (is_delimiter-start dash_boundary bytes from)))
    (λ other. is_delimiter-line dash_boundary bytes start k (omega (arith, other)) ∙ sym (is_delimiter-line dash_boundary bytes from k (omega (arith, other))))
    (cases_eq from k)

-- there is none from the start of a line up to the next delimiter
whole_to : (dash_boundary bytes : List ℕ) (start from to : ℕ) → start ≤ from → starts_line bytes start from ≡ true → NoWhole dash_boundary bytes start from
    → ((k : ℕ) → from ≤ k → k < to → is_delimiter dash_boundary bytes from k ≡ false) → NoWhole dash_boundary bytes start to
whole_to dash_boundary bytes start from to low starts before none k least small =
    ⊎_elim (λ below. before k least below)
    (λ above. not_whole dash_boundary bytes start k (from_a_line dash_boundary bytes start from k low starts above ∙ none k above small))
    (cases_lt k from)

-- no line starts between an offset and the line after it
no_line_between : (dash_boundary bytes : List ℕ) (start at j : ℕ) → start ≤ at → first_place (begins is_line_feed) (drop at bytes) ≡ j
    → (k : ℕ) → at < k → k < suc (at + j) → is_delimiter dash_boundary bytes start k ≡ false
no_line_between dash_boundary bytes start at j low first k above below =
    let i = k - 1 - at in
    let there : drop i (drop at bytes) ≡ drop (k - 1) bytes = drop-drop i at bytes ∙ ap (λ n. drop n bytes) (omega arith) in
    let fails : begins is_line_feed (drop (k - 1) bytes) ≡ false = ap (begins is_line_feed) (sym there) ∙ first_place-before (begins is_line_feed) (drop at bytes) i (omega (arith, first)) in
    let other : eqb k start ≡ false = ne_eqb k start (λ e. absurd (omega (arith, e, above, low))) in
    ap (λ t. (t || begins is_line_feed (drop (k - 1) bytes)) && has_prefix dash_boundary (drop k bytes)) other
    ∙ ap (λ t. t && has_prefix dash_boundary (drop k bytes)) fails

-- the delimiter at an offset is not a whole line: none is up to the line after it
pub whole_past : (dash_boundary bytes : List ℕ) (start from at j : ℕ) → start ≤ from → from ≤ at → starts_line bytes start from ≡ true → NoWhole dash_boundary bytes start from
    → ((k : ℕ) → from ≤ k → k < at → is_delimiter dash_boundary bytes from k ≡ false) → ends_line (drop (at + length dash_boundary) bytes) ≡ false
    → first_place (begins is_line_feed) (drop at bytes) ≡ j → NoWhole dash_boundary bytes start (suc (at + j))
whole_past dash_boundary bytes start from at j low on starts before none more first k least small =
    ⊎_elim (λ below. whole_to dash_boundary bytes start from at low starts before none k least below)
    (λ above. ⊎_elim (λ same. subst (λ p. is_delimiter_as true dash_boundary bytes start p ≡ false) (sym same)
    (ap (λ t. is_delimiter dash_boundary bytes start at && t) more ∙ and-false (is_delimiter dash_boundary bytes start at)))
    (λ other. not_whole dash_boundary bytes start k (no_line_between dash_boundary bytes start at j (omega arith) first k (omega (arith, other)) small))
    (cases_eq k at))
    (cases_lt k at)

-- there is no delimiter where none is found
nowhere_from : (dash_boundary bytes : List ℕ) (start : ℕ) → None ≡ delimiter_from dash_boundary bytes start → NoDelimiter dash_boundary bytes start (length bytes)
unfolding delimiter_from pick
nowhere_from dash_boundary bytes start e k low high =
    let test : ℕ → Bool = λ n. is_delimiter dash_boundary bytes start (start + n) in
    let size = length bytes - start in
    ⊎_elim (λ small.
    let clash : None ≡ Some (start + least test size) = e ∙ cond-true (nat_lt (least test size) size) (Some (start + least test size)) None (lt-ltb (least test size) size small) in absurd (cc))
    (λ ge. ap (is_delimiter dash_boundary bytes start) (omega arith) ∙ least-before test size (k - start) (omega (arith, ge)))
    (cases_lt (least test size) size)

-- In a search that has come to the start of a line.
module _ (dash_boundary bytes : List ℕ) (start from : ℕ) (low : start ≤ from) (starts : starts_line bytes start from ≡ true) (none : NoWhole dash_boundary bytes start from) where
  -- no delimiter is left
  pub whole_left : None ≡ delimiter_from dash_boundary bytes from → None ≡ delimiter_from_as true dash_boundary bytes start
  whole_left e = whole-none dash_boundary bytes start (whole_to dash_boundary bytes start from (length bytes) low starts none (nowhere_from dash_boundary bytes from e))

  module _ (at : ℕ) (found : Some at ≡ delimiter_from dash_boundary bytes from) where
    -- the next one is a whole line
    pub whole_found : ends_line (drop (at + length dash_boundary) bytes) ≡ true → Some at ≡ delimiter_from_as true dash_boundary bytes start
    whole_found ends =
        let least = delimiter_from-out dash_boundary bytes from at (sym found) in
        let on = least.low in
        let here : is_delimiter dash_boundary bytes start at ≡ true = from_a_line dash_boundary bytes start from at low starts on ∙ least.passes in
        whole-some dash_boundary bytes start at (omega arith) least.high (and_from (is_delimiter dash_boundary bytes start at) (ends_line (drop (at + length dash_boundary) bytes)) here ends)
        (whole_to dash_boundary bytes start from at low starts none least.before)

    -- it is not, and no line follows
    pub whole_last : ends_line (drop (at + length dash_boundary) bytes) ≡ false → None ≡ line_after bytes at → None ≡ delimiter_from_as true dash_boundary bytes start
    whole_last more e =
        let least = delimiter_from-out dash_boundary bytes from at (sym found) in
        let high = least.high in
        let len = length-drop at bytes in
        let past = whole_past dash_boundary bytes start from at (length (drop at bytes)) low least.low starts none least.before more
        (place_none (begins is_line_feed) (drop at bytes) (nowhere (λ k. suc (at + k)) (byte_place (drop at bytes) 10) e)) in
        whole-none dash_boundary bytes start (λ k low high. past k low (omega arith))

    -- it is not, and this is the line after it
    pub whole_next : (next : ℕ) → ends_line (drop (at + length dash_boundary) bytes) ≡ false → Some next ≡ line_after bytes at
        → (starts_line bytes start next ≡ true) × NoWhole dash_boundary bytes start next
    whole_next next more e =
        let least = delimiter_from-out dash_boundary bytes from at (sym found) in
        let on = least.low in
        let there = somewhere (λ k. suc (at + k)) next (byte_place (drop at bytes) 10) e in
        let place = place_some (begins is_line_feed) (drop at bytes) there.0 there.1 in
        let passes : begins is_line_feed (drop there.0 (drop at bytes)) ≡ true =
        subst (λ n. begins is_line_feed (drop n (drop at bytes)) ≡ true) (sym place.0) (first_place-passes (begins is_line_feed) (drop at bytes) place.1) in
        let feed : begins is_line_feed (drop (next - 1) bytes) ≡ true = ap (λ n. begins is_line_feed (drop n bytes)) (omega (arith, there.2)) ∙ ap (begins is_line_feed) (sym (drop-drop there.0 at bytes)) ∙ passes in
        let other : eqb next start ≡ false = ne_eqb next start (λ e. absurd (omega (arith, e, there.2))) in (
          ap (λ t. t || begins is_line_feed (drop (next - 1) bytes)) other ∙ feed,
          subst (NoWhole dash_boundary bytes start) (sym there.2) (whole_past dash_boundary bytes start from at there.0 low on starts none least.before more (sym place.0)),
        )

-- ---- searches for texts that no delimiter has: by their contracts, what the searches for a byte, for a line
-- that begins with it and for a line that begins with a text return on short texts

-- the first `o` in `hello world` from 5 on, and from 8 on
pub byte_after_a_place : option_map (λ k. 5 + k) (byte_place (drop 5 (codes "hello world")) 111) ≡ Some 7
byte_after_a_place = refl

pub no_byte_after_a_place : option_map (λ k. 8 + k) (byte_place (drop 8 (codes "hello world")) 111) ≡ None
no_byte_after_a_place = refl

-- the first line that begins with `h` after 0, and after 6
pub line_after_a_place : option_map (λ k. suc (0 + k)) (text_place (drop 0 (codes "hello" ++ line_feed ∷ codes "hello")) (line_feed ∷ 104 ∷ [])) ≡ Some 6
line_after_a_place = refl

pub no_line_after_a_place : option_map (λ k. suc (6 + k)) (text_place (drop 6 (codes "hello" ++ line_feed ∷ codes "hello")) (line_feed ∷ 104 ∷ [])) ≡ None
no_line_after_a_place = refl

-- the first line from a place on that begins with a text
pub prefix_on_the_next_line : delimiter_from (codes "he") (codes "hello" ++ line_feed ∷ codes "hello") 1 ≡ Some 6
unfolding delimiter_from
prefix_on_the_next_line = refl

pub prefix_where_a_line_starts : delimiter_from (codes "wo") (codes "hello" ++ line_feed ∷ codes "world") 6 ≡ Some 6
unfolding delimiter_from
prefix_where_a_line_starts = refl

pub no_line_with_the_prefix : delimiter_from (codes "wo") (codes "hello" ++ line_feed ∷ codes "world") 7 ≡ None
unfolding delimiter_from
no_line_with_the_prefix = refl
