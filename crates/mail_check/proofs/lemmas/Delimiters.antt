-- Lemmas on searches of dash-boundaries.
use Rattle.std.proofs.Common.{◌≡◌, ◌∙◌, ◌+◌, ◌-◌, ◌<◌, ◌≤◌, ℕ, zero, suc, Bool, true, false, List, [], ◌∷◌, length, take, drop, get_or, refl, sym, ap, Option, Some, None, arith, inl, inr, length-drop}
use Rattle.std.specs.Prelude.{◌==◌, ◌&&◌, not, nat_lt, if◌then◌else◌}
use Rattle.std.proofs.Math.Dec.{eqb-suc-zero}
use Rattle.std.proofs.lemmas.Bool.{and_parts, cases_Bool, cases_lt, lt-ltb, le-ltb}
use Rattle.std.proofs.lemmas.List.{take_rest, drop-drop}
use Rattle.mail_codec.specs.Places.{first_place, has_prefix, least, place, text_place}
use Rattle.mail_codec.proofs.lemmas.Places.{IsFirstPlace-unique, first_place-before, first_place-is_first, first_place-passes, least-before, least-is, least-passes, true_not_false}
use Rattle.mail_codec.proofs.lemmas.PlacesSearches.{place_none, place_some}
use Rattle.mailparse.specs.Delimiters.{starts_line}
use Rattle.mail_check.specs.Bytes.{first_offset, is_line_left}
use Rattle.mail_check.specs.Multiparts.{after_dash, has_dash, is_close, is_delimiter, is_from, is_inside, is_open, is_past, is_tailed, late_after, late_delimiter, without_dashes}
use Rattle.mail_check.specs.private.Delimiters.{AreFirst, found_or}
use Rattle.mail_check.specs.declared.multipart.FirstDelimiters.{FirstDelimiters}
use Rattle.mail_check.proofs.lemmas.Bytes.{NoneBefore, and_false, one_more, search_found, search_none}

-- ---- a text that is not empty

-- its place
pub text_placed : (bytes dash : List ℕ) → 0 < length dash → text_place bytes dash ≡ place (has_prefix dash) bytes
text_placed bytes dash some = some_of (length dash) some
  where
    some_of : (n : ℕ) → 0 < n → (if n == 0 then None else place (has_prefix dash) bytes) ≡ place (has_prefix dash) bytes
    some_of zero h = absurd (omega arith)
    some_of (suc n) h = rw (eqb-suc-zero n) refl

-- it was found, and not before
pub text_here : (bytes dash : List ℕ) (p : ℕ) → 0 < length dash → p < length bytes → NoneBefore (has_dash dash bytes) p → has_dash dash bytes p ≡ true
    → Some p ≡ text_place bytes dash
text_here bytes dash p some low before here =
    let is : first_place (has_prefix dash) bytes ≡ p =
    IsFirstPlace-unique (has_prefix dash) bytes _ p (first_place-is_first (has_prefix dash) bytes) (record { within = omega arith; passes = λ h. here; before = before }) in
    rw (text_placed bytes dash some, is, lt-ltb p (length bytes) low) refl

-- it is nowhere
pub text_nowhere : (bytes dash : List ℕ) → 0 < length dash → NoneBefore (has_dash dash bytes) (length bytes) → None ≡ text_place bytes dash
text_nowhere bytes dash some before =
    let is : first_place (has_prefix dash) bytes ≡ length bytes =
    IsFirstPlace-unique (has_prefix dash) bytes _ (length bytes) (first_place-is_first (has_prefix dash) bytes) (record { within = omega arith; passes = λ h. absurd (omega arith); before = before }) in
    rw (text_placed bytes dash some, is, le-ltb (length bytes) (length bytes) (omega arith)) refl

-- ---- two of its bytes

-- the bytes that begin with it have them too
pair_in : (dash bytes : List ℕ) (lead : ℕ) → lead + 1 < length dash → has_prefix dash bytes ≡ true
    → has_prefix (get_or dash lead 0 ∷ get_or dash (lead + 1) 0 ∷ []) (drop lead bytes) ≡ true
pair_in [] bytes lead long h = absurd (omega arith)
pair_in (d ∷ dash) [] lead long h = absurd (cc)
pair_in (d ∷ []) (b ∷ bytes) zero long h = absurd (omega arith)
pair_in (d ∷ e ∷ dash) (b ∷ []) zero long h = absurd (true_not_false (and_parts (d == b) _ h).1 refl)
pair_in (d ∷ e ∷ dash) (b ∷ c ∷ bytes) zero long h =
    let first = (and_parts (d == b) _ h).0 in
    let second = (and_parts (e == c) _ (and_parts (d == b) _ h).1).0 in
    rw (first, second) refl
pair_in (d ∷ dash) (b ∷ bytes) (suc lead) long h =
    let next : get_or (d ∷ dash) (suc lead + 1) 0 ≡ get_or dash (lead + 1) 0 = ap (λ (i : ℕ). get_or (d ∷ dash) i 0) {x = suc lead + 1} {y = suc (lead + 1)} (omega arith) in
    ap (λ (y : ℕ). has_prefix (get_or dash lead 0 ∷ y ∷ []) (drop lead bytes)) next ∙ pair_in dash bytes lead (omega arith) (and_parts (d == b) _ h).1

-- a search for them in the rest of a text has come to an offset, before which the dash-boundary does not occur
module _ (dash text rest : List ℕ) (lead from : ℕ) (long : lead + 1 < length dash) (is : rest ≡ drop lead text)
    (within : from ≤ length rest) (before : NoneBefore (has_dash dash text) from) where
  abbrev pair : List ℕ
  pair = get_or dash lead 0 ∷ get_or dash (lead + 1) 0 ∷ []

  no_pair : (p : ℕ) → has_prefix pair (drop p rest) ≡ false → has_dash dash text p ≡ false
  no_pair p h = elim (cases_Bool (has_dash dash text p)) [
    | inl t ↦
        let there : drop lead (drop p text) ≡ drop p rest = drop-drop lead p text ∙ ap (λ (i : ℕ). drop i text) {x = p + lead} {y = lead + p} (omega arith) ∙ sym (drop-drop p lead text) ∙ ap (drop p) (sym is) in
        absurd (true_not_false (sym (ap (has_prefix pair) there) ∙ pair_in dash (drop p text) lead long t) h)
    | inr f ↦ f
  ]

  shorter : length rest ≤ length text
  shorter = omega (arith, ap length is, length-drop lead text)

  pub pair_found : (next : ℕ) → Some next ≡ text_place (take (length rest - from) (drop from rest)) pair → (from + next < length text) × ((from + next < length rest) × NoneBefore (has_dash dash text) (from + next))
  pair_found next found =
      let p = search_found (has_prefix pair) (has_dash dash text) rest from within no_pair before next found in
      (omega (arith, p.0, shorter), p)

  pub pair_none : None ≡ text_place (take (length rest - from) (drop from rest)) pair → NoneBefore (has_dash dash text) (length text)
  pair_none none k h = elim (cases_lt k (length rest)) [
    | inl l ↦ search_none (has_prefix pair) (has_dash dash text) rest from within no_pair before none k l
    | inr g ↦ no_pair k (ap (has_prefix pair) (past rest k g))
  ]
    where
      past : (xs : List ℕ) (n : ℕ) → length xs ≤ n → drop n xs ≡ []
      past [] zero h = refl
      past [] (suc n) h = refl
      past (x ∷ xs) zero h = absurd (omega arith)
      past (x ∷ xs) (suc n) h = past xs n (omega arith)

-- ---- the next dash-boundary

module _ (dash text : List ℕ) (from : ℕ) (some : 0 < length dash) (within : from ≤ length text) where
  there : (k : ℕ) → from ≤ k → has_dash dash text k ≡ has_prefix dash (drop (k - from) (drop from text))
  there k h = ap (has_prefix dash) (ap (λ (i : ℕ). drop i text) {x = k} {y = from + (k - from)} (omega arith) ∙ sym (drop-drop (k - from) from text))

  placed : text_place (take (length text - from) (drop from text)) dash ≡ place (has_prefix dash) (drop from text)
  placed = text_placed _ dash some ∙ ap (place (has_prefix dash)) (take_rest text from)

  pub next_dash : (next : ℕ) → Some next ≡ text_place (take (length text - from) (drop from text)) dash
      → (from + next < length text) × ((has_dash dash text (from + next) ≡ true) × ((k : ℕ) → from ≤ k → k < from + next → has_dash dash text k ≡ false))
  next_dash next found =
      let p = place_some (has_prefix dash) (drop from text) next (found ∙ placed) in
      let same = ap (has_prefix dash) (ap (λ (i : ℕ). drop i (drop from text)) {x = from + next - from} {y = first_place (has_prefix dash) (drop from text)} (omega (arith, p.0))) in (
        omega (arith, p.0, p.1, length-drop from text),
        (
          there (from + next) (omega arith) ∙ same ∙ first_place-passes (has_prefix dash) (drop from text) p.1,
          λ k low high. there k low ∙ first_place-before (has_prefix dash) (drop from text) (k - from) (omega (arith, p.0)),
        ),
      )

  pub no_dash : None ≡ text_place (take (length text - from) (drop from text)) dash → (k : ℕ) → from ≤ k → k < length text → has_dash dash text k ≡ false
  no_dash none k low high =
      let p = place_none (has_prefix dash) (drop from text) (none ∙ placed) in
      there k low ∙ first_place-before (has_prefix dash) (drop from text) (k - from) (omega (arith, p, length-drop from text))

-- ---- the first offsets below a bound

-- the first offset below a bound that passes a test, if there is one
abbrev pub first_below : (ℕ → Bool) → ℕ → Option ℕ
first_below test n = if nat_lt (least test n) n then Some (least test n) else None

below_found : (test : ℕ → Bool) (n p : ℕ) → p < n → NoneBefore test p → test p ≡ true → first_below test n ≡ Some p
below_found test n p low before here =
    let is : least test n ≡ p = least-is test n p (omega arith) before (λ h. here) in
    rw (is, lt-ltb p n low) refl

below_none : (test : ℕ → Bool) (n : ℕ) → NoneBefore test n → first_below test n ≡ None
below_none test n before =
    let is : least test n ≡ n = least-is test n n (omega arith) before (λ h. absurd (omega arith)) in
    rw (is, le-ltb n n (omega arith)) refl

-- none passes below a bound, and none from there up to another
pub none_up_to : (test : ℕ → Bool) (from n : ℕ) → NoneBefore test from → ((k : ℕ) → from ≤ k → k < n → test k ≡ false) → NoneBefore test n
none_up_to test from n before none k h = elim (cases_lt k from) [
  | inl l ↦ before k l
  | inr g ↦ none k g h
]

-- none passes between two bounds
module _ (test : ℕ → Bool) (from n : ℕ) (order : from ≤ n) (none : (k : ℕ) → from ≤ k → k < n → test k ≡ false) where
  up_to : from ≤ least test from → NoneBefore test n
  up_to past = none_up_to test from n (λ k h. least-before test from k (omega (arith, past, h))) none

  pub below_same : first_below test from ≡ first_below test n
  below_same = elim (cases_lt (least test from) from) [
    | inl l ↦ below_found test from _ l (least-before test from) (least-passes test from l) ∙ sym (below_found test n _ (omega (arith, l, order)) (least-before test from) (least-passes test from l))
    | inr g ↦ below_none test from (λ k h. least-before test from k (omega (arith, g, h))) ∙ sym (below_none test n (up_to g))
  ]

  pub below_next : found_or (first_below test from) n (test n) ≡ first_below test (n + 1)
  below_next = elim (cases_lt (least test from) from) [
    | inl l ↦
        ap (λ (found : Option ℕ). found_or found n (test n)) (below_found test from _ l (least-before test from) (least-passes test from l))
        ∙ sym (below_found test (n + 1) _ (omega (arith, l, order)) (least-before test from) (least-passes test from l))
    | inr g ↦
        ap (λ (found : Option ℕ). found_or found n (test n)) (below_none test from (λ k h. least-before test from k (omega (arith, g, h))))
        ∙ here (up_to g)
  ]
    where
      here : NoneBefore test n → found_or None n (test n) ≡ first_below test (n + 1)
      here before = elim (cases_Bool (test n)) [
        | inl t ↦ ap (found_or None n) t ∙ sym (below_found test (n + 1) n (omega arith) before t)
        | inr f ↦ ap (found_or None n) f ∙ sym (below_none test (n + 1) (one_more test n before f))
      ]

-- a dash-boundary occurs in no way where its bytes are not
module _ (dash text : List ℕ) where
  pub no_from : (start p : ℕ) → has_dash dash text p ≡ false → is_from dash text start p ≡ false
  no_from start p h = and_false _ _ (and_false _ _ h)

  -- these are the first offsets below a bound
  pub record AreBelow (found : FirstDelimiters) (n : ℕ) : Type 0 where
    pub inside : found.inside ≡ first_below (is_inside dash text) n
    pub tailed : found.tailed ≡ first_below (is_tailed dash text) n
    pub opening : found.opening ≡ first_below (is_open dash text) n
    pub close : found.close ≡ first_below (is_close dash text) n

  -- the search has come to the end
  pub are_first : (found : FirstDelimiters) (from : ℕ) → from ≤ length text → AreBelow found from → ((k : ℕ) → from ≤ k → k < length text → has_dash dash text k ≡ false) → AreFirst dash text found
  unfolding first_offset
  are_first found from within h none =
      record {
        inside = h.inside ∙ below_same (is_inside dash text) from (length text) within (λ k low high. and_false _ _ (none k low high));
        tailed = h.tailed ∙ below_same (is_tailed dash text) from (length text) within (λ k low high. and_false _ _ (none k low high));
        opening = h.opening ∙ below_same (is_open dash text) from (length text) within (λ k low high. and_false _ _ (none k low high));
        close = h.close ∙ below_same (is_close dash text) from (length text) within (λ k low high. and_false _ _ (none k low high));
      }

  -- the next one occurs at an offset
  module _ (old new : FirstDelimiters) (from at : ℕ) (order : from ≤ at) (none : (k : ℕ) → from ≤ k → k < at → has_dash dash text k ≡ false) where
    way : (test : ℕ → Bool) (found next : Option ℕ) → ((p : ℕ) → has_dash dash text p ≡ false → test p ≡ false)
        → found ≡ first_below test from → next ≡ found_or found at (test at) → next ≡ first_below test (at + 1)
    way test found next weaker before is =
        is ∙ ap (λ (f : Option ℕ). found_or f at (test at)) before ∙ below_next test from at order (λ k low high. weaker k (none k low high))

    pub next_below : AreBelow old from
        → new.inside ≡ found_or old.inside at (is_inside dash text at) → new.tailed ≡ found_or old.tailed at (is_tailed dash text at)
        → new.opening ≡ found_or old.opening at (is_open dash text at) → new.close ≡ found_or old.close at (is_close dash text at)
        → AreBelow new (at + 1)
    next_below h inside tailed opening close =
        record {
          inside = way (is_inside dash text) old.inside new.inside (λ p n. and_false _ _ n) h.inside inside;
          tailed = way (is_tailed dash text) old.tailed new.tailed (λ p n. and_false _ _ n) h.tailed tailed;
          opening = way (is_open dash text) old.opening new.opening (λ p n. and_false _ _ n) h.opening opening;
          close = way (is_close dash text) old.close new.close (λ p n. and_false _ _ n) h.close close;
        }

-- ---- delimiters at an offset or after it

-- the dash-boundary is one, or not
pub is_from_here : (dash text : List ℕ) (start p : ℕ) (passes : Bool) → start ≤ p → has_dash dash text p ≡ true
    → passes ≡ (starts_line text 0 p && is_line_left (without_dashes (after_dash dash text p))) → is_from dash text start p ≡ passes
is_from_here dash text start p passes low here is = rw (here, le-ltb p start low) (true_last _ ∙ sym is)
  where
    true_last : (b : Bool) → (b && true) ≡ b
    true_last true = refl
    true_last false = refl

-- those past an offset are those from the next one onwards
pub past_from : (dash text : List ℕ) (start : ℕ) → first_offset (is_from dash text (start + 1)) text ≡ first_offset (is_past dash text start) text
past_from dash text start = ap (λ (test : ℕ → Bool). first_offset test text) (λ i p. is_delimiter dash text p && after p i)
  where
    after : (p : ℕ) → not (nat_lt p (start + 1)) ≡ nat_lt start p
    after p = elim (cases_lt start p) [
      | inl l ↦ rw (le-ltb p (start + 1) (omega arith), lt-ltb start p l) refl
      | inr g ↦ rw (lt-ltb p (start + 1) (omega arith), le-ltb start p g) refl
    ]

-- the late delimiter follows a close-delimiter
pub late_past : (dash text : List ℕ) (opening close : ℕ) → Some opening ≡ first_offset (is_open dash text) text → Some close ≡ first_offset (is_close dash text) text → opening < close
    → first_offset (is_from dash text (close + 1)) text ≡ late_delimiter dash text
late_past dash text opening close first last order =
    let both : late_after dash text (Some opening) (Some close) ≡ late_delimiter dash text =
    ap (λ (o : Option ℕ). late_after dash text o (Some close)) first ∙ ap (late_after dash text (first_offset (is_open dash text) text)) last in
    let here : late_after dash text (Some opening) (Some close) ≡ first_offset (is_past dash text close) text = rw (lt-ltb opening close order) refl in
    past_from dash text close ∙ sym here ∙ both
