-- Lemmas on searches of bytes.
use Rattle.std.proofs.Common.{◌≡◌, ◌∙◌, ◌+◌, ◌-◌, ◌<◌, ◌≤◌, ℕ, Bool, true, false, cond, List, length, take, drop, refl, sym, ap, subst, Option, Some, None, arith, length-drop, inl, inr}
use Rattle.std.specs.Prelude.{nat_lt, not, option_map, ◌&&◌, ◌||◌, ◌==◌}
use Rattle.std.specs.Str.{IsAscii}
use Rattle.std.specs.Option.{unwrap_or}
use Rattle.std.specs.List.{position_or_len}
use Rattle.std.proofs.lemmas.Bool.{cases_lt, lt-ltb, le-ltb}
use Rattle.std.proofs.lemmas.List.{take_rest, drop-drop}
use Rattle.mail_codec.specs.Places.{begins, byte_place, first_place, least, place}
use Rattle.mail_codec.proofs.lemmas.Places.{first_place-before, first_place-begins, first_place-passes, begins-at, least-before, least-is, least-passes}
use Rattle.mail_codec.proofs.lemmas.PlacesSearches.{place_none, place_some}
use Rattle.mail_codec.proofs.lemmas.Utf7.{position_unwrapped}
use Rattle.mail_check.specs.Bytes.{byte_at, first_byte, first_offset, is_high}
use Rattle.mail_check.specs.private.Patterns.{lead, matches_at}
use Rattle.mail_check.specs.declared.scan.Pattern.{Pattern}
use Rattle.mail_check.specs.declared.scan.Pattern.TheVariants.{Nul, LoneReturn, ReturnFeed, BareLineFeed, BlankFold, CommentFold, BadEscape, BlankFeed, EscapedEnd, OddEscape, LongLine, FileLine}

-- the first byte that passes, or the length
pub first_unwrapped : (test : ℕ → Bool) (xs : List ℕ)
    → unwrap_or (cond (nat_lt (position_or_len test xs) (length xs)) (Some (position_or_len test xs)) None) (length xs) ≡ first_place (begins test) xs
first_unwrapped test xs = position_unwrapped test xs ∙ sym (first_place-begins test xs)

-- nothing below a number passes
abbrev pub NoneBefore : (ℕ → Bool) → ℕ → Type 0
NoneBefore test n = (k : ℕ) → k < n → test k ≡ false

pub offset-found : (test : ℕ → Bool) (bytes : List ℕ) (p : ℕ) → p < length bytes → NoneBefore test p → test p ≡ true → Some p ≡ first_offset test bytes
unfolding first_offset
offset-found test bytes p low before here =
    let is : least test (length bytes) ≡ p = least-is test (length bytes) p (omega arith) before (λ h. here) in
    rw (is, lt-ltb p (length bytes) low) refl

pub offset-none : (test : ℕ → Bool) (bytes : List ℕ) → NoneBefore test (length bytes) → None ≡ first_offset test bytes
unfolding first_offset
offset-none test bytes before =
    let is : least test (length bytes) ≡ length bytes = least-is test (length bytes) (length bytes) (omega arith) before (λ h. absurd (omega arith)) in
    rw (is, le-ltb (length bytes) (length bytes) (omega arith)) refl

-- what a search returns
pub offset_some : (test : ℕ → Bool) (bytes : List ℕ) (p : ℕ) → Some p ≡ first_offset test bytes → (p < length bytes) × (test p ≡ true) × NoneBefore test p
unfolding first_offset
offset_some test bytes p h = elim (cases_lt (least test (length bytes)) (length bytes)) [
  | inl l ↦
      let e = lt-ltb (least test (length bytes)) (length bytes) l in
      let s = rw e at h in
      let same : least test (length bytes) ≡ p = sym (ap (λ (o : Option ℕ). unwrap_or o 0) s) in
      subst (λ (n : ℕ). (n < length bytes) × (test n ≡ true) × NoneBefore test n) same
      (l, least-passes test (length bytes) l, least-before test (length bytes))
  | inr g ↦ let e = le-ltb (least test (length bytes)) (length bytes) g in let s = rw e at h in absurd (cc)
]

pub offset_no : (test : ℕ → Bool) (bytes : List ℕ) → None ≡ first_offset test bytes → NoneBefore test (length bytes)
unfolding first_offset
offset_no test bytes h = elim (cases_lt (least test (length bytes)) (length bytes)) [
  | inl l ↦ let e = lt-ltb (least test (length bytes)) (length bytes) l in let s = rw e at h in absurd (cc)
  | inr g ↦ λ k low. least-before test (length bytes) k (omega (arith, g, low))
]

-- ---- patterns

pub and_false : (s t : Bool) → s ≡ false → (s && t) ≡ false
and_false false t h = refl
and_false true t h = cc

or_false : (s t : Bool) → s ≡ false → t ≡ false → (s || t) ≡ false
or_false true t h g = cc
or_false false t h g = g

-- a pattern occurs nowhere else than at its byte
pub no_lead : (pattern : Pattern) (bytes : List ℕ) (p : ℕ) → byte_at bytes p (lead pattern) ≡ false → matches_at pattern bytes p ≡ false
no_lead Nul bytes p h = h
no_lead LoneReturn bytes p h = and_false _ _ h
no_lead ReturnFeed bytes p h = and_false _ _ h
no_lead BareLineFeed bytes p h = and_false _ _ h
no_lead BlankFold bytes p h = and_false _ _ h
no_lead CommentFold bytes p h = and_false _ _ h
no_lead BadEscape bytes p h = and_false _ _ h
no_lead BlankFeed bytes p h = and_false _ _ h
no_lead EscapedEnd bytes p h = and_false _ _ h
no_lead OddEscape bytes p h = or_false _ _ (and_false _ _ h) (and_false _ _ h)
no_lead LongLine bytes p h = and_false _ _ h
no_lead FileLine bytes p h = and_false _ _ h

-- a search for all that passes a test has come to an offset, and finds the next place that passes a weaker one, or none
module _ (lead : List ℕ → Bool) (test : ℕ → Bool) (bytes : List ℕ) (from : ℕ) (within : from ≤ length bytes)
    (weaker : (p : ℕ) → lead (drop p bytes) ≡ false → test p ≡ false) (before : NoneBefore test from) where
  past : (n : ℕ) → n ≤ first_place lead (drop from bytes) → NoneBefore test (from + n)
  past n low k h = elim (cases_lt k from) [
    | inl l ↦ before k l
    | inr g ↦ weaker k
        (ap lead (ap (λ (i : ℕ). drop i bytes) {x = k} {y = from + (k - from)} (omega arith) ∙ sym (drop-drop (k - from) from bytes))
        ∙ first_place-before lead (drop from bytes) (k - from) (omega arith))
  ]

  pub search_found : (next : ℕ) → Some next ≡ place lead (take (length bytes - from) (drop from bytes)) → (from + next < length bytes) × NoneBefore test (from + next)
  search_found next found =
      let p = place_some lead (drop from bytes) next (found ∙ ap (place lead) (take_rest bytes from)) in
      let len = length-drop from bytes in
      (omega (arith, p.0, p.1, len), past next (omega (arith, p.0)))

  pub search_none : None ≡ place lead (take (length bytes - from) (drop from bytes)) → NoneBefore test (length bytes)
  search_none none =
      let p = place_none lead (drop from bytes) (none ∙ ap (place lead) (take_rest bytes from)) in
      let len = length-drop from bytes in
      λ k h. past (length bytes - from) (omega (arith, p, len)) k (omega arith)

-- the same for a pattern
module _ (pattern : Pattern) (bytes : List ℕ) (from : ℕ) (within : from ≤ length bytes) (before : NoneBefore (matches_at pattern bytes) from) where
  pub next_found : (next : ℕ) → Some next ≡ byte_place (take (length bytes - from) (drop from bytes)) (lead pattern)
      → (from + next < length bytes) × NoneBefore (matches_at pattern bytes) (from + next)
  next_found next found = search_found (begins (λ b. b == lead pattern)) (matches_at pattern bytes) bytes from within (no_lead pattern bytes) before next found

  pub next_none : None ≡ byte_place (take (length bytes - from) (drop from bytes)) (lead pattern) → NoneBefore (matches_at pattern bytes) (length bytes)
  next_none none = search_none (begins (λ b. b == lead pattern)) (matches_at pattern bytes) bytes from within (no_lead pattern bytes) before none

-- an offset that fails is passed
pub one_more : (test : ℕ → Bool) (n : ℕ) → NoneBefore test n → test n ≡ false → NoneBefore test (n + 1)
one_more test n before here k h = elim (cases_lt k n) [
  | inl l ↦ before k l
  | inr g ↦ ap test {x = k} {y = n} (omega arith) ∙ here
]

-- the position of the first byte that passes is its place
pub position_place : (test : ℕ → Bool) (xs : List ℕ) → cond (nat_lt (position_or_len test xs) (length xs)) (Some (position_or_len test xs)) None ≡ place (begins test) xs
position_place test xs = ap (λ (p : ℕ). cond (nat_lt p (length xs)) (Some p) None) (sym (first_place-begins test xs))

-- ---- bytes that are not ASCII

pub ascii_none : (bytes : List ℕ) → IsAscii bytes → None ≡ first_byte is_high bytes
ascii_none bytes ascii = elim (cases_lt (first_place (begins is_high) bytes) (length bytes)) [
  | inl l ↦
      let high = sym (begins-at is_high bytes (first_place (begins is_high) bytes) l) ∙ first_place-passes (begins is_high) bytes l in
      let low = lt-ltb _ 128 (ascii (first_place (begins is_high) bytes)) in
      let no : not true ≡ true = rw low at high in absurd (cc)
  | inr g ↦ ap (λ (t : Bool). cond t (Some (first_place (begins is_high) bytes)) None) (sym (le-ltb (first_place (begins is_high) bytes) (length bytes) g))
]

-- ---- a search that begins after an offset

pub place_after : (test : ℕ → Bool) (bytes : List ℕ) (from : ℕ) → from ≤ length bytes → first_place (begins test) bytes ≡ from + first_place (begins test) (drop from bytes)
    → (o : Option ℕ) → o ≡ place (begins test) (take (length bytes - from) (drop from bytes)) → option_map (λ p. from + p) o ≡ place (begins test) bytes
place_after test bytes from within passed None h =
    let none = place_none (begins test) (drop from bytes) (h ∙ ap (place (begins test)) (take_rest bytes from)) in
    sym (ap (λ (t : Bool). cond t (Some (first_place (begins test) bytes)) None) (le-ltb (first_place (begins test) bytes) (length bytes) (omega (arith, passed, none, length-drop from bytes, within))))
place_after test bytes from within passed (Some p) h =
    let some = place_some (begins test) (drop from bytes) p (h ∙ ap (place (begins test)) (take_rest bytes from)) in
    ap Some {x = from + p} {y = first_place (begins test) bytes} (omega (arith, passed, some.0))
    ∙ sym (ap (λ (t : Bool). cond t (Some (first_place (begins test) bytes)) None) (lt-ltb (first_place (begins test) bytes) (length bytes) (omega (arith, passed, some.1, length-drop from bytes))))
