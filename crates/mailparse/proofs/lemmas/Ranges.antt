-- The parts of a message are disjoint ranges, and so have no more bytes than there are.
use Rattle.std.proofs.Common.{◌≡◌, ℕ, zero, suc, ◌+◌, ◌-◌, ◌<◌, ◌≤◌, Bool, true, false, ◌&&◌, cond, List, [], ◌∷◌, length, drop, Option, Some, None, refl, sym, ap, subst, arith}
use Rattle.std.specs.Prelude.{nat_eq, nat_lt, option_and_then, if◌then◌else◌}
use Rattle.std.specs.List.{sum_by}
use Rattle.std.specs.Option.{option_map_or}
use Rattle.std.proofs.lemmas.List.Sums.{sum_by-cons}
use Rattle.std.proofs.lemmas.Bool.{and_parts, ltb-true}
use Rattle.mail_codec.specs.Places.{begins}
use Rattle.mailparse.specs.ContentType.{ContentType}
use Rattle.mailparse.specs.Ranges.{Range, Apart}
use Rattle.mailparse.specs.Delimiters.{before_byte, before_line_end, delimiter_from_as, end_from_as, preamble_end_as, part_after, first_part_as, next_part_as, cut_parts_as}
use Rattle.mailparse.specs.Mail.{dash_boundary_of, whole_lines_for, cut_of, cut_of_as}
use Rattle.mailparse.proofs.lemmas.Delimiters.{is_delimiter-fits, is_delimiter_as-out, delimiter_from_as-out, line_after-bounds, next_part_as-delimiter, part_ranges_as, part_ranges_as-none, part_ranges_as-some}
use Rattle.mailparse.proofs.lemmas.Mail.{dash_boundary_of-length}

before_byte-bounds : (b : ℕ) (bytes : List ℕ) (start p : ℕ) → start ≤ p → (start ≤ before_byte b bytes start p) × (before_byte b bytes start p ≤ p)
before_byte-bounds b bytes start p low = by_test (nat_lt start p && begins (λ x. nat_eq x b) (drop (p - 1) bytes)) refl
  where
    by_test : (t : Bool) → (nat_lt start p && begins (λ x. nat_eq x b) (drop (p - 1) bytes)) ≡ t → (start ≤ cond t (p - 1) p) × (cond t (p - 1) p ≤ p)
    by_test true e = let less = ltb-true start p (and_parts (nat_lt start p) _ e).0 in (omega arith, omega arith)
    by_test false e = (low, omega arith)

before_line_end-bounds : (bytes : List ℕ) (start p : ℕ) → start ≤ p → (start ≤ before_line_end bytes start p) × (before_line_end bytes start p ≤ p)
before_line_end-bounds bytes start p low =
    let feed = before_byte-bounds 10 bytes start p low in
    let return = before_byte-bounds 13 bytes start (before_byte 10 bytes start p) feed.0 in
    (return.0, omega (arith, return.1, feed.1))

Apart-weaker : (gap less from : ℕ) (rs : List Range) (to : ℕ) → less ≤ gap → Apart gap from rs to → Apart less from rs to
Apart-weaker gap less from [] to fewer h = h
Apart-weaker gap less from (r ∷ rs) to fewer h = (omega (arith, h.0), h.1, Apart-weaker gap less r.end rs to fewer h.2)

-- If whole lines are asked for, or not.
module _ (whole : Bool) where
  -- where what starts at a place ends
  end_from-bounds : (dash_boundary bytes : List ℕ) (s otherwise : ℕ) → s ≤ otherwise → otherwise ≤ length bytes → (s ≤ end_from_as whole dash_boundary bytes s otherwise) × (end_from_as whole dash_boundary bytes s otherwise ≤ length bytes)
  end_from-bounds dash_boundary bytes s otherwise low high = by_delimiter (delimiter_from_as whole dash_boundary bytes s) refl
    where
      by_delimiter : (o : Option ℕ) → delimiter_from_as whole dash_boundary bytes s ≡ o
          → (s ≤ option_map_or (before_line_end bytes s) o otherwise) × (option_map_or (before_line_end bytes s) o otherwise ≤ length bytes)
      by_delimiter None e = (low, high)
      by_delimiter (Some p) e =
          let least = delimiter_from_as-out whole dash_boundary bytes s p e in
          let bounds = before_line_end-bounds bytes s p least.low in
          (bounds.0, omega (arith, bounds.1, least.high))

  -- a delimiter and its line end lie between a part and the next one
  after_delimiter : (dash_boundary bytes : List ℕ) (s otherwise p next : ℕ) → delimiter_from_as whole dash_boundary bytes s ≡ Some p → part_after dash_boundary bytes p ≡ Some next
      → (end_from_as whole dash_boundary bytes s otherwise + suc (length dash_boundary) ≤ next) × (next ≤ length bytes)
  after_delimiter dash_boundary bytes s otherwise p next e after =
      let least = delimiter_from_as-out whole dash_boundary bytes s p e in
      let high = least.high in
      let fits = is_delimiter-fits dash_boundary bytes s p (omega arith) (is_delimiter_as-out whole dash_boundary bytes s p least.passes) in
      let line = line_after-bounds bytes (p + length dash_boundary) next fits after in
      let end : end_from_as whole dash_boundary bytes s otherwise ≡ before_line_end bytes s p = ap (λ (o : Option ℕ). option_map_or (before_line_end bytes s) o otherwise) e in
      let bounds = before_line_end-bounds bytes s p least.low in
      (omega (arith, bounds.1, line.0), line.1)

  next_part-apart : (dash_boundary bytes : List ℕ) (s next : ℕ) → next_part_as whole dash_boundary bytes s ≡ Some next
      → (end_from_as whole dash_boundary bytes s (length bytes) + suc (length dash_boundary) ≤ next) × (next ≤ length bytes)
  next_part-apart dash_boundary bytes s next e =
      let at = next_part_as-delimiter whole dash_boundary bytes s next e in
      after_delimiter dash_boundary bytes s (length bytes) at.0 next at.1 at.2

  parts_apart-from : (dash_boundary bytes : List ℕ) (n from s : ℕ) → from + suc (length dash_boundary) ≤ s → s ≤ length bytes → length bytes - s < n
      → Apart (suc (length dash_boundary)) from (part_ranges_as whole dash_boundary bytes (Some s)) (length bytes)
  parts_apart-from dash_boundary bytes zero from s gap within fuel = absurd (omega arith)
  parts_apart-from dash_boundary bytes (suc n) from s gap within fuel =
      let bounds = end_from-bounds dash_boundary bytes s (length bytes) within (omega arith) in
      subst (λ (rs : List Range). Apart (suc (length dash_boundary)) from rs (length bytes)) (sym (part_ranges_as-some whole dash_boundary bytes s))
      (gap, bounds.0, rest (next_part_as whole dash_boundary bytes s) refl (λ next. parts_apart-from dash_boundary bytes n (end_from_as whole dash_boundary bytes s (length bytes)) next))
    where
      rest : (o : Option ℕ) → next_part_as whole dash_boundary bytes s ≡ o
          → ((next : ℕ) → end_from_as whole dash_boundary bytes s (length bytes) + suc (length dash_boundary) ≤ next → next ≤ length bytes → length bytes - next < n
          → Apart (suc (length dash_boundary)) (end_from_as whole dash_boundary bytes s (length bytes)) (part_ranges_as whole dash_boundary bytes (Some next)) (length bytes))
          → Apart (suc (length dash_boundary)) (end_from_as whole dash_boundary bytes s (length bytes)) (part_ranges_as whole dash_boundary bytes o) (length bytes)
      rest None e ih =
          subst (λ (rs : List Range). Apart (suc (length dash_boundary)) (end_from_as whole dash_boundary bytes s (length bytes)) rs (length bytes)) (sym (part_ranges_as-none whole dash_boundary bytes))
          (end_from-bounds dash_boundary bytes s (length bytes) within (omega arith)).1
      rest (Some next) e ih =
          let after = next_part-apart dash_boundary bytes s next e in
          let low = (end_from-bounds dash_boundary bytes s (length bytes) within (omega arith)).0 in
          ih next after.0 after.1 (omega (arith, after.0, after.1, low))

  -- where the preamble ends
  abbrev otherwise : List ℕ → ℕ → ℕ
  otherwise bytes i = if whole then length bytes else i

  otherwise-bounds : (bytes : List ℕ) (i : ℕ) → i ≤ length bytes → (i ≤ otherwise bytes i) × (otherwise bytes i ≤ length bytes)
  otherwise-bounds bytes i within = by_lines whole
    where
      by_lines : (w : Bool) → (i ≤ (if w then length bytes else i)) × ((if w then length bytes else i) ≤ length bytes)
      by_lines true = (within, omega arith)
      by_lines false = (omega arith, within)

  preamble-bounds : (dash_boundary bytes : List ℕ) (i : ℕ) → i ≤ length bytes → (i ≤ preamble_end_as whole dash_boundary bytes i) × (preamble_end_as whole dash_boundary bytes i ≤ length bytes)
  preamble-bounds dash_boundary bytes i within =
      let bounds = otherwise-bounds bytes i within in
      end_from-bounds dash_boundary bytes i (otherwise bytes i) bounds.0 bounds.1

  -- the parts after a body
  abbrev AfterBody : List ℕ → List ℕ → ℕ → Option ℕ → Type 0
  AfterBody dash_boundary bytes i first = Apart (suc (length dash_boundary)) (preamble_end_as whole dash_boundary bytes i) (part_ranges_as whole dash_boundary bytes first) (length bytes)

  after_body : (dash_boundary bytes : List ℕ) (i : ℕ) → i ≤ length bytes → AfterBody dash_boundary bytes i (first_part_as whole dash_boundary bytes i)
  after_body dash_boundary bytes i within = by_delimiter (delimiter_from_as whole dash_boundary bytes i) refl
    where
      none : AfterBody dash_boundary bytes i None
      none =
          subst (λ (rs : List Range). Apart (suc (length dash_boundary)) (preamble_end_as whole dash_boundary bytes i) rs (length bytes)) (sym (part_ranges_as-none whole dash_boundary bytes))
          (preamble-bounds dash_boundary bytes i within).1

      by_part : (p : ℕ) → delimiter_from_as whole dash_boundary bytes i ≡ Some p → (o : Option ℕ) → part_after dash_boundary bytes p ≡ o → AfterBody dash_boundary bytes i o
      by_part p f None e = none
      by_part p f (Some s) e =
          let after = after_delimiter dash_boundary bytes i (otherwise bytes i) p s f e in
          parts_apart-from dash_boundary bytes (suc (length bytes)) (preamble_end_as whole dash_boundary bytes i) s after.0 after.1 (omega arith)

      by_delimiter : (o : Option ℕ) → delimiter_from_as whole dash_boundary bytes i ≡ o → AfterBody dash_boundary bytes i (option_and_then (part_after dash_boundary bytes) o)
      by_delimiter None f = none
      by_delimiter (Some p) f = by_part p f (part_after dash_boundary bytes p) refl

  -- the body and the parts of what is cut by a delimiter
  pub cut_parts_as-apart : (dash_boundary bytes : List ℕ) (i : ℕ) → i ≤ length bytes
      → (i ≤ (cut_parts_as whole dash_boundary bytes i).body.end) × Apart (suc (length dash_boundary)) (cut_parts_as whole dash_boundary bytes i).body.end (cut_parts_as whole dash_boundary bytes i).parts (length bytes)
  unfolding cut_parts_as
  cut_parts_as-apart dash_boundary bytes i within = ((preamble-bounds dash_boundary bytes i within).0, after_body dash_boundary bytes i within)

  cut_parts_as-start : (dash_boundary bytes : List ℕ) (i : ℕ) → (cut_parts_as whole dash_boundary bytes i).body.start ≡ i
  unfolding cut_parts_as
  cut_parts_as-start dash_boundary bytes i = refl

-- a message of any type: at least two bytes of a delimiter and its line end precede each part
pub cut_of_as-apart : (whole : Bool) (ctype : ContentType) (bytes : List ℕ) (i : ℕ) → i ≤ length bytes
    → ((cut_of_as whole ctype bytes i).body.start ≡ i) × (i ≤ (cut_of_as whole ctype bytes i).body.end) × Apart 3 (cut_of_as whole ctype bytes i).body.end (cut_of_as whole ctype bytes i).parts (length bytes)
cut_of_as-apart whole ctype bytes i within = by_delimiter (dash_boundary_of ctype) refl
  where
    by_delimiter : (o : Option (List ℕ)) → dash_boundary_of ctype ≡ o
        → let cut = option_map_or (λ dash_boundary. cut_parts_as (whole_lines_for whole dash_boundary) dash_boundary bytes i) o (record { body = record { start = i; end = length bytes }; parts = [] }) in
        (cut.body.start ≡ i) × (i ≤ cut.body.end) × Apart 3 cut.body.end cut.parts (length bytes)
    by_delimiter None e = (refl, within, omega arith)
    by_delimiter (Some dash_boundary) e =
        let lines = whole_lines_for whole dash_boundary in
        let long = dash_boundary_of-length ctype dash_boundary e in
        let apart = cut_parts_as-apart lines dash_boundary bytes i within in
        let cut = cut_parts_as lines dash_boundary bytes i in
        (cut_parts_as-start lines dash_boundary bytes i, apart.0, Apart-weaker (suc (length dash_boundary)) 3 cut.body.end cut.parts (length bytes) (omega arith) apart.1)

-- the same if whole lines are not asked for
pub cut_of-apart : (ctype : ContentType) (bytes : List ℕ) (i : ℕ) → i ≤ length bytes
    → ((cut_of ctype bytes i).body.start ≡ i) × (i ≤ (cut_of ctype bytes i).body.end) × Apart 3 (cut_of ctype bytes i).body.end (cut_of ctype bytes i).parts (length bytes)
cut_of-apart ctype bytes i within = cut_of_as-apart false ctype bytes i within

-- the bytes of the ranges, and those before each of them, are no more than those between the two offsets
pub Apart-sum : (gap from : ℕ) (rs : List Range) (to : ℕ) → Apart gap from rs to → from + sum_by (λ r. r.end - r.start + gap) rs ≤ to
Apart-sum gap from [] to h = omega (arith, h)
Apart-sum gap from (r ∷ rs) to h = let more = Apart-sum gap r.end rs to h.2 in omega (arith, h.0, h.1, more, sum_by-cons (λ (x : Range). x.end - x.start + gap) r rs)
