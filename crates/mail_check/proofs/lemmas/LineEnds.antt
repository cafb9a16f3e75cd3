-- Lemmas on line ends that are not a CR and a LF.
use Rattle.std.proofs.Common.{◌≡◌, ◌∙◌, ◌+◌, ◌-◌, ◌/◌, ◌%◌, ◌^◌, ◌<◌, ℕ, Bool, true, false, cond, List, map, length, take, drop, get_or, refl, sym, ap, Option, Some, None, arith, length-drop, inl, inr}
use Rattle.std.specs.Prelude.{nat_lt, is_some, not, ◌&&◌, ◌||◌, ◌==◌}
use Rattle.std.proofs.lemmas.Bool.{and_parts, cases_lt, lt-ltb, or_parts}
use Rattle.std.proofs.lemmas.List.{get_or-drop, get_or-map, get_or-take, length-take-le}
use Rattle.std.proofs.lemmas.Simd.{bit_mask_l}
use Rattle.mail_codec.specs.Ascii.{carriage_return, line_feed}
use Rattle.mail_codec.proofs.lemmas.Places.{begins-at}
use Rattle.mail_codec.specs.private.Vectors.{lane_mask}
use Rattle.mail_check.specs.Bytes.{byte_at, first_offset, is_bare_line_feed, is_lone_return}
use Rattle.mail_check.specs.private.Patterns.{has_even_ends, is_odd_end}
use Rattle.mail_check.proofs.lemmas.Bytes.{NoneBefore, and_false, offset-none, offset_no}

same_flag : (s t : Bool) → ◌≡◌ {A = ℕ} (cond s 1 0) (cond t 1 0) → s ≡ t
same_flag true true e = refl
same_flag true false e = let h : ◌≡◌ {A = ℕ} 1 0 = e in absurd (omega (arith, h))
same_flag false true e = let h : ◌≡◌ {A = ℕ} 0 1 = e in absurd (omega (arith, h))
same_flag false false e = refl

-- two equal masks have the same bits
same_lanes : (p q : ℕ → Bool) (v w : List ℕ) → length v ≡ 16 → length w ≡ 16 → lane_mask p v ≡ lane_mask q w → (k : ℕ) → k < 16 → p (get_or v k 0) ≡ q (get_or w k 0)
same_lanes p q v w long wide e k low =
    sym (get_or-map p v k 0 false (omega (arith, long)))
    ∙ same_flag _ _ (sym (bit_mask_l (map p v) k) ∙ ap (λ (m : ℕ). m / 2 ^ k % 2) e ∙ bit_mask_l (map q w) k)
    ∙ get_or-map q w k 0 false (omega (arith, wide))

even : (s t : Bool) → s ≡ t → ((s && not t) || (t && not s)) ≡ false
even true true e = refl
even false false e = refl
even true false e = absurd (cc)
even false true e = absurd (cc)

-- no odd end begins in a vector whose masks are equal
pub even_lanes : (bytes : List ℕ) (at : ℕ) → at + 16 < length bytes
    → lane_mask (λ b. b == carriage_return) (take 16 (drop at bytes)) ≡ lane_mask (λ b. b == line_feed) (take 16 (drop (at + 1) bytes))
    → NoneBefore (is_odd_end bytes) at → NoneBefore (is_odd_end bytes) (at + 16)
even_lanes bytes at fits e before k low = elim (cases_lt k at) [
  | inl l ↦ before k l
  | inr g ↦
      let i : ℕ = k - at in
      let lane : (get_or (take 16 (drop at bytes)) i 0 == carriage_return) ≡ (get_or (take 16 (drop (at + 1) bytes)) i 0 == line_feed) =
      same_lanes (λ b. b == carriage_return) (λ b. b == line_feed) (take 16 (drop at bytes)) (take 16 (drop (at + 1) bytes))
      (length-take-le 16 (drop at bytes) (omega (arith, length-drop at bytes, fits)))
      (length-take-le 16 (drop (at + 1) bytes) (omega (arith, length-drop (at + 1) bytes, fits))) e i (omega (arith, low, g)) in
      let first : get_or (take 16 (drop at bytes)) i 0 ≡ get_or bytes k 0 =
      get_or-take 16 (drop at bytes) i 0 (omega (arith, low, g)) ∙ get_or-drop at bytes i 0 ∙ ap (λ (n : ℕ). get_or bytes n 0) {x = at + i} {y = k} (omega (arith, g)) in
      let second : get_or (take 16 (drop (at + 1) bytes)) i 0 ≡ get_or bytes (k + 1) 0 =
      get_or-take 16 (drop (at + 1) bytes) i 0 (omega (arith, low, g)) ∙ get_or-drop (at + 1) bytes i 0 ∙ ap (λ (n : ℕ). get_or bytes n 0) {x = at + 1 + i} {y = k + 1} (omega (arith, g)) in
      even (byte_at bytes k carriage_return) (byte_at bytes (k + 1) line_feed)
      (begins-at (λ b. b == carriage_return) bytes k (omega (arith, low, fits)) ∙ sym (ap (λ (b : ℕ). b == carriage_return) first) ∙ lane
      ∙ ap (λ (b : ℕ). b == line_feed) second ∙ sym (begins-at (λ b. b == line_feed) bytes (k + 1) (omega (arith, low, fits))))
]

not_true : (t : Bool) → not t ≡ true → t ≡ false
not_true true e = absurd (cc)
not_true false e = refl

-- then no CR is alone, and no LF
module _ (bytes : List ℕ) (h : has_even_ends bytes ≡ true) where
  parts : (not (byte_at bytes 0 line_feed) ≡ true) × (not (is_some (first_offset (is_odd_end bytes) bytes)) ≡ true)
  parts = and_parts (not (byte_at bytes 0 line_feed)) (not (is_some (first_offset (is_odd_end bytes) bytes))) h

  none : NoneBefore (is_odd_end bytes) (length bytes)
  none = by_found (first_offset (is_odd_end bytes) bytes) refl (not_true _ parts.1)
    where
      by_found : (o : Option ℕ) → o ≡ first_offset (is_odd_end bytes) bytes → is_some o ≡ false → NoneBefore (is_odd_end bytes) (length bytes)
      by_found None e f = offset_no (is_odd_end bytes) bytes e
      by_found (Some p) e f = absurd (cc)

  pub even_returns : None ≡ first_offset (is_lone_return bytes) bytes
  even_returns = offset-none (is_lone_return bytes) bytes (λ k low. (or_parts (is_lone_return bytes k) (byte_at bytes (k + 1) line_feed && not (byte_at bytes k carriage_return)) (none k low)).0)

  bare : (fed zeroed returned : Bool) → (fed && not returned) ≡ false → zeroed ≡ true → (fed && not (zeroed && returned)) ≡ false
  bare fed true returned e f = e
  bare fed false returned e f = absurd (cc)

  feed_even : (k : ℕ) → k < length bytes → is_bare_line_feed bytes k ≡ false
  feed_even k low = elim (cases_lt 0 k) [
    | inl l ↦
        let odd : (byte_at bytes (k - 1 + 1) line_feed && not (byte_at bytes (k - 1) carriage_return)) ≡ false = (or_parts (is_lone_return bytes (k - 1)) _ (none (k - 1) (omega (arith, low)))).1 in
        bare (byte_at bytes k line_feed) (nat_lt 0 k) (byte_at bytes (k - 1) carriage_return)
        (ap (λ (n : ℕ). byte_at bytes n line_feed && not (byte_at bytes (k - 1) carriage_return)) {x = k} {y = k - 1 + 1} (omega (arith, l)) ∙ odd)
        (lt-ltb 0 k l)
    | inr g ↦ and_false _ _ (ap (λ (n : ℕ). byte_at bytes n line_feed) {x = k} {y = 0} (omega (arith, g)) ∙ not_true _ parts.0)
  ]

  pub even_feeds : None ≡ first_offset (is_bare_line_feed bytes) bytes
  even_feeds = offset-none (is_bare_line_feed bytes) bytes feed_even
