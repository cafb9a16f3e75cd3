-- The tokens of a line: the computed list is in the relation, and nothing else is.
use Rattle.std.proofs.Common.{◌≡◌, ◌≢◌, ◌⊎◌, ℕ, zero, suc, ◌+◌, ◌-◌, ◌<◌, ◌≤◌, Bool, true, false, cond, eqb, List, [], ◌∷◌, ◌++◌, ◌&&◌, length, take, drop, slice_range, get_or, Option, Some, None, is_some, refl, sym, ap, ◌∙◌, subst, ⊎_elim, arith, length-drop, get_or-drop}
use Rattle.std.proofs.lemmas.Bool.{cond-true, cond-false, eq-eqb, ne_eqb, and_parts, and_right, eqb-true, false≢true}
use Rattle.std.proofs.lemmas.Bool.Decides.{eqb_tells}
use Rattle.std.proofs.lemmas.List.{append-nil, take-append-drop, take-take, take_all, drop-take, drop-drop}
use Rattle.std.specs.List.{flat_map}
use Rattle.std.specs.Option.{option_map_or}
use Rattle.std.proofs.Math.Nat.{sub-zero}
use Rattle.mailparse.specs.EncodedWord.{word_text}
use Rattle.mail_codec.specs.Charset.{Charsets}
use Rattle.mail_codec.specs.Places.{has_prefix, place_from}
use Rattle.mailparse.specs.Tokens.{TokenRange, TokenGroup, IsTokenGroup, no_opening, no_boundary, no_closing, decodes, stays_text, AreTokensFrom, last_group, next_group, AreTokens, begins_closing, opening, closing, boundary_before, outside_range, text_range, inside, token_group_at, group_of_opening, group_of_word, tokens_within, token_ranges, Adjoin, token_source}
use Rattle.mail_codec.proofs.lemmas.Places.{place_from_bounds, place_from_passes}

-- ---- how far a group goes

begins_two : (a b : ℕ) (bytes : List ℕ) → has_prefix (a ∷ b ∷ []) bytes ≡ true
    → (2 ≤ length bytes) × (get_or bytes 0 0 ≡ a) × (get_or bytes 1 0 ≡ b)
begins_two a b [] h = cc
begins_two a b (c ∷ []) h = absurd (false≢true (sym (and_right (eqb a c) false refl) ∙ h))
begins_two a b (c ∷ d ∷ bytes) h =
    let parts = and_parts (eqb a c) (eqb b d && true) h in
    let second = and_parts (eqb b d) true parts.1 in
    (omega arith, sym (eqb-true a c parts.0), sym (eqb-true b d second.0))

-- two bytes that were found are within the line
has_prefix_where : (test : List ℕ → Bool) (a b : ℕ) → ((rest : List ℕ) → test rest ≡ true → has_prefix (a ∷ b ∷ []) rest ≡ true) → (line : List ℕ) (s v : ℕ) → s ≤ length line → place_from test line s ≡ v → v ≢ length line
    → (s ≤ v) × (v + 2 ≤ length line) × (get_or line v 0 ≡ a) × (get_or line (v + 1) 0 ≡ b)
has_prefix_where test a b begins line s v h e some =
    let bounds = place_from_bounds test line s h in
    let has_prefix : test (drop v line) ≡ true = subst (λ v. test (drop v line) ≡ true) e (place_from_passes test line s h (λ i. some (sym e ∙ i))) in
    let two = begins_two a b (drop v line) (begins (drop v line) has_prefix) in
    let len = length-drop v line in
    let first = get_or-drop v line 0 0 in
    let second = get_or-drop v line 1 0 in
    (omega arith, omega arith, ap (λ n. get_or line n 0) (omega arith) ∙ sym first ∙ two.1, sym second ∙ two.2)

pub pair_within : (a b : ℕ) (line : List ℕ) (s v : ℕ) → s ≤ length line → place_from (has_prefix (a ∷ b ∷ [])) line s ≡ v → v ≢ length line
    → (s ≤ v) × (v + 2 ≤ length line) × (get_or line v 0 ≡ a) × (get_or line (v + 1) 0 ≡ b)
pair_within a b = has_prefix_where (has_prefix (a ∷ b ∷ [])) a b (λ rest h. h)

-- a `=?` that was found is within the line
pub opening_within : (line : List ℕ) (s v : ℕ) → s ≤ length line → opening line s ≡ v → v ≢ length line
    → (s ≤ v) × (v + 2 ≤ length line) × (get_or line v 0 ≡ 61) × (get_or line (v + 1) 0 ≡ 63)
opening_within = pair_within 61 63

-- a `?=` that was found is within the line, and a boundary follows it
pub closing_within : (line : List ℕ) (s e : ℕ) → s ≤ length line → closing line s ≡ e → e ≢ length line
    → (s ≤ e) × (e + 2 ≤ length line) × (get_or line e 0 ≡ 63) × (get_or line (e + 1) 0 ≡ 61)
closing_within = has_prefix_where begins_closing 63 61 (λ rest h. (and_parts _ _ h).0)

-- a `=?` and the `?=` after it
both_stand : (line : List ℕ) (s v e : ℕ) → s ≤ length line → opening line s ≡ v → v ≢ length line → closing line (v + 2) ≡ e → e ≢ length line → (s ≤ v) × (v + 2 ≤ e) × (e + 2 ≤ length line)
both_stand line s v e h at some close more =
    let here = opening_within line s v h at some in
    let there = closing_within line (v + 2) e here.1 close more in
    (here.0, there.0, there.1)

Adjoin-append : (s t e : ℕ) (xs ys : List TokenRange) → Adjoin s xs t → Adjoin t ys e → Adjoin s (xs ++ ys) e
Adjoin-append s t e [] ys first more = subst (λ s. Adjoin s ys e) (sym first) more
Adjoin-append s t e (x ∷ xs) ys first more = (first.0, first.1, Adjoin-append x.to t e xs ys first.2 more)

Adjoin_le : (s e : ℕ) (tokens : List TokenRange) → Adjoin s tokens e → s ≤ e
Adjoin_le s e [] h = omega arith
Adjoin_le s e (p ∷ tokens) h = let more = Adjoin_le p.to e tokens h.2 in let at = h.0 in let ends = h.1 in omega arith

slice_range_join : (line : List ℕ) (s t e : ℕ) → s ≤ t → t ≤ e → slice_range line s t ++ slice_range line t e ≡ slice_range line s e
slice_range_join line s t e low high =
    let m = t - s in
    let n = e - t in
    let front : take m (take (m + n) (drop s line)) ≡ take m (drop s line) = take-take m (m + n) (drop s line) (omega arith) in
    let back : drop m (take (m + n) (drop s line)) ≡ take n (drop t line) =
    drop-take m n (drop s line) ∙ ap (λ r. take n r) (drop-drop m s line ∙ ap (λ k. drop k line) (omega arith)) in
    sym (ap (λ k. take k (drop s line)) (omega arith)
    ∙ sym (take-append-drop m (take (m + n) (drop s line)))
    ∙ ap (λ r. r ++ drop m (take (m + n) (drop s line))) front
    ∙ ap (λ r. take m (drop s line) ++ r) back)

sources_join : (line : List ℕ) (s e : ℕ) (tokens : List TokenRange) → Adjoin s tokens e → e ≤ length line
    → flat_map (token_source line) tokens ≡ slice_range line s e
sources_join line s e [] h fits = let none : e - s ≡ 0 = omega arith in sym (ap (λ n. take n (drop s line)) none)
sources_join line s e (p ∷ tokens) h fits =
    let le = Adjoin_le p.to e tokens h.2 in
    ap (λ r. slice_range line p.from p.to ++ r) (sources_join line p.to e tokens h.2 fits)
    ∙ ap (λ s. slice_range line s p.to ++ slice_range line p.to e) h.0
    ∙ slice_range_join line s p.to e (let at = h.0 in let ends = h.1 in omega arith) le

-- Under the charsets that are known.
module _ (known : Charsets) where
  -- ---- the computed group

  token_group_at-none : (line : List ℕ) (s : ℕ) → opening line s ≡ length line
      → token_group_at known line s ≡ record { tokens = outside_range line s (length line) ∷ []; next = None }
  unfolding token_group_at
  token_group_at-none line s e = cond-true _ _ _ (eq-eqb _ _ e)

  token_group_at-some : (line : List ℕ) (s v : ℕ) → opening line s ≡ v → v ≢ length line
      → token_group_at known line s ≡ group_of_opening known line s v (closing line (v + 2))
  unfolding token_group_at
  token_group_at-some line s v e some =
      cond-false _ _ _ (ne_eqb _ _ (λ h. some (sym e ∙ h)))
      ∙ ap (λ v. group_of_opening known line s v (closing line (v + 2))) e

  token_group_at-no_boundary : (line : List ℕ) (s v : ℕ) → opening line s ≡ v → v ≢ length line → boundary_before line v ≡ false
      → token_group_at known line s ≡ record { tokens = text_range s (v + 2) ∷ []; next = Some (v + 2) }
  token_group_at-no_boundary line s v e some out = token_group_at-some line s v e some ∙ cond-false _ _ _ out

  token_group_at-boundary : (line : List ℕ) (s v e : ℕ) → opening line s ≡ v → v ≢ length line → boundary_before line v ≡ true
      → closing line (v + 2) ≡ e
      → token_group_at known line s ≡ cond (eqb e (length line)) (record { tokens = outside_range line s v ∷ text_range v (v + 2) ∷ []; next = Some (v + 2) }) (group_of_word known line s v e)
  token_group_at-boundary line s v e at some beside close =
      token_group_at-some line s v at some ∙ cond-true _ _ _ beside
      ∙ ap (λ e. cond (eqb e (length line)) (record { tokens = outside_range line s v ∷ text_range v (v + 2) ∷ []; next = Some (v + 2) }) (group_of_word known line s v e)) close

  pub group_is : {line : List ℕ} {s : ℕ} {group : List TokenRange} {next : Option ℕ} → IsTokenGroup known line s group next
      → token_group_at known line s ≡ record { tokens = group; next = next }
  group_is {line} {s} (no_opening e) = token_group_at-none line s e
  group_is {line} {s} (no_boundary {v = v} e some out) = token_group_at-no_boundary line s v e some out
  group_is {line} {s} (no_closing {v = v} e some beside close) =
      token_group_at-boundary line s v (length line) e some beside close ∙ cond-true (eqb (length line) (length line)) _ (group_of_word known line s v (length line)) (eq-eqb _ _ refl)
  group_is {line} {s} (decodes {v = v} {e = e} at some beside close more read) =
      token_group_at-boundary line s v e at some beside close ∙ cond-false _ _ _ (ne_eqb _ _ more)
      ∙ ap (λ p. record { tokens = outside_range line s v ∷ p ∷ []; next = Some (e + 2) }) (cond-true _ _ _ read)
  group_is {line} {s} (stays_text {v = v} {e = e} at some beside close more fails) =
      token_group_at-boundary line s v e at some beside close ∙ cond-false _ _ _ (ne_eqb _ _ more)
      ∙ ap (λ p. record { tokens = outside_range line s v ∷ p ∷ []; next = Some (e + 2) }) (cond-false _ _ _ fails)

  IsComputed : List ℕ → ℕ → TokenGroup → Type 0
  IsComputed line s g = IsTokenGroup known line s g.tokens g.next

  pub is_group : (line : List ℕ) (s : ℕ) → IsTokenGroup known line s (token_group_at known line s).tokens (token_group_at known line s).next
  unfolding IsComputed
  is_group line s = by_opening (eqb_tells (opening line s) (length line))
    where
      back : (g : TokenGroup) → token_group_at known line s ≡ g → IsComputed line s g → IsComputed line s (token_group_at known line s)
      back g e h = subst (IsComputed line s) (sym e) h

      v : ℕ
      v = opening line s

      e : ℕ
      e = closing line (v + 2)

      by_word : v ≢ length line → boundary_before line v ≡ true → e ≢ length line → (t : Bool) → is_some (word_text known (inside line v e)) ≡ t → IsComputed line s (token_group_at known line s)
      by_word some beside more true read = let g = decodes refl some beside refl more read in back _ (group_is g) g
      by_word some beside more false fails = let g = stays_text refl some beside refl more fails in back _ (group_is g) g

      by_boundary : v ≢ length line → (t : Bool) → boundary_before line v ≡ t → IsComputed line s (token_group_at known line s)
      by_boundary some false out = let g = no_boundary refl some out in back _ (group_is g) g
      by_boundary some true beside =
          ⊎_elim (λ h. let g = no_closing refl some beside h.1 in back _ (group_is g) g)
          (λ h. by_word some beside h.1 (is_some (word_text known (inside line v e))) refl)
          (eqb_tells e (length line))

      by_opening : ((eqb v (length line) ≡ true) × (v ≡ length line)) ⊎ ((eqb v (length line) ≡ false) × (v ≢ length line)) → IsComputed line s (token_group_at known line s)
      by_opening = ⊎_elim (λ h. let g = no_opening h.1 in back _ (group_is g) g) (λ h. by_boundary h.1 (boundary_before line v) refl)

  -- the next group starts at least two bytes on, and within the line
  pub next_ahead : {line : List ℕ} {s t : ℕ} {group : List TokenRange} → IsTokenGroup known line s group (Some t) → s ≤ length line
      → (s + 2 ≤ t) × (t ≤ length line)
  next_ahead {line} {s} (no_boundary {v = v} e some out) h = let at = opening_within line s v h e some in (omega arith, omega arith)
  next_ahead {line} {s} (no_closing {v = v} e some beside close) h = let at = opening_within line s v h e some in (omega arith, omega arith)
  next_ahead {line} {s} (decodes {v = v} {e = e} at some beside close more read) h = let both = both_stand line s v e h at some close more in (omega arith, omega arith)
  next_ahead {line} {s} (stays_text {v = v} {e = e} at some beside close more fails) h = let both = both_stand line s v e h at some close more in (omega arith, omega arith)

  -- ---- the computed list

  abbrev join : ℕ → List ℕ → TokenGroup → List TokenRange
  join n line g = g.tokens ++ option_map_or (λ t. tokens_within known n line t) g.next []

  tokens_within-suc : (n : ℕ) (line : List ℕ) (s : ℕ) → tokens_within known (suc n) line s ≡ join n line (token_group_at known line s)
  unfolding tokens_within
  tokens_within-suc n line s = refl

  pub tokens_is : {line : List ℕ} {s : ℕ} {tokens : List TokenRange} → AreTokensFrom known line s tokens → (n : ℕ) → length line < s + n → s ≤ length line
      → tokens ≡ tokens_within known n line s
  tokens_is (last_group g) zero more h = absurd (omega arith)
  tokens_is {line} {s} (last_group {group = group} g) (suc n) more h =
      sym (tokens_within-suc n line s ∙ ap (join n line) (group_is g) ∙ append-nil group)
  tokens_is (next_group g later e) zero more h = absurd (omega arith)
  tokens_is {line} {s} (next_group {t = t} {group = group} {rest = rest} g later e) (suc n) more h =
      let ahead = next_ahead g h in
      e ∙ ap (λ r. group ++ r) (tokens_is later n (omega arith) ahead.1)
      ∙ sym (tokens_within-suc n line s ∙ ap (join n line) (group_is g))

  pub are_tokens : (n : ℕ) (line : List ℕ) (s : ℕ) → length line < s + n → s ≤ length line → AreTokensFrom known line s (tokens_within known n line s)
  are_tokens zero line s more h = absurd (omega arith)
  are_tokens (suc n) line s more h =
      subst (AreTokensFrom known line s) (sym (tokens_within-suc n line s))
      (by_next (token_group_at known line s).tokens (token_group_at known line s).next (is_group line s) (λ t low high. are_tokens n line t (omega arith) high))
    where
      by_next : (group : List TokenRange) (next : Option ℕ) → IsTokenGroup known line s group next
          → ((t : ℕ) → s + 2 ≤ t → t ≤ length line → AreTokensFrom known line t (tokens_within known n line t))
          → AreTokensFrom known line s (group ++ option_map_or (λ t. tokens_within known n line t) next [])
      by_next group None g later = subst (AreTokensFrom known line s) (sym (append-nil group)) (last_group g)
      by_next group (Some t) g later = let ahead = next_ahead g h in next_group g (later t ahead.0 ahead.1) refl

  -- the computed list fits the line, and no other does
  pub token_ranges_fit : (line : List ℕ) → AreTokens known line (token_ranges known line)
  unfolding token_ranges
  token_ranges_fit line = are_tokens (suc (length line)) line 0 (omega arith) (omega arith)

  pub token_ranges_only : (line : List ℕ) (tokens : List TokenRange) → AreTokens known line tokens → tokens ≡ token_ranges known line
  unfolding token_ranges
  token_ranges_only line tokens fits = tokens_is fits (suc (length line)) (omega arith) (omega arith)

  -- ---- the ranges adjoin

  group_adjoins : {line : List ℕ} {s : ℕ} {group : List TokenRange} {next : Option ℕ} → IsTokenGroup known line s group next → s ≤ length line
      → Adjoin s group (option_map_or (λ t. t) next (length line))
  group_adjoins (no_opening e) h = (refl, h, refl)
  group_adjoins {line} {s} (no_boundary {v = v} e some out) h = let at = opening_within line s v h e some in (refl, omega arith, refl)
  group_adjoins {line} {s} (no_closing {v = v} e some beside close) h =
      let at = opening_within line s v h e some in (refl, at.0, (refl, omega arith, refl))
  group_adjoins {line} {s} (decodes {v = v} {e = e} at some beside close more read) h = let both = both_stand line s v e h at some close more in (refl, both.0, (refl, omega arith, refl))
  group_adjoins {line} {s} (stays_text {v = v} {e = e} at some beside close more fails) h = let both = both_stand line s v e h at some close more in (refl, both.0, (refl, omega arith, refl))

  pub tokens_adjoin : {line : List ℕ} {s : ℕ} {tokens : List TokenRange} → AreTokensFrom known line s tokens → s ≤ length line → Adjoin s tokens (length line)
  tokens_adjoin (last_group g) h = group_adjoins g h
  tokens_adjoin {line} {s} (next_group {t = t} {group = group} {rest = rest} g later e) h =
      let ahead = next_ahead g h in
      subst (λ ps. Adjoin s ps (length line)) (sym e) (Adjoin-append s t (length line) group rest (group_adjoins g h) (tokens_adjoin later ahead.1))

  pub tokens_make_line : (line : List ℕ) → flat_map (token_source line) (token_ranges known line) ≡ line
  tokens_make_line line =
      sources_join line 0 (length line) (token_ranges known line) (tokens_adjoin (token_ranges_fit line) (omega arith)) (omega arith)
      ∙ ap (λ n. take n line) (sub-zero (length line)) ∙ take_all (length line) line (omega arith)
