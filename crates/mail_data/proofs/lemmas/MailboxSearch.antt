-- Lemmas on the search for the end of a mail: the places where a LF and the first byte of a separator
-- adjoin.
use Rattle.std.proofs.Common.{◌≡◌, ◌⊎◌, ℕ, ◌+◌, ◌-◌, ◌<◌, ◌≤◌, Bool, true, false, List, [], ◌∷◌, Some, None, length, take, drop, refl, sym, ap, subst, ◌∙◌, arith, length-drop, inl, inr}
use Rattle.std.specs.Prelude.{nat_lt, ◌==◌}
use Rattle.std.proofs.lemmas.Bool.{and_from, and_parts, cases_lt, false_from_ne_true, false≢true, lt-ltb, ltb-true, or_right, true_from_ne_false}
use Rattle.std.proofs.lemmas.List.{drop-drop, drop_all, take_all, take_rest}
use Rattle.mail_codec.specs.Places.{first_place, has_prefix, is_empty, text_place}
use Rattle.mail_codec.proofs.lemmas.Places.{first_place-before, least-is, true_not_false}
use Rattle.mail_codec.proofs.lemmas.PlacesSearches.{place_none, place_some}
use Rattle.mail_data.specs.LineEnds.{empty_line, starts_line}
use Rattle.mail_data.specs.Mailbox.{ends_mail, mail_length}
use Rattle.mail_data.specs.Separator.{is_separator, mark}
use Rattle.mail_data.specs.private.LineEnds.{last_empty_line}
use Rattle.mail_data.proofs.lemmas.LineEnds.{EmptyTo, empty_to-feed, empty_to-next, empty_to-within, is_line, last_empty_line-found, last_empty_line-is, line_place-found}
use Rattle.mail_data.proofs.lemmas.Mailbox.{nothing, opens}
use Rattle.mail_read.proofs.lemmas.lenient.Values.{two_found}

-- the bytes after the empty line at which a mail ends begin past a place
abbrev pub EndsPast : List ℕ → ℕ → Type 0
EndsPast bytes at = (k : ℕ) → is_line ends_mail bytes k ≡ true → at < k + empty_line (drop k bytes)

-- ---- a line at which a mail ends

mail_ends : (bytes : List ℕ) (k : ℕ) → is_line ends_mail bytes k ≡ true
    → EmptyTo bytes k (k + empty_line (drop k bytes)) × (opens (drop (k + empty_line (drop k bytes)) bytes) ≡ true)
unfolding ends_mail
mail_ends bytes k is =
    let rest = drop k bytes in
    let parts = and_parts (starts_line bytes k) (ends_mail rest) is in
    let tests = and_parts (nat_lt 0 (empty_line rest)) (opens (drop (empty_line rest) rest)) parts.1 in
    (record { starts = parts.0; some = ltb-true 0 (empty_line rest) tests.0; ends = refl }, ap opens (sym (drop-drop (empty_line rest) k bytes)) ∙ tests.1)

ends_there : (bytes : List ℕ) (k at : ℕ) → EmptyTo bytes k at → opens (drop at bytes) ≡ true → ends_mail (drop k bytes) ≡ true
unfolding ends_mail
ends_there bytes k at line after =
    let rest = drop k bytes in
    and_from (nat_lt 0 (empty_line rest)) (opens (drop (empty_line rest) rest)) (lt-ltb 0 (empty_line rest) line.some)
    (ap opens (drop-drop (empty_line rest) k bytes ∙ ap (λ (n : ℕ). drop n bytes) line.ends) ∙ after)

pub ends-past_start : (bytes : List ℕ) → EndsPast bytes 0
ends-past_start bytes k is = let line = (mail_ends bytes k is).0 in omega (arith, line.some)

-- it is the first one, if none has its empty line end before
first_end : (bytes : List ℕ) (k at : ℕ) → EmptyTo bytes k at → opens (drop at bytes) ≡ true
    → ((j : ℕ) → is_line ends_mail bytes j ≡ true → at ≤ j + empty_line (drop j bytes)) → k ≡ mail_length bytes
unfolding mail_length
first_end bytes k at line after past =
    line_place-found ends_mail bytes k (omega (arith, line.some, line.ends, empty_to-within bytes k at line))
    (λ j low. false_from_ne_true _ (λ is.
    let earlier = mail_ends bytes j is in
    absurd (omega (arith, line.some, line.ends, past j is, empty_to-next bytes j _ k earlier.0 line.starts low))))
    line.starts (ends_there bytes k at line after)

-- no mail ends
no_end : (bytes : List ℕ) (n : ℕ) → n ≡ 0 → ((k : ℕ) → is_line ends_mail bytes k ≡ true → ⊥) → length bytes - n ≡ mail_length bytes
unfolding mail_length
no_end bytes n none nowhere =
    let all : length bytes - n ≡ length bytes = omega arith in
    all ∙ sym (least-is (is_line ends_mail bytes) (length bytes) (length bytes) (omega arith) (λ k low. false_from_ne_true _ (nowhere k)) (λ low. absurd (omega arith)))

-- ---- pairs of a LF and the first byte of a separator

abbrev pair : List ℕ → Bool
pair rest = has_prefix (10 ∷ 70 ∷ []) rest

pair-separator : (rest : List ℕ) → is_separator rest ≡ true → pair (10 ∷ rest) ≡ true
unfolding is_separator
pair-separator [] h = absurd (false≢true h)
pair-separator (b ∷ rest) h =
    let begun = (and_parts (70 == b) _ (and_parts (has_prefix mark (b ∷ rest)) _ h).0).0 in
    and_from (70 == b) true begun refl

-- the next line at which a mail ends is before the next pair, or has the end of the bytes after it
past-pair : (bytes : List ℕ) (at k : ℕ) → at ≤ length bytes → EndsPast bytes at → is_line ends_mail bytes k ≡ true → k + empty_line (drop k bytes) < length bytes
    → at + first_place pair (drop at bytes) + 1 ≤ k + empty_line (drop k bytes)
past-pair bytes at k within past is low =
    let found = mail_ends bytes k is in
    let after = k + empty_line (drop k bytes) in
    let first = first_place pair (drop at bytes) in
    let on = past k is in
    elim (cases_lt after (at + first + 1)) [
      | inr over ↦ over
      | inl early ↦
          let marked : is_separator (drop after bytes) ≡ true =
          true_from_ne_false _ (λ fails. absurd (omega (arith, ap length (nothing (drop after bytes) fails found.1), length-drop after bytes, low))) in
          let place : at + (after - 1 - at) ≡ after - 1 = omega arith in
          let there : drop (after - 1 - at) (drop at bytes) ≡ 10 ∷ drop after bytes =
          drop-drop (after - 1 - at) at bytes ∙ ap (λ (n : ℕ). drop n bytes) place ∙ empty_to-feed bytes k after found.0 in
          absurd (true_not_false (ap pair there ∙ pair-separator (drop after bytes) marked) (first_place-before pair (drop at bytes) (after - 1 - at) (omega arith)))
    ]

-- ---- the search

-- a pair that was found: no line at which a mail ends has its empty line end before the pair's LF
module _ (bytes : List ℕ) (at p : ℕ) (within : at ≤ length bytes) (past : EndsPast bytes at) (found : Some p ≡ text_place (take (length bytes - at) (drop at bytes)) (10 ∷ 70 ∷ [])) where
  there : (p ≡ first_place pair (drop at bytes)) × (first_place pair (drop at bytes) < length (drop at bytes))
  there = place_some pair (drop at bytes) p (found ∙ ap (λ (r : List ℕ). text_place r (10 ∷ 70 ∷ [])) (take_rest bytes at))

  pub pair-within : at + (p + 1) < length bytes
  pair-within = omega (arith, two_found 10 70 bytes at p found)

  pair-past : (k : ℕ) → is_line ends_mail bytes k ≡ true → at + (p + 1) ≤ k + empty_line (drop k bytes)
  pair-past k is = elim (cases_lt (k + empty_line (drop k bytes)) (length bytes)) [
    | inl low ↦ omega (arith, there.0, past-pair bytes at k within past is low)
    | inr over ↦ omega (arith, pair-within)
  ]

  -- no mail ends before that pair if no empty line is before it, or no separator after it
  pub pair-passed : last_empty_line (take (at + (p + 1)) bytes) ≡ 0 ⊎ (is_separator (drop (at + (p + 1)) bytes) ≡ false) → EndsPast bytes (at + (p + 1))
  pair-passed fails k is = elim (cases_lt (at + (p + 1)) (k + empty_line (drop k bytes))) [
    | inl low ↦ low
    | inr over ↦
        let place : k + empty_line (drop k bytes) ≡ at + (p + 1) = omega (arith, over, pair-past k is) in
        let ends = mail_ends bytes k is in
        absurd (neither fails (subst (EmptyTo bytes k) place ends.0) (ap (λ (n : ℕ). opens (drop n bytes)) (sym place) ∙ ends.1))
  ]
    where
      neither : last_empty_line (take (at + (p + 1)) bytes) ≡ 0 ⊎ (is_separator (drop (at + (p + 1)) bytes) ≡ false) → EmptyTo bytes k (at + (p + 1)) → opens (drop (at + (p + 1)) bytes) ≡ true → ⊥
      neither (inl none) line after = omega (arith, line.some, line.ends, none, last_empty_line-is bytes k (at + (p + 1)) line)
      neither (inr unmarked) line after =
          omega (arith, pair-within, length-drop (at + (p + 1)) bytes, ap length (nothing (drop (at + (p + 1)) bytes) unmarked after))

  -- and one ends there otherwise
  pub pair-ends : (n : ℕ) → n ≡ last_empty_line (take (at + (p + 1)) bytes) → 0 < n → is_separator (drop (at + (p + 1)) bytes) ≡ true → at + (p + 1) - n ≡ mail_length bytes
  pair-ends n is some marked =
      first_end bytes (at + (p + 1) - n) (at + (p + 1)) (last_empty_line-found bytes (at + (p + 1)) n (omega (arith, pair-within)) is some).1
      (or_right (is_empty (drop (at + (p + 1)) bytes)) _ marked) pair-past

-- no pair is left: a mail ends only at an empty line at the end
pub no_pair-ends : (bytes : List ℕ) (at n : ℕ) → at ≤ length bytes → EndsPast bytes at → None ≡ text_place (take (length bytes - at) (drop at bytes)) (10 ∷ 70 ∷ [])
    → n ≡ last_empty_line bytes → length bytes - n ≡ mail_length bytes
no_pair-ends bytes at n within past none is = elim (cases_lt 0 n) [
  | inl some ↦
      first_end bytes (length bytes - n) (length bytes) (last_empty_line-found bytes (length bytes) n (omega arith) last some).1
      (ap opens (drop_all (length bytes) bytes (omega arith))) at_end
  | inr nothing_there ↦ no_end bytes n (omega arith) (λ k is.
      let line = (mail_ends bytes k is).0 in
      let within = empty_to-within bytes k _ line in
      absurd (omega (
        arith,
        line.some,
        last,
        nothing_there,
        at_end k is,
        last_empty_line-is bytes k (length bytes) (subst (EmptyTo bytes k) (omega (arith, at_end k is)) line),
      )))
]
  where
    last : n ≡ last_empty_line (take (length bytes) bytes)
    last = is ∙ ap last_empty_line (sym (take_all (length bytes) bytes (omega arith)))

    nowhere : first_place pair (drop at bytes) ≡ length (drop at bytes)
    nowhere = place_none pair (drop at bytes) (none ∙ ap (λ (r : List ℕ). text_place r (10 ∷ 70 ∷ [])) (take_rest bytes at))

    at_end : (k : ℕ) → is_line ends_mail bytes k ≡ true → length bytes ≤ k + empty_line (drop k bytes)
    at_end k is = elim (cases_lt (k + empty_line (drop k bytes)) (length bytes)) [
      | inl low ↦ omega (arith, nowhere, length-drop at bytes, past-pair bytes at k within past is low)
      | inr over ↦ over
    ]
