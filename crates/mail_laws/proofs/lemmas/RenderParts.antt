-- The written parts of an outline are the parts that its delimiters cut.
use Rattle.std.proofs.Common.{◌≡◌, ℕ, suc, ◌+◌, ◌-◌, ◌≤◌, ⊎_elim, Bool, true, false, eqb, not, ◌&&◌, ◌||◌, List, [], ◌∷◌, ◌++◌, length, map, take, drop, Option, Some, None, is_some, option_map, codes, refl, sym, ap, ◌∙◌, subst, arith, length-append, length-drop}
use Rattle.std.specs.Prelude.{nat_lt, option_and_then, if◌then◌else◌}
use Rattle.std.specs.List.{list_all}
use Rattle.std.specs.Option.{option_map_or}
use Rattle.std.proofs.lemmas.Bool.{cond-true, cond-false, cases_lt, cases_eq, lt-ltb, le-ltb, eq-eqb, and_parts, and_from, and_left, not-true}
use Rattle.std.proofs.lemmas.List.{drop-drop, drop-append-le, drop_all, drop_at, take_at}
use Rattle.mail_codec.specs.Places.{has_prefix, begins, place, byte_place}
use Rattle.mail_codec.proofs.lemmas.Places.{first_place-before}
use Rattle.mail_codec.proofs.lemmas.PlacesSearches.{place_none}
use Rattle.mailparse.specs.Ranges.{Range, slice}
use Rattle.mailparse.specs.Delimiters.{cut_parts_as, is_delimiter, delimiter_from, line_after, part_after, is_close_delimiter, first_part, next_part, before_line_end, end_from, part_range, cut_parts}
use Rattle.mailparse.proofs.lemmas.Delimiters.{NoDelimiter, is_delimiter-line, is_delimiter-start, delimiter_from-some, starts_delimiter, part_ranges, part_ranges-none, part_ranges-some}
use Rattle.mailparse.proofs.lemmas.Places.{not_some}
use Rattle.mail_laws.proofs.lemmas.DelimiterPlaces.{before_line_end-crlf, before_line_end-start}
use Rattle.mail_address.proofs.lemmas.Tokens.{drop_past}

-- ---- a text within bytes

-- a byte other than a CR
abbrev pub no_return : ℕ → Bool
no_return b = not (eqb b 13)

-- a text without CR that is found before a CR is found without what follows
pub has_prefix-before : (text front rest : List ℕ) → list_all no_return text ≡ true → has_prefix text (front ++ 13 ∷ rest) ≡ has_prefix text front
has_prefix-before [] front rest free = refl
has_prefix-before (x ∷ text) [] rest free =
    and_left (eqb x 13) (has_prefix text rest) (not-true (eqb x 13) (and_parts (no_return x) (list_all no_return text) free).0)
has_prefix-before (x ∷ text) (b ∷ front) rest free =
    ap (λ t. eqb x b && t) (has_prefix-before text front rest (and_parts (no_return x) (list_all no_return text) free).1)

pub has_prefix-self : (text rest : List ℕ) → has_prefix text (text ++ rest) ≡ true
has_prefix-self [] rest = refl
has_prefix-self (x ∷ text) rest = and_from (eqb x x) (has_prefix text (text ++ rest)) (eq-eqb x x refl) (has_prefix-self text rest)

-- a search that finds nothing passes all places
pub has_prefix-nowhere : (x : ℕ) (text bytes : List ℕ) → is_some (place (has_prefix (x ∷ text)) bytes) ≡ false → (k : ℕ) → has_prefix (x ∷ text) (drop k bytes) ≡ false
has_prefix-nowhere x text bytes none k =
    let whole = place_none (has_prefix (x ∷ text)) bytes (not_some (place (has_prefix (x ∷ text)) bytes) none) in
    ⊎_elim (λ low. first_place-before (has_prefix (x ∷ text)) bytes k (omega (arith, low, whole)))
    (λ high. ap (has_prefix (x ∷ text)) (drop_all k bytes high)) (cases_lt k (length bytes))

-- ---- the bytes after a delimiter

-- a place further on
pub further : (bytes text : List ℕ) (s k n : ℕ) → drop s bytes ≡ text → s + k ≡ n → drop n bytes ≡ drop k text
further bytes text s k n there e = ap (λ m. drop m bytes) (sym e) ∙ sym (drop-drop k s bytes) ∙ ap (drop k) there

-- a line that CR LF ends
line_after-crlf : (bytes rest : List ℕ) (p : ℕ) → drop p bytes ≡ 13 ∷ 10 ∷ rest → line_after bytes p ≡ Some (p + 2)
line_after-crlf bytes rest p there =
    ap (λ (x : List ℕ). option_map (λ k. suc (p + k)) (byte_place x 10)) there
    ∙ ap (option_map (λ k. suc (p + k))) (cond-true (nat_lt 1 (suc (suc (length rest)))) (Some 1) None (lt-ltb 1 (suc (suc (length rest))) (omega arith)))
    ∙ ap Some (omega arith)

-- ---- parts that are written one after another

-- for each part the dash-boundary, CR LF, the part and CR LF; at the end the dash-boundary, `--` and CR LF
abbrev pub written : List ℕ → List (List ℕ) → List ℕ
written d [] = d ++ 45 ∷ 45 ∷ 13 ∷ 10 ∷ []
written d (p ∷ ps) = d ++ 13 ∷ 10 ∷ (p ++ 13 ∷ 10 ∷ written d ps)

-- a part that contains no delimiter
pub record IsClear (d part : List ℕ) : Type 0 where
  pub first : has_prefix d part ≡ false
  pub later : (k : ℕ) → has_prefix (10 ∷ d) (drop k part) ≡ false

abbrev pub AreClear : List ℕ → List (List ℕ) → Type 0
AreClear d [] = Unit {0}
AreClear d (p ∷ ps) = IsClear d p × AreClear d ps

-- the dash-boundary: not empty, and without CR
module _ (x : ℕ) (text : List ℕ) (free : list_all no_return (x ∷ text) ≡ true) where
  -- a part at a place, and then CR LF and the next delimiter
  module _ (bytes part more : List ℕ) (s : ℕ) (clear : IsClear (x ∷ text) part) (there : drop s bytes ≡ part ++ 13 ∷ 10 ∷ ((x ∷ text) ++ more)) where
    abbrev rest : List ℕ
    rest = 10 ∷ ((x ∷ text) ++ more)

    length-there : length bytes - s ≡ length part + 3 + length text + length more
    length-there =
        let a = length-append part (13 ∷ 10 ∷ ((x ∷ text) ++ more)) in
        let b = length-append text more in
        sym (length-drop s bytes) ∙ ap length there ∙ a ∙ omega arith

    in_part : (k : ℕ) → k ≤ length part → has_prefix (10 ∷ x ∷ text) (drop k (part ++ 13 ∷ rest)) ≡ false
    in_part k low =
        ap (has_prefix (10 ∷ x ∷ text)) (drop-append-le k part (13 ∷ rest) low)
        ∙ has_prefix-before (10 ∷ x ∷ text) (drop k part) rest free ∙ clear.later k

    no_delimiter : NoDelimiter (x ∷ text) bytes s (s + length part + 2)
    no_delimiter k low high =
        ⊎_elim (λ same. subst (λ p. is_delimiter (x ∷ text) bytes s p ≡ false) (sym same)
        (is_delimiter-start (x ∷ text) bytes s ∙ ap (has_prefix (x ∷ text)) there ∙ has_prefix-before (x ∷ text) part rest free ∙ clear.first))
        (λ other.
        let i = k - 1 - s in
        let less : s + i ≡ k - 1 = omega (arith, low, other) in
        is_delimiter-line (x ∷ text) bytes s k (omega (arith, low, other))
        ∙ ap (has_prefix (10 ∷ x ∷ text)) (further bytes (part ++ 13 ∷ rest) s i (k - 1) there less)
        ∙ in_part i (omega (arith, low, other, high)))
        (cases_eq k s)

    at_feed : (n : ℕ) → s + suc (length part) ≡ n → drop n bytes ≡ rest
    at_feed n e = further bytes (part ++ 13 ∷ rest) s (suc (length part)) n there e ∙ drop_past part 13 rest

    at_return : (n : ℕ) → s + length part ≡ n → drop n bytes ≡ 13 ∷ rest
    at_return n e = further bytes (part ++ 13 ∷ rest) s (length part) n there e ∙ drop_at part (13 ∷ rest) (length part) refl

    at_delimiter : (n : ℕ) → s + length part + 2 ≡ n → drop n bytes ≡ (x ∷ text) ++ more
    at_delimiter n e = further bytes rest (s + suc (length part)) 1 n (at_feed (s + suc (length part)) refl) (omega (arith, e))

    delimiter : is_delimiter (x ∷ text) bytes s (s + length part + 2) ≡ true
    delimiter =
        is_delimiter-line (x ∷ text) bytes s (s + length part + 2) (omega arith)
        ∙ ap (has_prefix (10 ∷ x ∷ text)) (at_feed (s + length part + 2 - 1) (omega arith))
        ∙ has_prefix-self (10 ∷ x ∷ text) more

    found : delimiter_from (x ∷ text) bytes s ≡ Some (s + length part + 2)
    found =
        let size = length-there in
        sym (delimiter_from-some (x ∷ text) bytes s (s + length part + 2) (omega arith) (omega arith) delimiter no_delimiter)

    part_end : end_from (x ∷ text) bytes s (length bytes) ≡ s + length part
    part_end =
        let two : s + length part + 2 ≡ suc (suc (s + length part)) = omega arith in
        ap (λ (o : Option ℕ). option_map_or (before_line_end bytes s) o (length bytes)) found
        ∙ ap (before_line_end bytes s) two
        ∙ before_line_end-crlf bytes s (s + length part) (omega arith)
        (ap (begins (λ b. eqb b 13)) (at_return (s + length part) refl))
        (ap (begins (λ b. eqb b 10)) (at_feed (suc (s + length part)) (omega arith)))

    part_slice : slice bytes (part_range (x ∷ text) bytes s) ≡ part
    part_slice =
        let size : s + length part - s ≡ length part = omega arith in
        ap (λ n. take (n - s) (drop s bytes)) part_end
        ∙ ap (λ n. take n (drop s bytes)) size
        ∙ ap (take (length part)) there
        ∙ take_at part (13 ∷ rest) (length part) refl

    drop_to_delimiter : (n : ℕ) → s + length part + 2 + length (x ∷ text) ≡ n → drop n bytes ≡ more
    drop_to_delimiter n e =
        further bytes ((x ∷ text) ++ more) (s + length part + 2) (length (x ∷ text)) n (at_delimiter (s + length part + 2) refl) e
        ∙ drop_at (x ∷ text) more (length (x ∷ text)) refl

    next_by_delimiter : next_part (x ∷ text) bytes s
        ≡ if is_close_delimiter (x ∷ text) bytes (s + length part + 2) then None else part_after (x ∷ text) bytes (s + length part + 2)
    next_by_delimiter =
        ap (option_and_then (λ p. if is_close_delimiter (x ∷ text) bytes p then None else part_after (x ∷ text) bytes p)) found

    closes : is_close_delimiter (x ∷ text) bytes (s + length part + 2) ≡ (nat_lt (length more) 2 || has_prefix (codes "--") more)
    closes = ap (λ (r : List ℕ). nat_lt (length r) 2 || has_prefix (codes "--") r) (drop_to_delimiter (s + length part + 2 + length (x ∷ text)) refl)

  -- the parts from one on are those that are written there
  ranges-written : (ps : List (List ℕ)) (bytes part : List ℕ) (s : ℕ) → IsClear (x ∷ text) part → AreClear (x ∷ text) ps
      → drop s bytes ≡ part ++ 13 ∷ 10 ∷ written (x ∷ text) ps
      → map (slice bytes) (part_ranges (x ∷ text) bytes (Some s)) ≡ part ∷ ps
  ranges-written [] bytes part s clear all there =
      let more = 45 ∷ 45 ∷ 13 ∷ 10 ∷ [] in
      let last : next_part (x ∷ text) bytes s ≡ None =
      next_by_delimiter bytes part more s clear there
      ∙ cond-true _ _ _ (closes bytes part more s clear there) in
      ap (map (slice bytes)) (part_ranges-some (x ∷ text) bytes s)
      ∙ ap (λ (p : List ℕ). p ∷ map (slice bytes) (part_ranges (x ∷ text) bytes (next_part (x ∷ text) bytes s))) (part_slice bytes part more s clear there)
      ∙ ap (λ (o : Option ℕ). part ∷ map (slice bytes) (part_ranges (x ∷ text) bytes o)) last
      ∙ ap (λ (rs : List Range). part ∷ map (slice bytes) rs) (part_ranges-none (x ∷ text) bytes)
  ranges-written (p ∷ ps) bytes part s clear all there =
      let more = 13 ∷ 10 ∷ (p ++ 13 ∷ 10 ∷ written (x ∷ text) ps) in
      let q = s + length part + 2 + length (x ∷ text) in
      let goes_on : is_close_delimiter (x ∷ text) bytes (s + length part + 2) ≡ false =
      closes bytes part more s clear there ∙ ap (λ t. t || has_prefix (codes "--") more) (le-ltb (length more) 2 (omega arith)) in
      let at : drop q bytes ≡ more = drop_to_delimiter bytes part more s clear there q refl in
      let next : next_part (x ∷ text) bytes s ≡ Some (q + 2) =
      next_by_delimiter bytes part more s clear there ∙ cond-false _ _ _ goes_on
      ∙ line_after-crlf bytes (p ++ 13 ∷ 10 ∷ written (x ∷ text) ps) q at in
      let drop_past_it : drop (q + 2) bytes ≡ p ++ 13 ∷ 10 ∷ written (x ∷ text) ps = further bytes more q 2 (q + 2) at refl in
      ap (map (slice bytes)) (part_ranges-some (x ∷ text) bytes s)
      ∙ ap (λ (p : List ℕ). p ∷ map (slice bytes) (part_ranges (x ∷ text) bytes (next_part (x ∷ text) bytes s))) (part_slice bytes part more s clear there)
      ∙ ap (λ (o : Option ℕ). part ∷ map (slice bytes) (part_ranges (x ∷ text) bytes o)) next
      ∙ ap (λ (ps : List (List ℕ)). part ∷ ps) (ranges-written ps bytes p (q + 2) all.0 all.1 drop_past_it)

  -- the written bytes are cut into the parts, and the preamble is empty
  module _ (bytes : List ℕ) (i : ℕ) (part : List ℕ) (ps : List (List ℕ)) (all : AreClear (x ∷ text) (part ∷ ps)) (there : drop i bytes ≡ written (x ∷ text) (part ∷ ps)) where
    first_delimiter : delimiter_from (x ∷ text) bytes i ≡ Some i
    first_delimiter = sym (starts_delimiter (x ∷ text) bytes i (omega arith) (ap (has_prefix (x ∷ text)) there ∙ has_prefix-self (x ∷ text) (13 ∷ 10 ∷ (part ++ 13 ∷ 10 ∷ written (x ∷ text) ps))))

    preamble_end : end_from (x ∷ text) bytes i i ≡ i
    preamble_end =
        ap (λ (o : Option ℕ). option_map_or (before_line_end bytes i) o i) first_delimiter ∙ before_line_end-start bytes i

    pub body-written : slice bytes (cut_parts (x ∷ text) bytes i).body ≡ []
    unfolding cut_parts_as
    body-written =
        let none : i - i ≡ 0 = omega arith in
        ap (λ n. take (n - i) (drop i bytes)) preamble_end ∙ ap (λ n. take n (drop i bytes)) none

    drop_past_first : drop (i + length (x ∷ text)) bytes ≡ 13 ∷ 10 ∷ (part ++ 13 ∷ 10 ∷ written (x ∷ text) ps)
    drop_past_first =
        further bytes (written (x ∷ text) (part ∷ ps)) i (length (x ∷ text)) (i + length (x ∷ text)) there refl
        ∙ drop_at (x ∷ text) (13 ∷ 10 ∷ (part ++ 13 ∷ 10 ∷ written (x ∷ text) ps)) (length (x ∷ text)) refl

    first_start : first_part (x ∷ text) bytes i ≡ Some (i + length (x ∷ text) + 2)
    first_start =
        ap (option_and_then (part_after (x ∷ text) bytes)) first_delimiter
        ∙ line_after-crlf bytes (part ++ 13 ∷ 10 ∷ written (x ∷ text) ps) (i + length (x ∷ text)) drop_past_first

    pub parts-written : map (slice bytes) (cut_parts (x ∷ text) bytes i).parts ≡ part ∷ ps
    unfolding cut_parts_as
    parts-written =
        let q = i + length (x ∷ text) in
        ap (λ (o : Option ℕ). map (slice bytes) (part_ranges (x ∷ text) bytes o)) first_start
        ∙ ranges-written ps bytes part (q + 2) all.0 all.1
        (further bytes (13 ∷ 10 ∷ (part ++ 13 ∷ 10 ∷ written (x ∷ text) ps)) q 2 (q + 2) drop_past_first refl)
