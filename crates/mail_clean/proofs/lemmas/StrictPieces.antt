-- The pieces of a multipart by the grammar of strict mails are those that its delimiters cut, and each text of the grammar
-- has some.
use Rattle.std.proofs.Common.{◌≡◌, ◌∙◌, ◌+◌, ◌-◌, ◌<◌, ◌≤◌, ℕ, zero, suc, Bool, true, false, not, cond, List, [], ◌∷◌, ◌++◌}
use Rattle.std.proofs.Common.{length, map, take, drop, Option, Some, None, refl, sym, ap, subst, inl, inr, arith, length-append}
use Rattle.std.proofs.Common.{length-drop}
use Rattle.std.specs.Prelude.{◌⊎◌, ◌&&◌, ◌||◌, ◌==◌, codes, nat_lt, option_and_then, option_map}
use Rattle.std.specs.List.{list_all}
use Rattle.std.specs.Option.{option_map_or}
use Rattle.std.proofs.lemmas.Bool.{cases_lt, cond-false, cond-true, eq-eqb, eqb-true, false≢true, le-ltb, lt-ltb}
use Rattle.std.proofs.lemmas.Bool.{and_from, and_left, and_right, cases_Bool}
use Rattle.std.proofs.lemmas.List.{drop-drop}
use Rattle.mail_codec.specs.Ascii.{carriage_return, line_feed}
use Rattle.mail_codec.specs.Places.{begins, byte_place, has_prefix}
use Rattle.mailparse.specs.Header.{is_line_feed}
use Rattle.mailparse.specs.Ranges.{Range, slice}
use Rattle.mailparse.specs.Delimiters.{before_byte, before_line_end, cut_parts, cut_parts_as, delimiter_from, end_from}
use Rattle.mailparse.specs.Delimiters.{first_part, is_close_delimiter, line_after, next_part, part_after, starts_line}
use Rattle.mailparse.proofs.lemmas.Delimiters.{NoDelimiter, delimiter_from-some, part_ranges, part_ranges-none, part_ranges-some}
use Rattle.mail_grammar.specs.Delimiters.{HasNoDash, no_dash, no_dash_here, IsClosed, HasClose, part_byte, delimiter}
use Rattle.mail_grammar.specs.Delimiters.{close_delimiter, HasParts, preamble_byte, first_delimiter}
use Rattle.mail_grammar.specs.LineEnds.{IsLineEnd}
use Rattle.mail_check_laws.proofs.lemmas.Headers.{front, past_name}
use Rattle.mail_clean.specs.StrictMails.{EndsInOther, no_last, last_other, before_others, IsBreak, no_break, feed_break}
use Rattle.mail_clean.specs.StrictMails.{return_break, IsPiece, HasPieces, last_piece, next_piece, IsSplitInto}
use Rattle.mail_laws.proofs.lemmas.DelimiterPlaces.{before_byte-one, before_byte-start, before_line_end-start}
use Rattle.mail_laws.proofs.lemmas.DelimiterPlaces.{before_line_end-crlf}
use Rattle.mail_laws.proofs.lemmas.RenderParts.{further, has_prefix-self}
use Rattle.mail_grammar.proofs.lemmas.Boundaries.{all_head, all_tail, is_inner}

-- ---- texts at the front

differ : (x c : ℕ) → is_inner x ≡ true → is_inner c ≡ false → (x == c) ≡ false
differ x c h bad = elim (cases_Bool (x == c)) [
  | inr e ↦ e
  | inl e ↦ let also : is_inner c ≡ true = subst (λ (y : ℕ). is_inner y ≡ true) (eqb-true x c e) h in absurd (cc)
]

-- a text without the bytes of line ends does not go on past one
pub prefix_before : (d front : List ℕ) (c : ℕ) (rest : List ℕ) → list_all is_inner d ≡ true → is_inner c ≡ false
    → has_prefix d (front ++ c ∷ rest) ≡ has_prefix d front
prefix_before [] front c rest all bad = refl
prefix_before (x ∷ d) [] c rest all bad = and_left (x == c) (has_prefix d rest) (differ x c (all_head is_inner x d all) bad)
prefix_before (x ∷ d) (b ∷ front) c rest all bad =
    ap (λ t. (x == b) && t) (prefix_before d front c rest (all_tail is_inner x d all) bad)

-- what is not at the front of more bytes is not at the front of fewer
pub prefix_less : (d front rest : List ℕ) → has_prefix d (front ++ rest) ≡ false → has_prefix d front ≡ false
prefix_less [] front rest h = h
prefix_less (x ∷ d) [] rest h = refl
prefix_less (x ∷ d) (b ∷ front) rest h = elim (cases_Bool (x == b)) [
  | inr e ↦ and_left (x == b) (has_prefix d front) e
  | inl e ↦
      and_right (x == b) (has_prefix d front)
      (prefix_less d front rest (sym (ap (λ t. t && has_prefix d (front ++ rest)) e) ∙ h))
]

-- ---- a piece before a delimiter

module _ (x : ℕ) (text : List ℕ) (plain : list_all is_inner (x ∷ text) ≡ true) where
  abbrev dash : List ℕ
  dash = x ∷ text

  -- the dash-boundary does not begin in a piece or in its line end
  no_line : (line rest : List ℕ) → list_all (λ b. not (is_inner b)) line ≡ true → (k : ℕ) → k < length line
      → has_prefix dash (drop k (line ++ rest)) ≡ false
  no_line [] rest all k low = absurd (omega (arith, low))
  no_line (c ∷ line) rest all zero low = and_left (x == c) (has_prefix text (line ++ rest))
      (differ x c (all_head is_inner x text plain) (is_outer c (all_head (λ b. not (is_inner b)) c line all)))
    where
      is_outer : (c : ℕ) → not (is_inner c) ≡ true → is_inner c ≡ false
      is_outer c h = by_test (is_inner c) h
        where
          by_test : (t : Bool) → not t ≡ true → t ≡ false
          by_test true h = absurd (false≢true h)
          by_test false h = refl
  no_line (c ∷ line) rest all (suc k) low = no_line line rest (all_tail (λ b. not (is_inner b)) c line all) k (omega (arith, low))

  -- a piece with the byte of a line end after it
  no_part : (part : List ℕ) (c : ℕ) (rest : List ℕ) → is_inner c ≡ false → HasNoDash dash part → (k : ℕ) → k < length part
      → has_prefix dash (drop k (part ++ c ∷ rest)) ≡ false
  no_part [] c rest bad none k low = absurd (omega (arith, low))
  no_part (b ∷ part) c rest bad (no_dash_here here none) zero low = prefix_before dash (b ∷ part) c rest plain bad ∙ here
  no_part (b ∷ part) c rest bad (no_dash_here here none) (suc k) low = no_part part c rest bad none k (omega (arith, low))

  no_line_end : (part line after : List ℕ) (c : ℕ) (more : List ℕ) → line ≡ c ∷ more → is_inner c ≡ false
      → list_all (λ b. not (is_inner b)) (c ∷ more) ≡ true → HasNoDash dash part → (k : ℕ) → k < length part + length line
      → has_prefix dash (drop k (part ++ (line ++ after))) ≡ false
  no_line_end part line after c more is bad all none k low = elim (cases_lt k (length part)) [
    | inl l ↦
        ap (λ (xs : List ℕ). has_prefix dash (drop k (part ++ (xs ++ after)))) is
        ∙ no_part part c (more ++ after) bad none k l
    | inr g ↦
        let there = drop-drop (k - length part) (length part) (part ++ (line ++ after)) in
        ap (λ (n : ℕ). has_prefix dash (drop n (part ++ (line ++ after)))) {x = k} {y = length part + (k - length part)}
        (omega (arith, g))
        ∙ ap (has_prefix dash) (sym there ∙ ap (drop (k - length part)) (past_name part (line ++ after)))
        ∙ no_line line after (ap (list_all (λ b. not (is_inner b))) is ∙ all) (k - length part) (omega (arith, g, low))
  ]

  no_both : (part line after : List ℕ) → HasNoDash dash part → IsBreak part line → (k : ℕ) → k < length part + length line
      → has_prefix dash (drop k (part ++ (line ++ after))) ≡ false
  no_both part line after none (no_break empty also) k low =
      let a = ap length empty in
      let b = ap length also in
      absurd (omega (arith, low, a, b))
  no_both part line after none (feed_break other is) k low = no_line_end part line after 10 [] is refl refl none k low
  no_both part line after none (return_break is) k low = no_line_end part line after 13 (10 ∷ []) is refl refl none k low

  -- ---- a piece at an offset

  module _ (bytes part more : List ℕ) (s : ℕ) (is : IsPiece dash part (dash ++ more) (drop s bytes)) where
    abbrev after : List ℕ
    after = dash ++ more

    abbrev end : ℕ
    end = s + length part

    abbrev next : ℕ
    next = s + (length part + length is.line)

    at_line : (n : ℕ) → end ≡ n → drop n bytes ≡ is.line ++ after
    at_line n e =
        further bytes (part ++ (is.line ++ after)) s (length part) n is.made e ∙ past_name part (is.line ++ after)

    at_next : (n : ℕ) → next ≡ n → drop n bytes ≡ after
    at_next n e =
        further bytes (is.line ++ after) end (length is.line) n (at_line end refl) (omega (arith, e)) ∙ past_name is.line after

    fits : length bytes - s ≡ length part + (length is.line + (suc (length text) + length more))
    fits =
        let a = length-append part (is.line ++ after) in
        let b = length-append is.line after in
        let c = length-append dash more in
        sym (length-drop s bytes) ∙ ap length is.made ∙ a ∙ omega (arith, b, c)

    nowhere : NoDelimiter dash bytes s next
    nowhere k low high =
        and_right (starts_line bytes s k) (has_prefix dash (drop k bytes))
        (ap (has_prefix dash) (further bytes (part ++ (is.line ++ after)) s (k - s) k is.made (omega (arith, low)))
        ∙ no_both part is.line after is.no_dash is.break (k - s) (omega (arith, low, high)))

    -- where it ends
    abbrev Ends : Type 0
    Ends = (starts_line bytes s next ≡ true) × (before_line_end bytes s next ≡ end)

    fed : (q : ℕ) → s ≤ q → begins is_line_feed (drop q bytes) ≡ true → starts_line bytes s (suc q) ≡ true
    fed q low h =
        let less : suc q - 1 ≡ q = omega arith in
        ap (λ (n : ℕ). (suc q == s) || begins is_line_feed (drop n bytes)) less
        ∙ or_true (suc q == s) (begins is_line_feed (drop q bytes)) h
      where
        or_true : (s t : Bool) → t ≡ true → (s || t) ≡ true
        or_true true t e = refl
        or_true false t e = e

    no_return_before : (part line : List ℕ) → EndsInOther (λ b. b == carriage_return) part → drop s bytes ≡ part ++ line
        → 0 < length part
        → begins (λ b. b == carriage_return) (drop ((s + length part) - 1) bytes) ≡ false
    no_return_before part line other made some =
        ap (begins (λ b. b == carriage_return))
        (further bytes (part ++ line) s (length part - 1) ((s + length part) - 1) made (omega (arith, some)))
        ∙ by_last part other (length part - 1) (omega (arith, some))
      where
        by_last : (part : List ℕ) → EndsInOther (λ b. b == carriage_return) part → (n : ℕ) → suc n ≡ length part
            → begins (λ b. b == carriage_return) (drop n (part ++ line)) ≡ false
        by_last part no_last n e = absurd (omega (arith, e))
        by_last part (last_other fails) zero e = fails
        by_last part (last_other fails) (suc n) e = absurd (omega (arith, e))
        by_last part (before_others more) zero e = absurd (omega (arith, e))
        by_last part (before_others {c = c} {rest = rest} more) (suc n) e = by_last (c ∷ rest) more n (omega (arith, e))

    feed_ends : EndsInOther (λ b. b == carriage_return) part → is.line ≡ codes "\n" → Ends
    feed_ends other e =
        let size : length is.line ≡ 1 = ap length e in
        let last : next ≡ suc end = omega (arith, size) in
        let feed : begins is_line_feed (drop end bytes) ≡ true = ap (begins is_line_feed) (at_line end refl)
        ∙ ap (λ (xs : List ℕ). begins is_line_feed (xs ++ after)) e in
        let first : before_byte line_feed bytes s (suc end) ≡ end = before_byte-one line_feed bytes s end (omega arith) feed in (
          ap (starts_line bytes s) last ∙ fed end (omega arith) feed,
          ap (before_line_end bytes s) last ∙ ap (before_byte carriage_return bytes s) first ∙ by_part (cases_lt 0 (length part)),
        )
      where
        by_part : (0 < length part) ⊎ (length part ≤ 0) → before_byte carriage_return bytes s end ≡ end
        by_part (inl some) =
            cond-false (nat_lt s end && begins (λ x. x == carriage_return) (drop (end - 1) bytes)) (end - 1) end
            (and_right (nat_lt s end) (begins (λ x. x == carriage_return) (drop (end - 1) bytes))
            (no_return_before part (is.line ++ after) other is.made some))
        by_part (inr none) = before_byte-start carriage_return bytes s end (omega (arith, none))

    return_ends : is.line ≡ codes "\r\n" → Ends
    return_ends e =
        let size : length is.line ≡ 2 = ap length e in
        let last : next ≡ suc (suc end) = omega (arith, size) in
        let there : drop end bytes ≡ 13 ∷ 10 ∷ after = at_line end refl ∙ ap (λ (xs : List ℕ). xs ++ after) e in
        let feed : begins is_line_feed (drop (suc end) bytes) ≡ true =
        ap (begins is_line_feed) (further bytes (13 ∷ 10 ∷ after) end 1 (suc end) there (omega arith)) in (
          ap (starts_line bytes s) last ∙ fed (suc end) (omega arith) feed,
          ap (before_line_end bytes s) last
              ∙ before_line_end-crlf bytes s end (omega arith) (ap (begins (λ b. b == 13)) there) feed,
        )

    empty_ends : part ≡ [] → is.line ≡ [] → Ends
    empty_ends e f =
        let size : length part ≡ 0 = ap length e in
        let none : length is.line ≡ 0 = ap length f in
        let last : next ≡ s = omega (arith, size, none) in
        let same : s ≡ end = omega (arith, size) in (
          ap (λ (t : Bool). t || begins is_line_feed (drop (next - 1) bytes)) (eq-eqb next s last),
          ap (before_line_end bytes s) last ∙ before_line_end-start bytes s ∙ same,
        )

    ends : Ends
    ends = by_break is.break
      where
        by_break : IsBreak part is.line → Ends
        by_break (no_break e f) = empty_ends e f
        by_break (feed_break other e) = feed_ends other e
        by_break (return_break e) = return_ends e

    found : delimiter_from dash bytes s ≡ Some next
    found =
        let size = fits in
        sym (delimiter_from-some dash bytes s next (omega arith) (omega (arith, size))
        (and_from (starts_line bytes s next) (has_prefix dash (drop next bytes)) ends.0
        (ap (has_prefix dash) (at_next next refl) ∙ has_prefix-self dash more)) nowhere)

    part_end : (otherwise : ℕ) → end_from dash bytes s otherwise ≡ end
    part_end otherwise = ap (λ (o : Option ℕ). option_map_or (before_line_end bytes s) o otherwise) found ∙ ends.1

    part_slice : (otherwise : ℕ) → slice bytes (record { start = s; end = end_from dash bytes s otherwise }) ≡ part
    part_slice otherwise =
        let size : end - s ≡ length part = omega arith in
        ap (λ (n : ℕ). take (n - s) (drop s bytes)) (part_end otherwise)
        ∙ ap (λ (n : ℕ). take n (drop s bytes)) size
        ∙ ap (take (length part)) is.made
        ∙ front part (is.line ++ after)

    past : (n : ℕ) → next + length dash ≡ n → drop n bytes ≡ more
    past n e = further bytes after next (length dash) n (at_next next refl) e ∙ past_name dash more

    next_by_delimiter : next_part dash bytes s ≡ cond (is_close_delimiter dash bytes next) None (part_after dash bytes next)
    next_by_delimiter =
        ap (option_and_then (λ p. cond (is_close_delimiter dash bytes p) None (part_after dash bytes p))) found

    closes : is_close_delimiter dash bytes next ≡ (nat_lt (length more) 2 || has_prefix (codes "--") more)
    closes = ap (λ (r : List ℕ). nat_lt (length r) 2 || has_prefix (codes "--") r) (past (next + length dash) refl)

  -- ---- all pieces

  -- the line after a delimiter
  line_past : (bytes line rest : List ℕ) (p : ℕ) → IsLineEnd line → drop p bytes ≡ line ++ rest
      → (n : ℕ) × (line_after bytes p ≡ Some n) × (drop n bytes ≡ rest)
  line_past bytes line rest p (inl e) there =
      let at : drop p bytes ≡ 10 ∷ rest = there ∙ ap (λ (xs : List ℕ). xs ++ rest) e in (
        suc (p + 0),
        ap (λ (xs : List ℕ). option_map (λ k. suc (p + k)) (byte_place xs 10)) at
            ∙ ap (option_map (λ k. suc (p + k)))
            (cond-true (nat_lt 0 (suc (length rest))) (Some 0) None (lt-ltb 0 (suc (length rest)) (omega arith))),
        further bytes (10 ∷ rest) p 1 (suc (p + 0)) at (omega arith),
      )
  line_past bytes line rest p (inr e) there =
      let at : drop p bytes ≡ 13 ∷ 10 ∷ rest = there ∙ ap (λ (xs : List ℕ). xs ++ rest) e in (
        suc (p + 1),
        ap (λ (xs : List ℕ). option_map (λ k. suc (p + k)) (byte_place xs 10)) at
            ∙ ap (option_map (λ k. suc (p + k)))
            (cond-true (nat_lt 1 (suc (suc (length rest)))) (Some 1) None (lt-ltb 1 (suc (suc (length rest))) (omega arith))),
        further bytes (13 ∷ 10 ∷ rest) p 2 (suc (p + 1)) at (omega arith),
      )

  goes_on : (line rest : List ℕ) → IsLineEnd line → 0 < length rest
      → (nat_lt (length (line ++ rest)) 2 || has_prefix (codes "--") (line ++ rest)) ≡ false
  goes_on line rest (inl e) some =
      ap (λ (xs : List ℕ). nat_lt (length (xs ++ rest)) 2 || has_prefix (codes "--") (xs ++ rest)) e
      ∙ ap (λ (t : Bool). t || false) (le-ltb (suc (length rest)) 2 (omega (arith, some)))
  goes_on line rest (inr e) some =
      ap (λ (xs : List ℕ). nat_lt (length (xs ++ rest)) 2 || has_prefix (codes "--") (xs ++ rest)) e
      ∙ ap (λ (t : Bool). t || false) (le-ltb (suc (suc (length rest))) 2 (omega arith))

  some_bytes : (parts : List (List ℕ)) (rest : List ℕ) → HasPieces dash parts rest → 0 < length rest
  some_bytes parts rest (last_piece {part = part} {after = last} is closed) =
      let a = ap length is.made in
      let b = length-append part (is.line ++ last) in
      let c = length-append is.line last in
      let d = ap length closed.made in
      omega (arith, a, b, c, d)
  some_bytes parts rest (next_piece {part = part} {line = line} {rest = more} is end others) =
      let a = ap length is.made in
      let b = length-append part (is.line ++ (dash ++ (line ++ more))) in
      let c = length-append is.line (dash ++ (line ++ more)) in
      omega (arith, a, b, c)

  any_true : (t : Bool) → (t || true) ≡ true
  any_true true = refl
  any_true false = refl

  ranges_cut : (parts : List (List ℕ)) (rest : List ℕ) → HasPieces dash parts rest → (bytes : List ℕ) (s : ℕ)
      → drop s bytes ≡ rest
      → map (slice bytes) (part_ranges dash bytes (Some s)) ≡ parts
  ranges_cut parts rest (last_piece {part = part} {after = last} is closed) bytes s there =
      let whole : IsPiece dash part (dash ++ (codes "--" ++ closed.rest)) (drop s bytes) =
      record {
        line = is.line;
        no_dash = is.no_dash;
        break = is.break;
        made = there ∙ is.made
            ∙ ap (λ (xs : List ℕ). part ++ (is.line ++ xs)) closed.made;
      } in
      let none : next_part dash bytes s ≡ None =
      next_by_delimiter bytes part (codes "--" ++ closed.rest) s whole
      ∙ cond-true _ _ _
      (closes bytes part (codes "--" ++ closed.rest) s whole
      ∙ any_true (nat_lt (length (codes "--" ++ closed.rest)) 2)) in
      ap (map (slice bytes)) (part_ranges-some dash bytes s)
      ∙ ap (λ (p : List ℕ). p ∷ map (slice bytes) (part_ranges dash bytes (next_part dash bytes s)))
      (part_slice bytes part (codes "--" ++ closed.rest) s whole (length bytes))
      ∙ ap (λ (o : Option ℕ). part ∷ map (slice bytes) (part_ranges dash bytes o)) none
      ∙ ap (λ (rs : List Range). part ∷ map (slice bytes) rs) (part_ranges-none dash bytes)
  ranges_cut parts rest (next_piece {part = part} {line = line} {rest = more} {parts = others} is end left) bytes s there =
      let whole : IsPiece dash part (dash ++ (line ++ more)) (drop s bytes) =
      record { line = is.line; no_dash = is.no_dash; break = is.break; made = there ∙ is.made } in
      let q = next bytes part (line ++ more) s whole in
      let on : is_close_delimiter dash bytes q ≡ false =
      closes bytes part (line ++ more) s whole ∙ goes_on line more end (some_bytes others more left) in
      let after_line = line_past bytes line more (q + length dash) end
      (past bytes part (line ++ more) s whole (q + length dash) refl) in
      let to : next_part dash bytes s ≡ Some after_line.0 =
      next_by_delimiter bytes part (line ++ more) s whole ∙ cond-false _ _ _ on ∙ after_line.1 in
      ap (map (slice bytes)) (part_ranges-some dash bytes s)
      ∙ ap (λ (p : List ℕ). p ∷ map (slice bytes) (part_ranges dash bytes (next_part dash bytes s)))
      (part_slice bytes part (line ++ more) s whole (length bytes))
      ∙ ap (λ (o : Option ℕ). part ∷ map (slice bytes) (part_ranges dash bytes o)) to
      ∙ ap (λ (ps : List (List ℕ)). part ∷ ps) (ranges_cut others more left bytes after_line.0 after_line.2)

  -- the preamble and the parts
  pub split_cut : (bytes preamble : List ℕ) (i : ℕ) (parts : List (List ℕ)) → IsSplitInto dash preamble parts (drop i bytes)
      → (slice bytes (cut_parts dash bytes i).body ≡ preamble) × (map (slice bytes) (cut_parts dash bytes i).parts ≡ parts)
  unfolding cut_parts_as
  split_cut bytes preamble i parts is =
      let more = is.line ++ is.rest in
      let q = next bytes preamble more i is.opening in
      let after_line = line_past bytes is.line is.rest (q + length dash) is.ends
      (past bytes preamble more i is.opening (q + length dash) refl) in
      let first : first_part dash bytes i ≡ Some after_line.0 =
      ap (option_and_then (part_after dash bytes)) (found bytes preamble more i is.opening) ∙ after_line.1 in (
        part_slice bytes preamble more i is.opening i,
        ap (λ (o : Option ℕ). map (slice bytes) (part_ranges dash bytes o)) first
            ∙ ranges_cut parts is.rest is.pieces bytes after_line.0 after_line.2,
      )

  pub one_split : (bytes preamble other : List ℕ) (parts others : List (List ℕ)) → IsSplitInto dash preamble parts bytes
      → IsSplitInto dash other others bytes → (preamble ≡ other) × (parts ≡ others)
  one_split bytes preamble other parts others is also =
      let first = split_cut bytes preamble 0 parts is in
      let second = split_cut bytes other 0 others also in
      (sym first.0 ∙ second.0, sym first.1 ∙ second.1)

  -- ---- each text of the grammar has pieces

  -- the first piece of a text, and what follows it
  record HasFirst (parts : List (List ℕ) → List ℕ → Type 0) (starts : Bool) (bytes : List ℕ) : Type 0 where
    part : List ℕ
    after : List ℕ
    is : IsPiece dash part after bytes
    at_start : (part ≡ []) → (is.line ≡ []) → starts ≡ true
    others : List (List ℕ)
    left : parts others after

  -- one more byte before the first piece
  one_more : (parts : List (List ℕ) → List ℕ → Type 0) (starts : Bool) (b : ℕ) (rest : List ℕ)
      → has_prefix dash (b ∷ rest) ≡ false
      → HasFirst parts (b == line_feed) rest → HasFirst parts starts (b ∷ rest)
  one_more parts starts b rest free first = by_break first.is.break
    where
      none_at : has_prefix dash (b ∷ first.part) ≡ false
      none_at =
          prefix_less dash (b ∷ first.part) (first.is.line ++ first.after)
          (ap (λ (xs : List ℕ). has_prefix dash (b ∷ xs)) (sym first.is.made) ∙ free)

      longer : IsBreak (b ∷ first.part) first.is.line → HasFirst parts starts (b ∷ rest)
      longer break = record {
        part = b ∷ first.part;
        after = first.after;
        is = record {
          line = first.is.line;
          no_dash = no_dash_here none_at first.is.no_dash;
          break = break;
          made = ap (λ (xs : List ℕ). b ∷ xs) first.is.made;
        };
        at_start = λ e. let clash : b ∷ first.part ≡ [] = e in absurd (cc);
        others = first.others;
        left = first.left;
      }

      -- the line end itself
      line_end : (line : List ℕ) → IsBreak [] line → b ∷ rest ≡ line ++ first.after → 0 < length line
          → HasFirst parts starts (b ∷ rest)
      line_end line break made some = record {
        part = [];
        after = first.after;
        is = record { line = line; no_dash = no_dash; break = break; made = made };
        at_start = λ e f. let none = ap length f in absurd (omega (arith, none, some));
        others = first.others;
        left = first.left;
      }

      by_part : (part : List ℕ) → first.part ≡ part → EndsInOther (λ b. b == carriage_return) part → first.is.line ≡ codes "\n"
          → HasFirst parts starts (b ∷ rest)
      by_part [] e other f = by_return (b == carriage_return) refl
        where
          by_return : (t : Bool) → (b == carriage_return) ≡ t → HasFirst parts starts (b ∷ rest)
          by_return false fails = longer
              (feed_break
              (subst (λ (xs : List ℕ). EndsInOther (λ b. b == carriage_return) (b ∷ xs)) (sym e) (last_other fails)) f)
          by_return true is =
              line_end (codes "\r\n") (return_break refl)
              (ap (λ (xs : List ℕ). b ∷ xs)
              (first.is.made ∙ ap (λ (xs : List ℕ). xs ++ (first.is.line ++ first.after)) e
              ∙ ap (λ (xs : List ℕ). xs ++ first.after) f)
              ∙ ap (λ (c : ℕ). c ∷ 10 ∷ first.after) (eqb-true b carriage_return is)) (omega arith)
      by_part (c ∷ part) e other f =
          longer (feed_break
          (subst (λ (xs : List ℕ). EndsInOther (λ b. b == carriage_return) (b ∷ xs)) (sym e) (before_others other)) f)

      by_break : IsBreak first.part first.is.line → HasFirst parts starts (b ∷ rest)
      by_break (no_break e f) =
          line_end (codes "\n") (feed_break no_last refl)
          (ap (λ (xs : List ℕ). b ∷ xs)
          (first.is.made ∙ ap (λ (xs : List ℕ). xs ++ (first.is.line ++ first.after)) e
          ∙ ap (λ (xs : List ℕ). xs ++ first.after) f)
          ∙ ap (λ (c : ℕ). c ∷ first.after) (eqb-true b line_feed (first.at_start e f))) (omega arith)
      by_break (feed_break other f) = by_part first.part refl other f
      by_break (return_break f) = longer (return_break f)

  -- what follows a part
  Follows : List (List ℕ) → List ℕ → Type 0
  Follows others after = (IsClosed dash after × (others ≡ []))
      ⊎ ((line : List ℕ) × (rest : List ℕ) × IsLineEnd line × (after ≡ dash ++ (line ++ rest)) × HasPieces dash others rest)

  at_once : (parts : List (List ℕ) → List ℕ → Type 0) (others : List (List ℕ)) (bytes : List ℕ) → parts others bytes
      → HasFirst parts true bytes
  at_once parts others bytes left = record {
    part = [];
    after = bytes;
    is = record { line = []; no_dash = no_dash; break = no_break refl refl; made = refl };
    at_start = λ e f. refl;
    others = others;
    left = left;
  }

  pieces_of : (starts : Bool) (bytes : List ℕ) → HasFirst Follows starts bytes → (parts : List (List ℕ))
      × HasPieces dash parts bytes
  unfolding Follows
  pieces_of starts bytes first = by_rest first.left
    where
      by_rest : (IsClosed dash first.after × (first.others ≡ []))
          ⊎ ((line : List ℕ) × (rest : List ℕ) × IsLineEnd line × (first.after ≡ dash ++ (line ++ rest))
          × HasPieces dash first.others rest)
          → (parts : List (List ℕ)) × HasPieces dash parts bytes
      by_rest (inl (closed, none)) = (first.part ∷ [], last_piece first.is closed)
      by_rest (inr (line, rest, ends, made, left)) = (
        first.part ∷ first.others,
        next_piece
            (subst (λ (xs : List ℕ). IsPiece dash first.part xs bytes) made first.is) ends left,
      )

  closed_pieces : (starts : Bool) (bytes : List ℕ) → HasClose dash starts bytes → HasFirst Follows starts bytes
  unfolding Follows
  closed_pieces starts bytes (part_byte {b = b} {rest = rest} free more) = one_more Follows starts b rest free
      (closed_pieces (b == line_feed) rest more)
  closed_pieces starts bytes (delimiter {line = line} {rest = rest} ends more made) =
      let others = pieces_of true rest (closed_pieces true rest more) in
      at_once Follows others.0 bytes (inr (line, rest, ends, made, others.1))
  closed_pieces starts bytes (close_delimiter closed) = at_once Follows [] bytes (inl (closed, refl))

  -- what follows a preamble
  Opens : List (List ℕ) → List ℕ → Type 0
  Opens parts after = (line : List ℕ) × (rest : List ℕ) × IsLineEnd line × (after ≡ dash ++ (line ++ rest))
      × HasPieces dash parts rest

  opened_pieces : (starts : Bool) (bytes : List ℕ) → HasParts dash starts bytes → HasFirst Opens starts bytes
  unfolding Opens
  opened_pieces starts bytes (preamble_byte {b = b} {rest = rest} free more) = one_more Opens starts b rest free
      (opened_pieces (b == line_feed) rest more)
  opened_pieces starts bytes (first_delimiter {line = line} {rest = rest} ends more made) =
      let parts = pieces_of true rest (closed_pieces true rest more) in
      at_once Opens parts.0 bytes (line, rest, ends, made, parts.1)

  pub pieces_there : (bytes : List ℕ) → HasParts dash true bytes → (preamble : List ℕ) × (parts : List (List ℕ))
      × IsSplitInto dash preamble parts bytes
  unfolding Opens
  pieces_there bytes is =
      let first = opened_pieces true bytes is in
      let opens = first.left in (
        first.part,
        first.others,
        record {
          line = opens.0;
          rest = opens.1;
          opening = subst (λ (xs : List ℕ). IsPiece dash first.part xs bytes) opens.3 first.is;
          ends = opens.2;
          pieces = opens.4;
        },
      )
