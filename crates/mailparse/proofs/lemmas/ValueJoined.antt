-- The lines of a text, cut off one at a time.
use Rattle.std.proofs.Common.{◌≡◌, ℕ, ◌+◌, ◌<◌, eqb, List, [], ◌∷◌, ◌++◌, length, map, take, drop, get_or, Option, Some, None, refl, sym, ap, ◌∙◌, arith, append_assoc}
use Rattle.std.proofs.lemmas.Bool.{cond-false, eqb-true, ne_eqb, eqb-false}
use Rattle.std.proofs.lemmas.List.Splits.{slice_split_first, slice_split_none, length-slice_split}
use Rattle.std.specs.List.{join_with_byte, slice_split}
use Rattle.std.specs.Str.{trim_start}
use Rattle.std.specs.Str.Lines.{lines, lines_of_parts, strip_carriage_return}
use Rattle.mail_codec.specs.Ascii.{space}
use Rattle.mail_codec.specs.Places.{begins, byte_place}
use Rattle.mail_codec.proofs.lemmas.Places.{begins-at, first_place-begins, first_place-passes}
use Rattle.mail_codec.proofs.lemmas.PlacesSearches.{place_none, place_some}
use Rattle.mailparse.proofs.lemmas.ValuePlain.{no_line_feed, trim_start-nil}
use Rattle.std.proofs.lemmas.Str.{IsCharBoundary-before_ascii, IsCharBoundary-after_ascii}

-- the lines, joined as in the text of a value
abbrev pub joined_text : List ℕ → List ℕ
joined_text text = join_with_byte space (map trim_start (lines text))

parts_more : (part : List ℕ) (parts : List (List ℕ)) → 0 < length parts → lines_of_parts (part ∷ parts) ≡ strip_carriage_return part ∷ lines_of_parts parts
parts_more part [] h = absurd (omega arith)
parts_more part (next ∷ more) h = refl

-- a LF that was found
pub feed_at : (text : List ℕ) (place : ℕ) → Some place ≡ byte_place text 10 → (place < length text) × (get_or text place 0 ≡ 10)
feed_at text place e =
    let found = place_some (begins (λ b. eqb b 10)) text place e in
    let low : place < length text = omega (arith, found.0, found.1) in (
      low,
      eqb-true _ 10 (sym (begins-at (λ b. eqb b 10) text place low) ∙ ap (λ n. begins (λ b. eqb b 10) (drop n text)) found.0
          ∙ first_place-passes (begins (λ b. eqb b 10)) text found.1),
    )

-- a line that a LF ends, and the lines after it
pub lines_cut : (text : List ℕ) (place : ℕ) → Some place ≡ byte_place text 10 → lines text ≡ strip_carriage_return (take place text) ∷ lines (drop (place + 1) text)
lines_cut text place e =
    let found = place_some (begins (λ b. eqb b 10)) text place e in
    let at = found.0 ∙ first_place-begins (λ b. eqb b 10) text in
    let low = found.1 in
    let some = length-slice_split (λ b. eqb b 10) (drop (place + 1) text) in
    ap lines_of_parts (slice_split_first (λ b. eqb b 10) text 0 (omega (arith, first_place-begins (λ b. eqb b 10) text))
    ∙ ap (λ n. take n text ∷ slice_split (λ b. eqb b 10) (drop (n + 1) text)) (sym at))
    ∙ parts_more (take place text) (slice_split (λ b. eqb b 10) (drop (place + 1) text)) (omega arith)

-- a line that no LF ends
lines_alone : (text : List ℕ) → 0 < length text → None ≡ byte_place text 10 → lines text ≡ text ∷ []
lines_alone text some e =
    let whole = place_none (begins (λ b. eqb b 10)) text e in
    ap lines_of_parts (slice_split_none (λ b. eqb b 10) text (λ k d lt. no_line_feed text whole k d lt))
    ∙ cond-false _ _ _ (ne_eqb (length text) 0 (λ e. absurd (omega arith)))

pub joined_alone : (text : List ℕ) → None ≡ byte_place text 10 → joined_text text ≡ trim_start text
joined_alone [] e = sym trim_start-nil
joined_alone (b ∷ text) e = ap (λ ls. join_with_byte space (map trim_start ls)) (lines_alone (b ∷ text) (omega arith) e)

lines_some : (text : List ℕ) → 0 < length text → 0 < length (lines text)
lines_some text some = by_place (byte_place text 10) refl
  where
    by_place : (r : Option ℕ) → r ≡ byte_place text 10 → 0 < length (lines text)
    by_place None e = let len = ap length (lines_alone text some e) in omega (arith, len)
    by_place (Some place) e = let len = ap length (lines_cut text place e) in omega (arith, len)

lines_more : (line : List ℕ) (more : List (List ℕ)) → 0 < length more
    → join_with_byte space (map trim_start (line ∷ more)) ≡ trim_start line ++ space ∷ join_with_byte space (map trim_start more)
lines_more line [] h = absurd (omega arith)
lines_more line (next ∷ more) h = refl

-- the last line, and one with others after it
pub joined_last : (text line rest joined all new : List ℕ) → lines text ≡ line ∷ lines rest → length rest ≡ 0 → joined ++ joined_text text ≡ all
    → new ≡ joined ++ trim_start line → new ≡ all
joined_last text line [] joined all new e none b n = n ∙ ap (λ t. joined ++ t) (sym (ap (λ ls. join_with_byte space (map trim_start ls)) e)) ∙ b
joined_last text line (x ∷ rest) joined all new e none b n = absurd (omega arith)

pub joined_more : (text line rest joined all trimmed new : List ℕ) → lines text ≡ line ∷ lines rest → 0 < length rest → joined ++ joined_text text ≡ all
    → trimmed ≡ joined ++ trim_start line → new ≡ trimmed ++ space ∷ [] → new ++ joined_text rest ≡ all
joined_more text line rest joined all trimmed new e some b t n =
    ap (λ j. j ++ joined_text rest) (n ∙ ap (λ j. j ++ space ∷ []) t)
    ∙ append_assoc (joined ++ trim_start line) (space ∷ []) (joined_text rest)
    ∙ append_assoc joined (trim_start line) (space ∷ joined_text rest)
    ∙ ap (λ r. joined ++ r) (sym (ap (λ ls. join_with_byte space (map trim_start ls)) e ∙ lines_more line (lines rest) (lines_some rest some)))
    ∙ b

-- where a line is cut
pub ruleset line_cuts = (IsCharBoundary-before_ascii, IsCharBoundary-after_ascii, feed_at, lines_cut)

-- lines that are joined
pub ruleset joins = (eqb-true, eqb-false, joined_alone, joined_last, joined_more)
