-- A plain value is its own text; the strict and the lenient reading agree.
use Rattle.std.proofs.Common.{◌≡◌, ◌≢◌, ◌⊎◌, ℕ, zero, suc, ◌<◌, ◌≤◌, Bool, true, false, cond, eqb, ltb, ◌&&◌, List, [], ◌∷◌, ◌++◌, length, map, take, drop, get_or, Option, is_some, None, Some, Ok, Err, refl, zero-add, sym, ap, subst, ◌∙◌, inl, inr, ⊎_elim, arith}
use Rattle.std.proofs.Math.Nat.{sub-zero}
use Rattle.std.proofs.lemmas.Bool.{cond-true, cond-false, false≢true, eq-eqb, eqb-true, ne_eqb, cases_lt, or_from, and_left, and_right, le-ltb}
use Rattle.std.proofs.lemmas.List.{append-nil, length-drop, take_all, get_or_past, get_or_default}
use Rattle.std.proofs.lemmas.List.Elements.{All-head}
use Rattle.std.proofs.lemmas.List.Splits.{slice_split_none}
use Rattle.std.proofs.lemmas.Str.{chars-nil, chars-IsAscii, encodes-IsAscii, is_utf8-from_IsUtf8}
use Rattle.std.specs.Char.{is_whitespace}
use Rattle.std.specs.List.{All, join_with_byte}
use Rattle.std.specs.Str.{IsTrimStart, trim_start, skip_leading_whitespace, encode_utf8_all, IsAscii, IsUtf8, is_utf8}
use Rattle.std.specs.Str.Lines.{lines, lines_of_parts}
use Rattle.mail_codec.specs.Ascii.{space}
use Rattle.mail_codec.specs.Charset.{Charsets, four_charsets}
use Rattle.mail_codec.specs.Latin1.{latin1_text}
use Rattle.mail_codec.specs.Places.{first_place, begins, place}
use Rattle.mailparse.specs.Tokens.{whitespace, plain_text, line_end, begins_opening, is_all_whitespace, opening, outside_range, last_group, no_opening}
use Rattle.mailparse.specs.Refusal.{value_not_utf8}
use Rattle.mailparse.proofs.lemmas.Value.{lenient-utf8}
use Rattle.std.proofs.lemmas.Str.{IsUtf8-from_ascii}
use Rattle.mailparse.specs.Value.{IsPlain, Token, newline, token_of, outside_token, line_tokens, tokens_of_lines, value_tokens, shown_tokens, shown_after, unfolded_value, lenient_value, lenient_value_in, strict_value}
use Rattle.mail_codec.proofs.lemmas.Places.{first_place-≤, first_place-passes, first_place-before, begins-at}
use Rattle.mail_codec.proofs.lemmas.PlacesSearches.{place_none, place_some}
use Rattle.mailparse.proofs.lemmas.Places.{Nowhere, nowhere_found, nowhere_behind, not_some}
use Rattle.mailparse.proofs.lemmas.Unfolded.{settled, token_of-outside}
use Rattle.mailparse.proofs.lemmas.Tokens.{token_ranges_only}

-- ---- printable ASCII

abbrev Printable : List ℕ → Type 0
Printable value = All (λ b. (32 ≤ b) × (b ≤ 126)) value

printable_ascii : (value : List ℕ) → Printable value → IsAscii value
printable_ascii value h i =
    ⊎_elim (λ lt. omega (arith, (h i 0 lt).1)) (λ past. omega (arith, get_or_past value i 0 past)) (cases_lt i (length value))

pub graphic_no_whitespace : (b : ℕ) → 33 ≤ b → b ≤ 126 → is_whitespace b ≡ false
graphic_no_whitespace b low high =
    let other : (n : ℕ) → (b < n) ⊎ (n < b) → eqb b n ≡ false = λ n h. ne_eqb b n (λ e. ⊎_elim (λ l. absurd (omega arith)) (λ l. absurd (omega arith)) h) in
    or_from _ _ (or_from _ _ (or_from _ _ (or_from _ _ (or_from _ _ (or_from _ _ (or_from _ _ (or_from _ _ (or_from _ _ (or_from _ _
    (and_right (ltb 8 b) (ltb b 14) (le-ltb b 14 (omega arith)))
    (other 32 (inr (omega arith)))) (other 133 (inl (omega arith)))) (other 160 (inl (omega arith)))) (other 5760 (inl (omega arith))))
    (and_left (ltb 8191 b) (ltb b 8203) (le-ltb 8191 b (omega arith))))
    (other 8232 (inl (omega arith)))) (other 8233 (inl (omega arith)))) (other 8239 (inl (omega arith)))) (other 8287 (inl (omega arith))))
    (other 12288 (inl (omega arith)))

-- a plain value is one line
lines_of_plain : (b : ℕ) (value : List ℕ) → Printable (b ∷ value) → lines (b ∷ value) ≡ (b ∷ value) ∷ []
lines_of_plain b value h =
    ap lines_of_parts (slice_split_none (λ b. eqb b 10) (b ∷ value) (λ k d lt. ne_eqb _ _ (λ e. absurd (omega (arith, (h k d lt).0)))))
    ∙ cond-false _ _ _ (ne_eqb (suc (length value)) 0 (λ e. absurd (omega arith)))

-- and loses nothing at its start
trim_start-plain : (b : ℕ) (value : List ℕ) → Printable (b ∷ value) → b ≢ 32 → trim_start (b ∷ value) ≡ b ∷ value
unfolding trim_start
trim_start-plain b value h some =
    let ascii = printable_ascii (b ∷ value) h in
    let first = All-head (λ b. (32 ≤ b) × (b ≤ 126)) b value h in
    ap (λ cs. encode_utf8_all (skip_leading_whitespace cs)) (chars-IsAscii (b ∷ value) ascii)
    ∙ ap encode_utf8_all (cond-false _ _ _ (graphic_no_whitespace b (omega arith) first.1))
    ∙ encodes-IsAscii (b ∷ value) ascii

pub trim_start-nil : trim_start [] ≡ []
unfolding trim_start
trim_start-nil = ap (λ cs. encode_utf8_all (skip_leading_whitespace cs)) chars-nil

drop_whole : (n : ℕ) (text : List ℕ) → length (drop n text) ≡ length text → drop n text ≡ text
drop_whole zero text whole = refl
drop_whole (suc n) [] whole = refl
drop_whole (suc n) (b ∷ text) whole = absurd (omega (arith, whole, length-drop n text))

-- a line as long as the text is the text
pub trim_start-whole : (text line : List ℕ) → IsTrimStart text line → length line ≡ length text → line ≡ text
trim_start-whole text line trimmed whole = trimmed.1 ∙ drop_whole trimmed.0 text (sym (ap length trimmed.1) ∙ whole)

-- ---- its one token

pub no_line_feed : (text : List ℕ) → first_place (begins (λ b. eqb b 10)) text ≡ length text → (k : ℕ) (d : ℕ) → k < length text → eqb (get_or text k d) 10 ≡ false
no_line_feed text whole k d lt =
    ap (λ v. eqb v 10) (get_or_default text k d 0 lt) ∙ sym (begins-at (λ b. eqb b 10) text k lt)
    ∙ first_place-before (begins (λ b. eqb b 10)) text k (omega arith)

no_opening_found : (line : List ℕ) → ((k : ℕ) → begins_opening (drop k line) ≡ false) → opening line 0 ≡ length line
no_opening_found line none =
    let le = first_place-≤ begins_opening line in
    ⊎_elim (λ h. absurd (false≢true (sym (none _) ∙ first_place-passes begins_opening line h))) (λ h. omega arith)
    (cases_lt (first_place begins_opening line) (length line))

shown_outside : (line : List ℕ) (tokens : List Token) → shown_after None None (outside_token line ∷ tokens) ≡ line ++ shown_tokens tokens
shown_outside line tokens = by_test (is_all_whitespace line)
  where
    by_test : (t : Bool) → shown_after None None (record { kind = cond t whitespace plain_text; shown = line } ∷ tokens) ≡ line ++ shown_tokens tokens
    by_test true = ap (λ r. line ++ r) (settled None (Some whitespace) tokens refl refl)
    by_test false = ap (λ r. line ++ r) (settled None (Some plain_text) tokens refl refl)

shown_alone : (line : List ℕ) → shown_tokens (outside_token line ∷ []) ≡ line
shown_alone line = shown_outside line [] ∙ append-nil line

module _ (known : Charsets) where
  -- a line without `=?` is one token
  line_tokens-first : (line : List ℕ) → opening line 0 ≡ length line → line_tokens known line ≡ outside_token line ∷ []
  line_tokens-first line none =
      ap (map (token_of known line)) (sym (token_ranges_only known line (outside_range line 0 (length line) ∷ []) (last_group (no_opening none))))
      ∙ ap (λ t. t ∷ []) (token_of-outside known line 0 (length line)
      ∙ ap outside_token (ap (λ n. take n line) (sub-zero (length line)) ∙ take_all (length line) line (omega arith)))

  pub line_tokens-plain : (line : List ℕ) → ((k : ℕ) → begins_opening (drop k line) ≡ false) → line_tokens known line ≡ outside_token line ∷ []
  line_tokens-plain line none = line_tokens-first line (no_opening_found line none)

  pub unfolded_value-plain : (value : List ℕ) → IsPlain value → unfolded_value known value ≡ value
  unfolding unfolded_value value_tokens
  unfolded_value-plain [] plain = refl
  unfolded_value-plain (b ∷ value) plain =
      let some : b ≢ 32 = λ e. absurd (false≢true (sym plain.no_space ∙ ap (λ t. t && true) (eq-eqb 32 b (sym e)))) in
      ap (λ ls. shown_tokens (tokens_of_lines known (map trim_start ls))) (lines_of_plain b value plain.printable)
      ∙ ap (λ l. shown_tokens (line_tokens known l)) (trim_start-plain b value plain.printable some)
      ∙ ap shown_tokens (line_tokens-plain (b ∷ value) plain.no_opening)
      ∙ shown_alone (b ∷ value)

  -- a text of one line without `=?` is its own text, without its leading whitespace
  pub unfolded_value-line : (text line : List ℕ) → None ≡ place (begins (λ b. eqb b 10)) text → line ≡ trim_start text → None ≡ place begins_opening line
      → line ≡ unfolded_value known text
  unfolding unfolded_value value_tokens
  unfolded_value-line [] line no_line e no_word = e ∙ trim_start-nil
  unfolded_value-line (b ∷ text) line no_line e no_word =
      let whole = place_none (begins (λ b. eqb b 10)) (b ∷ text) no_line in
      let none = place_none begins_opening line no_word in
      sym (ap (λ ls. shown_tokens (tokens_of_lines known (map trim_start ls)))
      (ap lines_of_parts (slice_split_none (λ b. eqb b 10) (b ∷ text) (λ k d lt. no_line_feed (b ∷ text) whole k d lt))
      ∙ cond-false _ _ _ (ne_eqb (suc (length text)) 0 (λ e. absurd (omega arith))))
      ∙ ap (λ l. shown_tokens (line_tokens known l)) (sym e)
      ∙ ap shown_tokens (line_tokens-first line (zero-add (first_place begins_opening line) ∙ none))
      ∙ shown_alone line)

-- ---- the same of lines that are joined

no_opening_front : (xs ys : List ℕ) → Nowhere begins_opening (xs ++ ys) → Nowhere begins_opening xs
no_opening_front [] ys none zero = refl
no_opening_front [] ys none (suc k) = refl
no_opening_front (x ∷ []) ys none zero = and_right (eqb 61 x) false refl
no_opening_front (x ∷ y ∷ xs) ys none zero = none 0
no_opening_front (x ∷ xs) ys none (suc k) = no_opening_front xs ys (λ j. none (suc j)) k

shown_line_end : (tokens : List Token) → shown_after None None (newline ∷ tokens) ≡ space ∷ shown_tokens tokens
shown_line_end tokens = ap (λ r. space ∷ r) (settled None (Some line_end) tokens refl refl)

module _ (known : Charsets) where
  shown_joined : (lines : List (List ℕ)) → Nowhere begins_opening (join_with_byte space lines)
      → shown_tokens (tokens_of_lines known lines) ≡ join_with_byte space lines
  shown_joined [] none = refl
  shown_joined (line ∷ []) none = ap shown_tokens (line_tokens-plain known line none) ∙ shown_alone line
  shown_joined (line ∷ next ∷ more) none =
      let rest = space ∷ join_with_byte space (next ∷ more) in
      let later = nowhere_behind begins_opening line rest none in
      ap (λ ts. shown_tokens (ts ++ (newline ∷ tokens_of_lines known (next ∷ more)))) (line_tokens-plain known line (no_opening_front line rest none))
      ∙ shown_outside line (newline ∷ tokens_of_lines known (next ∷ more))
      ∙ ap (λ r. line ++ r) (shown_line_end (tokens_of_lines known (next ∷ more))
      ∙ ap (λ r. space ∷ r) (shown_joined (next ∷ more) (λ k. later (suc k))))

  -- lines without their leading whitespace are the text of the value if they contain no `=?` when they are joined
  pub unfolded_value-joined : (text joined : List ℕ) → joined ≡ join_with_byte space (map trim_start (lines text)) → None ≡ place begins_opening joined
      → joined ≡ unfolded_value known text
  unfolding unfolded_value value_tokens
  unfolded_value-joined text joined e no_word =
      e ∙ sym (shown_joined (map trim_start (lines text)) (subst (Nowhere begins_opening) e (nowhere_found begins_opening joined refl no_word)))

-- ---- the strict reading

pub strict_agrees : (bytes : List ℕ) → IsUtf8 bytes → strict_value bytes ≡ Ok (lenient_value bytes)
unfolding strict_value lenient_value_in
strict_agrees bytes utf8 =
    let test = is_utf8-from_IsUtf8 bytes utf8 in
    cond-true _ _ _ test ∙ ap (λ t. Ok (unfolded_value four_charsets t)) (sym (cond-true _ _ (latin1_text bytes) test))

pub strict_succeeds : (bytes value : List ℕ) → strict_value bytes ≡ Ok value → lenient_value bytes ≡ value
unfolding strict_value lenient_value_in
strict_succeeds bytes value h = go (is_utf8 bytes) h
  where
    go : (t : Bool) → cond t (Ok (unfolded_value four_charsets bytes)) (Err value_not_utf8) ≡ Ok value
        → unfolded_value four_charsets (cond t bytes (latin1_text bytes)) ≡ value
    go true e = cc
    go false e = cc

-- a plain value is UTF-8
pub plain_utf8 : (value : List ℕ) → IsPlain value → IsUtf8 value
plain_utf8 value plain = IsUtf8-from_ascii value (printable_ascii value plain.printable)

-- so the value is read as itself
pub lenient_value-plain : (value : List ℕ) → IsPlain value → lenient_value value ≡ value
lenient_value-plain value plain = lenient-utf8 four_charsets value (plain_utf8 value plain) ∙ unfolded_value-plain four_charsets value plain

-- a value that is joined
pub ruleset joined_values = (not_some, unfolded_value-joined)

-- ---- the searches for what a plain value does not contain

-- a place that passes
some_passes : (test : List ℕ → Bool) (bytes : List ℕ) (p : ℕ) → Some p ≡ place test bytes → (p < length bytes) × (test (drop p bytes) ≡ true)
some_passes test bytes p found =
    let at = place_some test bytes p found in
    (subst (λ n. n < length bytes) (sym at.0) at.1, ap (λ n. test (drop n bytes)) at.0 ∙ first_place-passes test bytes at.1)

-- a plain value has no line end
pub plain_feeds : (value : List ℕ) → IsPlain value → is_some (place (begins (λ b. eqb b 10)) value) ≡ false
plain_feeds value plain = by_place (place (begins (λ b. eqb b 10)) value) refl
  where
    by_place : (o : Option ℕ) → o ≡ place (begins (λ b. eqb b 10)) value → is_some o ≡ false
    by_place None found = refl
    by_place (Some p) found =
        let at = some_passes (begins (λ b. eqb b 10)) value p found in
        let feed : get_or value p 0 ≡ 10 = eqb-true _ 10 (sym (begins-at (λ b. eqb b 10) value p at.0) ∙ at.1) in
        let printable = plain.printable p 0 at.0 in
        absurd (omega (arith, feed, printable.0))

-- and loses nothing at its start
trimmed_plain : (value : List ℕ) → IsPlain value → trim_start value ≡ value
trimmed_plain [] plain = trim_start-nil
trimmed_plain (b ∷ value) plain =
    trim_start-plain b value plain.printable (λ e. absurd (false≢true (sym plain.no_space ∙ ap (λ t. t && true) (eq-eqb 32 b (sym e)))))

-- nor an encoded word
pub plain_openings : (value line : List ℕ) → IsPlain value → line ≡ trim_start value → None ≡ place begins_opening line
plain_openings value line plain trimmed = by_place (place begins_opening line) refl
  where
    by_place : (o : Option ℕ) → o ≡ place begins_opening line → None ≡ o
    by_place None found = refl
    by_place (Some p) found =
        let at = some_passes begins_opening line p found in
        absurd (false≢true (sym (plain.no_opening p) ∙ ap (λ l. begins_opening (drop p l)) (sym (trimmed ∙ trimmed_plain value plain)) ∙ at.1))
