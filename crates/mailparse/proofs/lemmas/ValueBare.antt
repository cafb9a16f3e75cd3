-- A bare value is its own text.
use Rattle.std.proofs.Common.{◌≡◌, ℕ, ◌+◌, Bool, true, eqb, leb, ◌||◌, List, [], ◌∷◌, ◌++◌, ◌≤◌, length, drop, ⊎_elim, None, sym, ap, ◌∙◌, arith}
use Rattle.std.proofs.lemmas.Bool.{and_parts, cases_lt, cond-false, eqb-true, false≢true, le-ltb, leb-true}
use Rattle.std.proofs.Math.ListN.{drop_of_length-le}
use Rattle.std.proofs.lemmas.List.{drop-drop}
use Rattle.std.proofs.lemmas.Str.{chars_past_char, encodes-chars, encode_ascii}
use Rattle.std.specs.Char.{is_ascii_graphic}
use Rattle.std.specs.Str.{chars, trim_start, skip_leading_whitespace, encode_utf8_all, IsUtf8}
use Rattle.mail_codec.specs.Charset.{Charsets}
use Rattle.mail_codec.specs.Places.{begins, first_place, place}
use Rattle.mail_codec.proofs.lemmas.Places.{first_place-before, first_place-passes, place_from_weaker}
use Rattle.mailparse.specs.Header.{is_line_feed}
use Rattle.mailparse.specs.Tokens.{begins_opening}
use Rattle.mailparse.specs.Value.{unfolded_value}
use Rattle.mailparse.specs.private.Plain.{IsBare, cuts_value}
use Rattle.mailparse.proofs.lemmas.ValuePlain.{graphic_no_whitespace, unfolded_value-line, trim_start-whole}
use Rattle.mailparse.proofs.lemmas.Places.{not_some}

pub graphic : (b : ℕ) → is_ascii_graphic b ≡ true → (33 ≤ b) × (b ≤ 126)
graphic b h = let range = and_parts (leb 33 b) (leb b 126) h in (leb-true 33 b range.0, leb-true b 126 range.1)

-- nothing is trimmed if the first character is visible
pub trim_start-visible : (text : List ℕ) → IsUtf8 text → begins is_ascii_graphic text ≡ true → trim_start text ≡ text
unfolding trim_start
trim_start-visible [] utf8 h = absurd (false≢true h)
trim_start-visible (b ∷ text) utf8 h =
    let range = graphic b h in
    let first : chars (b ∷ text) ≡ b ∷ chars text = chars_past_char (b ∷ text) text b utf8 (sym (ap (λ bs. bs ++ text) (encode_ascii b (omega (arith, range.1))))) in
    ap (λ cs. encode_utf8_all (skip_leading_whitespace cs)) first
    ∙ ap encode_utf8_all (cond-false _ _ _ (graphic_no_whitespace b range.0 range.1) ∙ sym first)
    ∙ encodes-chars (b ∷ text) utf8

-- ---- no byte cuts a value

feed_cuts : (rest : List ℕ) → begins is_line_feed rest ≡ true → begins cuts_value rest ≡ true
feed_cuts [] h = h
feed_cuts (b ∷ rest) h = ap (λ t. t || eqb b 63) h

-- the byte after the first of an opening cuts
opening_cuts : (rest : List ℕ) → begins_opening rest ≡ true → begins cuts_value (drop 1 rest) ≡ true
opening_cuts [] h = absurd (false≢true h)
opening_cuts (b ∷ []) h = absurd (false≢true (and_parts (eqb 61 b) _ h).1)
opening_cuts (b ∷ c ∷ rest) h = ap cuts_value (sym (eqb-true 63 c (and_parts (eqb 63 c) _ (and_parts (eqb 61 b) _ h).1).0))

none_placed : (test : List ℕ → Bool) (bytes : List ℕ) → length bytes ≤ first_place test bytes → None ≡ place test bytes
none_placed test bytes past = sym (cond-false _ _ _ (le-ltb (first_place test bytes) (length bytes) past))

no_feed : (bytes : List ℕ) → first_place (begins cuts_value) bytes ≡ length bytes → None ≡ place (begins is_line_feed) bytes
no_feed bytes uncut =
    let weaker = place_from_weaker (begins cuts_value) (begins is_line_feed) feed_cuts bytes 0 in
    none_placed (begins is_line_feed) bytes (omega (arith, weaker, uncut))

no_opening : (bytes : List ℕ) → first_place (begins cuts_value) bytes ≡ length bytes → None ≡ place begins_opening bytes
no_opening bytes uncut =
    let p = first_place begins_opening bytes in
    ⊎_elim (λ low.
    let next : begins cuts_value (drop (p + 1) bytes) ≡ true =
    ap (begins cuts_value) (sym (drop-drop 1 p bytes)) ∙ opening_cuts (drop p bytes) (first_place-passes begins_opening bytes low) in
    ⊎_elim (λ within. absurd (false≢true (sym (first_place-before (begins cuts_value) bytes (p + 1) (omega (arith, uncut, within))) ∙ next)))
    (λ past. absurd (false≢true (sym (ap (begins cuts_value) (drop_of_length-le bytes past)) ∙ next)))
    (cases_lt (p + 1) (length bytes)))
    (λ past. none_placed begins_opening bytes past)
    (cases_lt p (length bytes))

pub unfolded_value-bare : (known : Charsets) (text : List ℕ) → IsUtf8 text → IsBare text → text ≡ unfolded_value known text
unfolded_value-bare known text utf8 bare =
    unfolded_value-line known text text (no_feed text bare.uncut) (sym (trim_start-visible text utf8 bare.visible))
    (no_opening text bare.uncut)

-- a value of one line
pub ruleset plain_lines = (not_some, unfolded_value-bare, unfolded_value-line, trim_start-whole)
