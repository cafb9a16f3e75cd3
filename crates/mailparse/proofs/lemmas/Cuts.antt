-- Where a line is cut.
use Rattle.std.proofs.Common.{◌≡◌, ◌≢◌, ℕ, ◌+◌, ◌<◌, ◌≤◌, Bool, true, false, cond, eqb, List, [], ◌∷◌, ◌++◌, ◌&&◌, length, take, drop, reverse, get_or, refl, sym, ap, ◌∙◌, subst, arith, lit<, length-append}
use Rattle.std.proofs.lemmas.List.{drop-drop, reverse-append, take_at, append-nil, nil_from_length}
use Rattle.std.proofs.lemmas.Bool.{cond-true, cond-false, and_from, and_parts, and_right, ne_eqb}
use Rattle.std.proofs.lemmas.Str.{IsCharBoundary-after_ascii, IsCharBoundary-before_ascii, chars-append, chars-encodes, chars-nil, length-encode, len_utf8_bounds, IsUtf8-encode, IsUtf8-take, IsCharBoundary-at_seam}
use Rattle.std.specs.Char.{IsScalar, encode_utf8, is_whitespace}
use Rattle.std.specs.List.{list_all}
use Rattle.std.specs.Str.{chars, trim_start, encode_utf8_all, skip_leading_whitespace, IsUtf8, IsCharBoundary}
use Rattle.mailparse.specs.private.Cuts.{IsCut, IsOpening, KeepsClosing}
use Rattle.mail_codec.specs.Places.{has_prefix, place_from}
use Rattle.mailparse.specs.Tokens.{whitespace, plain_text, opening, closing, begins_closing, begins_with_boundary, is_boundary, is_all_whitespace}
use Rattle.mailparse.specs.Value.{outside_token}
use Rattle.mail_codec.proofs.lemmas.Places.{place_from_same, place_from_here, place_from_next, place_from_passes}
use Rattle.mailparse.proofs.lemmas.Places.{place_from_via}
use Rattle.mailparse.proofs.lemmas.Tokens.{pair_within, opening_within, closing_within}

-- a place that was found is kept for all later starts
pub KeepsClosing_found : (line : List ℕ) (s close : ℕ) → closing line s ≡ close → KeepsClosing line s close
KeepsClosing_found line s close found k above below =
    place_from_same begins_closing line s k above (omega (arith, found)) ∙ found

pub KeepsClosing_later : (line : List ℕ) (s t close : ℕ) → s ≤ t → KeepsClosing line s close → KeepsClosing line t close
KeepsClosing_later line s t close low keeps k above below = keeps k (omega arith) below

pub KeepsClosing_none : (line : List ℕ) → KeepsClosing line 2 0
KeepsClosing_none line k above below = absurd (omega arith)

-- ---- pairs of bytes

closing_is_pair : (rest : List ℕ) → begins_closing rest ≡ true → has_prefix (63 ∷ 61 ∷ []) rest ≡ true
closing_is_pair rest h = (and_parts (has_prefix (63 ∷ 61 ∷ []) rest) (begins_with_boundary (chars (drop 2 rest))) h).0

-- the end of a word is sought from the next `?=` onwards
pub closing_from_pair : (line : List ℕ) (s at : ℕ) → s ≤ length line → place_from (has_prefix (63 ∷ 61 ∷ [])) line s ≡ at
    → (at ≤ length line) × (place_from (has_prefix (63 ∷ 61 ∷ [])) line at ≡ at) × (closing line at ≡ closing line s)
closing_from_pair line s at fits e = place_from_via (has_prefix (63 ∷ 61 ∷ [])) begins_closing closing_is_pair line s at fits e

pair_here : (line : List ℕ) (at : ℕ) → at < length line → place_from (has_prefix (63 ∷ 61 ∷ [])) line at ≡ at → has_prefix (63 ∷ 61 ∷ []) (drop at line) ≡ true
pair_here line at some found =
    let pair = has_prefix (63 ∷ 61 ∷ []) in
    subst (λ v. pair (drop v line) ≡ true) found (place_from_passes pair line at (omega arith) (λ e. absurd (omega arith)))

closing_beside : (line : List ℕ) (at : ℕ) → begins_with_boundary (chars (drop 2 (drop at line))) ≡ begins_with_boundary (chars (drop (at + 2) line))
closing_beside line at = ap (λ rest. begins_with_boundary (chars rest)) (drop-drop 2 at line)

-- a `?=` with a boundary after it is the end of a word
pub closing_here : (line : List ℕ) (at : ℕ) → at < length line → place_from (has_prefix (63 ∷ 61 ∷ [])) line at ≡ at
    → begins_with_boundary (chars (drop (at + 2) line)) ≡ true → closing line at ≡ at
closing_here line at some found beside =
    place_from_here begins_closing line at some (and_from _ _ (pair_here line at some found) (closing_beside line at ∙ beside))

-- and a text without one has none
pub closing_next : (line : List ℕ) (at : ℕ) → at < length line → begins_with_boundary (chars (drop (at + 2) line)) ≡ false
    → closing line at ≡ closing line (at + 1)
closing_next line at some beside =
    place_from_next begins_closing line at some (and_right (has_prefix (63 ∷ 61 ∷ []) (drop at line)) _ (closing_beside line at ∙ beside))

-- ---- characters beside a word

-- after an ASCII byte a text may be cut
pub boundary_after : (line : List ℕ) (at b : ℕ) → IsUtf8 line → at + 2 ≤ length line → get_or line (at + 1) 0 ≡ b → b < 128
    → IsCharBoundary line (at + 2)
boundary_after line at b utf8 fits e small =
    subst (IsCharBoundary line) (omega arith) (IsCharBoundary-after_ascii line (at + 1) utf8 (omega arith) (omega arith))

chars-encode : (c : ℕ) → IsScalar c → chars (encode_utf8 c) ≡ c ∷ []
chars-encode c scalar = ap chars (sym (append-nil (encode_utf8 c))) ∙ chars-encodes (c ∷ []) (and_from _ _ scalar refl)

-- the last character of a text
pub reverse-chars : (text rest : List ℕ) (c : ℕ) → IsUtf8 text → IsScalar c → text ≡ rest ++ encode_utf8 c
    → reverse (chars text) ≡ c ∷ reverse (chars rest)
reverse-chars text rest c utf8 scalar e =
    let cut = IsUtf8-take text (length rest) utf8 (IsCharBoundary-at_seam text rest (encode_utf8 c) e (IsUtf8-encode c scalar)) in
    let front : take (length rest) text ≡ rest = ap (take (length rest)) e ∙ take_at rest (encode_utf8 c) (length rest) refl in
    let whole = subst IsUtf8 front cut in
    ap (λ t. reverse (chars t)) e ∙ ap reverse (chars-append rest (encode_utf8 c) whole ∙ ap (λ cs. chars rest ++ cs) (chars-encode c scalar))
    ∙ reverse-append (chars rest) (c ∷ [])

-- ---- whitespace

encoded_some : (c : ℕ) (bytes : List ℕ) → eqb (length (encode_utf8 c ++ bytes)) 0 ≡ false
encoded_some c bytes =
    let len = length-append (encode_utf8 c) bytes in
    let own = length-encode c in
    let bounds = len_utf8_bounds c in
    ne_eqb _ _ (λ e. absurd (omega arith))

whitespace_chars : (cs : List ℕ) → list_all is_whitespace cs ≡ eqb (length (encode_utf8_all (skip_leading_whitespace cs))) 0
whitespace_chars [] = refl
whitespace_chars (c ∷ cs) = go (is_whitespace c) refl (whitespace_chars cs)
  where
    go : (t : Bool) → is_whitespace c ≡ t → list_all is_whitespace cs ≡ eqb (length (encode_utf8_all (skip_leading_whitespace cs))) 0
        → list_all is_whitespace (c ∷ cs) ≡ eqb (length (encode_utf8_all (skip_leading_whitespace (c ∷ cs)))) 0
    go true e ih =
        ap (λ t. t && list_all is_whitespace cs) e ∙ ih
        ∙ ap (λ t. eqb (length (encode_utf8_all (cond t (skip_leading_whitespace cs) (c ∷ cs)))) 0) (sym e)
    go false e ih =
        ap (λ t. t && list_all is_whitespace cs) e ∙ sym (encoded_some c (encode_utf8_all cs))
        ∙ ap (λ t. eqb (length (encode_utf8_all (cond t (skip_leading_whitespace cs) (c ∷ cs)))) 0) (sym e)

-- a text is whitespace alone if nothing is left of it without its leading whitespace
pub is_all_whitespace-trim_start : (text : List ℕ) → is_all_whitespace text ≡ eqb (length (trim_start text)) 0
unfolding trim_start
is_all_whitespace-trim_start text = whitespace_chars (chars text)

-- the token of a text outside all words
pub outside_token-whitespace : (text : List ℕ) → eqb (length (trim_start text)) 0 ≡ true → record { kind = whitespace; shown = text } ≡ outside_token text
outside_token-whitespace text e =
    sym (ap (λ k. record { kind = k; shown = text }) (cond-true _ _ _ (is_all_whitespace-trim_start text ∙ e)))

pub outside_token-text : (text : List ℕ) → eqb (length (trim_start text)) 0 ≡ false → record { kind = plain_text; shown = text } ≡ outside_token text
outside_token-text text e =
    sym (ap (λ k. record { kind = k; shown = text }) (cond-false _ _ _ (is_all_whitespace-trim_start text ∙ e)))

-- ---- where a line may be cut

pair_cut : (a b : ℕ) (line : List ℕ) (s v : ℕ) → IsUtf8 line → a < 128 → b < 128 → s ≤ length line → place_from (has_prefix (a ∷ b ∷ [])) line s ≡ v
    → v ≢ length line → IsCut line v
pair_cut a b line s v utf8 first second fits e some =
    let has_prefix = pair_within a b line s v fits e some in
    record {
      fits = has_prefix.1;
      before = IsCharBoundary-before_ascii line v (omega arith) (omega (arith, has_prefix.2));
      after = boundary_after line v b utf8 has_prefix.1 has_prefix.3 second;
    }

pub opening_found : (line : List ℕ) (s v : ℕ) → IsUtf8 line → s ≤ length line → opening line s ≡ v → v ≢ length line → IsOpening line s v
opening_found line s v utf8 fits e some =
    record {
      least = e;
      some = some;
      ahead = (opening_within line s v fits e some).0;
      cut = pair_cut 61 63 line s v utf8 (lit< tt) (lit< tt) fits e some;
    }

pub closing_cut : (line : List ℕ) (s e : ℕ) → IsUtf8 line → s ≤ length line → closing line s ≡ e → e ≢ length line → IsCut line e
closing_cut line s e utf8 fits at some =
    let has_prefix = closing_within line s e fits at some in
    record {
      fits = has_prefix.1;
      before = IsCharBoundary-before_ascii line e (omega arith) (omega (arith, has_prefix.2));
      after = boundary_after line e 61 utf8 has_prefix.1 has_prefix.3 (lit< tt);
    }

-- ---- the character before a place

pub boundary_at_end : (text rest : List ℕ) (c : ℕ) → IsUtf8 text → IsScalar c → text ≡ rest ++ encode_utf8 c
    → begins_with_boundary (reverse (chars text)) ≡ is_boundary c
boundary_at_end text rest c utf8 scalar e = ap begins_with_boundary (reverse-chars text rest c utf8 scalar e)

pub boundary_of_empty : (text : List ℕ) → text ≡ [] → begins_with_boundary (reverse (chars text)) ≡ true
boundary_of_empty text e = ap (λ t. begins_with_boundary (reverse (chars t))) e ∙ ap (λ cs. begins_with_boundary (reverse cs)) chars-nil

-- the end of a text, as a boundary
pub ruleset boundaries = (boundary_at_end, boundary_of_empty, nil_from_length)

-- the token of a text outside all words
pub ruleset outside_tokens = (outside_token-whitespace, outside_token-text)
