-- Lemmas on headers that clearly give no file name.
use Rattle.std.proofs.Common.{◌≡◌, ℕ, zero, suc, ◌+◌, ◌-◌, ◌<◌, ◌≤◌, Bool, true, false, cond, not, ◌&&◌, ◌||◌, eqb, ltb, List, [], ◌∷◌, ◌++◌, length, map, get_or, take, drop, Option, Some, None, Ok, refl, sym, ap, ◌∙◌, arith}
use Rattle.std.proofs.lemmas.Bool.{agree_below, agree_below_at, and_from, and_left, and_parts, and_right, cond-true, eqb-false, false_from_ne_true, false≢true, lt-ltb, ltb-true, ne_eqb, not-true, or_from, or_parts}
use Rattle.std.proofs.lemmas.Slice.Eq.{bytes_eq-Decides}
use Rattle.std.proofs.lemmas.List.{append-nil}
use Rattle.std.proofs.lemmas.Str.{IsUtf8-from_ascii, chars-IsAscii, encodes-IsAscii, is_utf8-from_IsUtf8}
use Rattle.std.specs.Char.{is_ascii_whitespace, is_whitespace, to_ascii_lowercase}
use Rattle.std.specs.List.{before_first, after_first, list_any, onto_first, position_or_len, slice_split}
use Rattle.std.specs.Map.{update, update_all}
use Rattle.std.specs.Option.{is_some, option_and_then, option_map, option_map_or, option_to_list}
use Rattle.std.specs.Prelude.{codes, encode_utf8_all, slice_index, ◌==◌}
use Rattle.std.specs.Str.Lines.{lines, lines_of_parts, strip_carriage_return}
use Rattle.std.specs.Str.{IsAscii, bytes_eq, drop_trailing_whitespace, is_utf8, skip_leading_whitespace, str_to_ascii_lowercase, trim, trim_end, trim_start}
use Rattle.mail_codec.specs.Charset.{Charsets}
use Rattle.mail_codec.proofs.lemmas.Places.{first_place-begins}
use Rattle.mail_codec.proofs.lemmas.PlacesSearches.{place_none, place_some}
use Rattle.mail_codec.specs.Latin1.{latin1_text}
use Rattle.mail_codec.specs.Places.{begins, either_place, first_place}
use Rattle.mailparse.proofs.lemmas.EncodedWord.{any_from_place}
use Rattle.mailparse.proofs.lemmas.ExtendedValues.{is_some_where}
use Rattle.mailparse.proofs.lemmas.StarFree.{parameters_are_pairs}
use Rattle.mailparse.proofs.lemmas.ValuePlain.{line_tokens-plain}
use Rattle.mailparse.specs.Continuations.{parameters_in}
use Rattle.mailparse.specs.Pairs.{Texts, is_equals, last_of, no_texts, pair_of, pairs_in, pairs_of}
use Rattle.mailparse.specs.Segments.{QuoteState, outside, after, ends, segments, segments_from, with_front, unescape}
use Rattle.mailparse.specs.private.Continuations.{has_star}
use Rattle.mail_read.specs.Attachments.{is_attachment_disposition}
use Rattle.mail_read.specs.Files.{filled, first_text, is_leaf, no_charsets}
use Rattle.mail_read.specs.HeaderNames.{cut_text, decoded_name, name_from}
use Rattle.mail_read.proofs.lemmas.FileTexts.{octets-utf8}
use Rattle.mail_read.proofs.lemmas.lenient.Quoting.{quotes_ascii}
use Rattle.mail_read.proofs.lemmas.lenient.Undecoded.{undecoded_ascii}
use Rattle.mail_read.specs.lenient.Dispositions.{lenient_disposition, lenient_kind}
use Rattle.mail_read.specs.lenient.Values.{header_text}
use Rattle.mail_read.specs.lenient.FileNames.{extended_text, lenient_file_name, lenient_name_in, name_among, shown_name, typed_name}
use Rattle.mail_read.specs.lenient.Guess.{or_guessed}
use Rattle.mail_parts.specs.Part.{is_attachment}
use Rattle.mailparse.specs.ContentType.{content_type_in}
use Rattle.mailparse.specs.Disposition.{Kind, disposition_in}
use Rattle.mailparse.specs.Mail.{Node, Tree, root}
use Rattle.mailparse.specs.Header.{Header}
use Rattle.mailparse.specs.Map.{first_with_key}
use Rattle.mailparse.specs.Views.{kind}
use Rattle.mailparse.specs.declared.disposition.DispositionType.{DispositionType}
use Rattle.mailparse.specs.Tokens.{TokenKind, begins_opening, is_all_whitespace, line_end, plain_text, whitespace}
use Rattle.mailparse.specs.Value.{is_released, is_whitespace_token, is_word, kinds, lenient_value_in, newline, outside_token, shown_after, shown_tokens, shows, tokens_of_lines, unfolded_value, value_tokens}
use Rattle.mail_records.specs.Ranges.{file_name}
use Rattle.mail_records.specs.Nameless.{has_am_after, is_a, is_m, is_nameless, is_nameless_after, is_nameless_part, lacks_name, may_encode, may_follow}
use Rattle.mail_read.specs.lenient.Repairs as repairs
use Rattle.mail_read.specs.lenient.Undecoded.{undecoded}
use Rattle.mail_read.specs.lenient.Repairs.{after_name, after_quoted, after_run, after_value, apostrophes, begins_parameter, extended_are_alone, for_extended, is_other_space, lacking, missing, repaired, repaired_from, semicolon_unless, underscore_before}

-- ---- parts of such a text

-- after another byte, which is no `a`
follows : (last other b : ℕ) → is_a other ≡ false → may_follow last b ≡ true → may_follow other b ≡ true
follows last other b other_is h =
    let parts = and_parts _ _ h in
    let more = and_parts _ _ parts.1 in
    and_from _ _ parts.0 (and_from _ _ more.0 (ap not (and_right (is_m b) (is_a other) other_is)))

after_other : (last other : ℕ) (bytes : List ℕ) → is_a other ≡ false → is_nameless_after last bytes ≡ true → is_nameless_after other bytes ≡ true
after_other last other [] other_is h = refl
after_other last other (b ∷ bytes) other_is h =
    let parts = and_parts _ _ h in
    and_from _ _ (follows last other b other_is parts.0) parts.1

-- the bytes after the first one
rest_of : (last b : ℕ) (bytes : List ℕ) → is_nameless_after last (b ∷ bytes) ≡ true → is_nameless bytes ≡ true
rest_of last b bytes h = after_other b 0 bytes refl (and_parts _ _ h).1

front_of : (n last : ℕ) (bytes : List ℕ) → is_nameless_after last bytes ≡ true → is_nameless_after last (take n bytes) ≡ true
front_of zero last bytes h = refl
front_of (suc n) last [] h = refl
front_of (suc n) last (b ∷ bytes) h =
    let parts = and_parts _ _ h in
    and_from _ _ parts.0 (front_of n b bytes parts.1)

either : (last : ℕ) (t : Bool) (one other : List ℕ) → is_nameless_after last one ≡ true → is_nameless_after last other ≡ true → is_nameless_after last (cond t one other) ≡ true
either last true one other h k = h
either last false one other h k = k

ascii : (last : ℕ) (bytes : List ℕ) → is_nameless_after last bytes ≡ true → IsAscii bytes
ascii last [] h i = omega arith
ascii last (b ∷ bytes) h zero = ltb-true b 128 (and_parts _ _ (and_parts _ _ h).0).0
ascii last (b ∷ bytes) h (suc i) = ascii b bytes (and_parts _ _ h).1 i

-- ---- the test for such a text

m_no_a : (b : ℕ) → is_m b ≡ true → is_a b ≡ false
m_no_a b h = or_from _ _ (ne_eqb b 97 (λ e. false≢true (sym (ap is_m e) ∙ h))) (ne_eqb b 65 (λ e. false≢true (sym (ap is_m e) ∙ h)))

am_after_other : (last other : ℕ) (bytes : List ℕ) → is_a last ≡ false → is_a other ≡ false → has_am_after last bytes ≡ has_am_after other bytes
am_after_other last other [] h k = refl
am_after_other last other (b ∷ bytes) h k = ap (λ t. (is_m b && t) || has_am_after b bytes) (h ∙ sym k)

-- the offset of the first `m`, in any case
abbrev m_place : List ℕ → ℕ
m_place text = first_place (begins (λ b. b == 109 || b == 77)) text

am-without : (text : List ℕ) (last : ℕ) → m_place text ≡ length text → has_am_after last text ≡ false
am-without [] last h = refl
am-without (b ∷ bytes) last h = go (is_m b) refl h (am-without bytes b)
  where
    go : (t : Bool) → is_m b ≡ t → cond t 0 (suc (m_place bytes)) ≡ suc (length bytes) → (m_place bytes ≡ length bytes → has_am_after b bytes ≡ false)
        → has_am_after last (b ∷ bytes) ≡ false
    go true e f ih = absurd (omega (arith, f))
    go false e f ih = or_from _ _ (ap (λ t. t && is_a last) e) (ih (omega (arith, f)))

am-at : (text : List ℕ) (last : ℕ) → m_place text < length text
    → has_am_after last text ≡ (is_a (get_or (last ∷ text) (m_place text) 0) || has_am_after 0 (drop (suc (m_place text)) text))
am-at [] last h = absurd (omega (arith, h))
am-at (b ∷ bytes) last h = go (is_m b) refl h (am-at bytes b)
  where
    go : (t : Bool) → is_m b ≡ t → cond t 0 (suc (m_place bytes)) < suc (length bytes)
        → (m_place bytes < length bytes → has_am_after b bytes ≡ (is_a (get_or (b ∷ bytes) (m_place bytes) 0) || has_am_after 0 (drop (suc (m_place bytes)) bytes)))
        → has_am_after last (b ∷ bytes)
        ≡ (is_a (get_or (last ∷ b ∷ bytes) (cond t 0 (suc (m_place bytes))) 0) || has_am_after 0 (drop (suc (cond t 0 (suc (m_place bytes)))) (b ∷ bytes)))
    go true e f ih = ap (λ t. (t && is_a last) || has_am_after b bytes) e ∙ ap (λ t. is_a last || t) (am_after_other b 0 bytes (m_no_a b e) refl)
    go false e f ih = ap (λ t. (t && is_a last) || has_am_after b bytes) e ∙ ih (omega (arith, f))

-- a search for it, in what is left of a text
pub am-found : (text rest : List ℕ) (place : ℕ) → Some place ≡ either_place rest 109 77 → has_am_after 0 rest ≡ has_am_after 0 text
    → (has_am_after 0 text ≡ (is_a (get_or (0 ∷ rest) place 0) || has_am_after 0 (drop (place + 1) rest))) × (place < length rest)
am-found text rest place found same =
    let at = place_some (begins (λ b. b == 109 || b == 77)) rest place found in
    let next : suc (m_place rest) ≡ place + 1 = omega (arith, at.0) in (
      sym same ∙ am-at rest 0 at.1
          ∙ ap (λ p. is_a (get_or (0 ∷ rest) p 0) || has_am_after 0 (drop (suc (m_place rest)) rest)) (sym at.0)
          ∙ ap (λ n. is_a (get_or (0 ∷ rest) place 0) || has_am_after 0 (drop n rest)) next,
      omega (arith, at.0, at.1),
    )

pub am-not_found : (text rest : List ℕ) → None ≡ either_place rest 109 77 → has_am_after 0 rest ≡ has_am_after 0 text → false ≡ has_am_after 0 text
am-not_found text rest none same = sym (am-without rest 0 (place_none (begins (λ b. b == 109 || b == 77)) rest none)) ∙ same

am_free : (last : ℕ) (text : List ℕ) → is_nameless_after last text ≡ true → has_am_after last text ≡ false
am_free last [] h = refl
am_free last (b ∷ bytes) h =
    let parts = and_parts _ _ h in
    or_from _ _ (not-true _ (and_parts _ _ (and_parts _ _ parts.0).1).1) (am_free b bytes parts.1)

not_encoded : (last : ℕ) (text : List ℕ) → is_nameless_after last text ≡ true → list_any may_encode text ≡ false
not_encoded last [] h = refl
not_encoded last (b ∷ text) h =
    let parts = and_parts _ _ h in
    or_from _ _ (not-true _ (and_parts _ _ (and_parts _ _ parts.0).1).0) (not_encoded b text parts.1)

star_free : (last : ℕ) (text : List ℕ) → is_nameless_after last text ≡ true → has_star text ≡ false
star_free last [] h = refl
star_free last (b ∷ text) h =
    let parts = and_parts _ _ h in
    or_from _ _ (or_parts _ _ (not-true _ (and_parts _ _ (and_parts _ _ parts.0).1).0)).0 (star_free b text parts.1)

without_all : (last : ℕ) (text : List ℕ) → IsAscii text → list_any may_encode text ≡ false → has_am_after last text ≡ false → is_nameless_after last text ≡ true
without_all last [] low plain am = refl
without_all last (b ∷ bytes) low plain am =
    let stars = or_parts _ _ plain in
    let ams = or_parts _ _ am in
    and_from _ _ (and_from _ _ (lt-ltb b 128 (low 0)) (and_from _ _ (ap not stars.0) (ap not ams.0))) (without_all b bytes (λ i. low (suc i)) stars.1 ams.1)

pub encoding_found : (text : List ℕ) → is_some (either_place text 42 63) ≡ list_any may_encode text
encoding_found text = is_some_where _ _ ∙ ap (λ n. ltb n (length text)) (first_place-begins may_encode text) ∙ sym (any_from_place may_encode text)

pub nameless-by_am : (text : List ℕ) → IsAscii text → list_any may_encode text ≡ false → not (has_am_after 0 text) ≡ is_nameless text
nameless-by_am text low plain = go (has_am_after 0 text) refl
  where
    go : (t : Bool) → has_am_after 0 text ≡ t → not t ≡ is_nameless text
    go true e = sym (false_from_ne_true _ (λ h. false≢true (sym (am_free 0 text h) ∙ e)))
    go false e = sym (without_all 0 text low plain e)

pub named-encoded : (text : List ℕ) → list_any may_encode text ≡ true → false ≡ is_nameless text
named-encoded text is = sym (false_from_ne_true _ (λ h. false≢true (sym (not_encoded 0 text h) ∙ is)))

pub named-high : (text : List ℕ) (i : ℕ) → 128 ≤ get_or text i 0 → false ≡ is_nameless text
named-high text i high = sym (false_from_ne_true _ (λ h. absurd (omega (arith, ascii 0 text h i, high))))

-- ---- a text with what it lacks

-- a character that is put in
abbrev Fill : ℕ → Type 0
Fill x = ((last : ℕ) → may_follow last x ≡ true) × (is_a x ≡ false)

abbrev Fills : List ℕ → Type 0
Fills [] = Unit
Fills (x ∷ xs) = Fill x × Fills xs

either_fills : (t : Bool) (one other : List ℕ) → Fills one → Fills other → Fills (cond t one other)
either_fills true one other h k = h
either_fills false one other h k = k

apostrophe_fills : Fill 39
apostrophe_fills = (λ last. refl, refl)

underscore_fills : (c : ℕ) → Fills (underscore_before c)
underscore_fills c = either_fills (is_other_space c) (codes "_") [] ((λ last. refl, refl), tt) tt

semicolon_fills : (t : Bool) (c : ℕ) → Fills (semicolon_unless t c)
semicolon_fills true c = tt
semicolon_fills false c = ((λ last. refl, refl), underscore_fills c)

apostrophes_fill : (n : ℕ) → Fills (apostrophes n)
apostrophes_fill zero = tt
apostrophes_fill (suc zero) = (apostrophe_fills, tt)
apostrophes_fill (suc (suc n)) = (apostrophe_fills, (apostrophe_fills, tt))

extended_fills : (t : Bool) (cs : List ℕ) → Fills (for_extended t cs)
extended_fills t cs = either_fills t (apostrophes (lacking cs)) [] (apostrophes_fill (lacking cs)) tt

-- characters that are put in before another one
filled_before : (xs : List ℕ) (last other c : ℕ) (rest : List ℕ) → Fills xs → ((b : ℕ) → may_follow last b ≡ true → may_follow other b ≡ true)
    → may_follow last c ≡ true → is_nameless_after c rest ≡ true → is_nameless_after other (xs ++ c ∷ rest) ≡ true
filled_before [] last other c rest fill fits here more = and_from _ _ (fits c here) more
filled_before (x ∷ xs) last other c rest fill fits here more =
    and_from _ _ (fill.0.0 other) (filled_before xs last x c rest fill.1 (λ b m. follows last x b fill.0.1 m) here more)

-- a position in the text, which has no name outside its crate
data Spot : Type 0 where
  before_word in_word after_word in_name after_star before_text in_text after_blank in_quotes after_backslash after_text before_extended in_extended in_run run_backslash : Spot

-- characters with what is missing, the first of which has this position
abbrev mended : Bool → Spot → List ℕ → List ℕ
mended t before_word cs = repaired_from t (after_value 47) cs
mended t in_word cs = repaired_from t (after_value 97) cs
mended t after_word cs = repaired_from t (repairs.after (after_value 97) 32) cs
mended t in_name cs = repaired_from t (after_value 59) cs
mended t after_star cs = repaired_from t (after_name 42) cs
mended t before_text cs = repaired_from t (after_name 61) cs
mended t in_text cs = repaired_from t (repairs.after_text 97) cs
mended t after_blank cs = repaired_from t (repairs.after_text 32) cs
mended t in_quotes cs = repaired_from t (after_quoted 97) cs
mended t after_backslash cs = repaired_from t (after_quoted 92) cs
mended t after_text cs = repaired_from t (after_quoted 34) cs
mended t before_extended cs = repaired_from t (repairs.after_star 61) cs
mended t in_extended cs = repaired_from t (repairs.after (repairs.after_star 61) 34) cs
mended t in_run cs = repaired_from t (after_value 34) cs
mended t run_backslash cs = repaired_from t (after_run 92) cs

-- the characters after another one are so, whatever its position
abbrev GoOn : Bool → ℕ → List ℕ → Type 0
GoOn t c cs = (spot : Spot) → is_nameless_after c (mended t spot cs) ≡ true

choose : {P : Type 0} (made : P → List ℕ → List ℕ) (c : ℕ) (cs : List ℕ) (t : Bool) (one other : P) → is_nameless_after c (made one cs) ≡ true
    → is_nameless_after c (made other cs) ≡ true → is_nameless_after c (made (cond t one other) cs) ≡ true
choose made c cs true one other h k = h
choose made c cs false one other h k = k

choose_here : {P : Type 0} (before made : P → List ℕ → List ℕ) (next : P → ℕ → P) (last c : ℕ) (cs : List ℕ) (t : Bool) (one other : P)
    → is_nameless_after last (before one (c ∷ cs) ++ c ∷ made (next one c) cs) ≡ true
    → is_nameless_after last (before other (c ∷ cs) ++ c ∷ made (next other c) cs) ≡ true
    → is_nameless_after last (before (cond t one other) (c ∷ cs) ++ c ∷ made (next (cond t one other) c) cs) ≡ true
choose_here before made next last c cs true one other h k = h
choose_here before made next last c cs false one other h k = k

value_next : (t : Bool) (c : ℕ) (cs : List ℕ) → GoOn t c cs → is_nameless_after c (repaired_from t (after_value c) cs) ≡ true
value_next t c cs on =
    choose (repaired_from t) c cs (eqb c 59) _ _ (on in_name) (choose (repaired_from t) c cs (eqb c 47) _ _ (on before_word) (choose (repaired_from t) c cs (eqb c 34) _ _ (on in_run) (on in_word)))

name_next : (t : Bool) (c : ℕ) (cs : List ℕ) → GoOn t c cs → is_nameless_after c (repaired_from t (after_name c) cs) ≡ true
name_next t c cs on =
    choose (repaired_from t) c cs (eqb c 61) _ _ (on before_text) (choose (repaired_from t) c cs (eqb c 42) _ _ (on after_star) (choose (repaired_from t) c cs (eqb c 34) _ _ (on in_run) (on in_name)))

text_next : (t : Bool) (c : ℕ) (cs : List ℕ) → GoOn t c cs → is_nameless_after c (repaired_from t (repairs.after_text c) cs) ≡ true
text_next t c cs on =
    choose (repaired_from t) c cs (eqb c 59) _ _ (on in_name) (choose (repaired_from t) c cs (eqb c 34) _ _ (on in_run) (choose (repaired_from t) c cs (is_ascii_whitespace c) _ _ (on after_blank) (on in_text)))

quoted_next : (t : Bool) (c : ℕ) (cs : List ℕ) → GoOn t c cs → is_nameless_after c (repaired_from t (after_quoted c) cs) ≡ true
quoted_next t c cs on =
    choose (repaired_from t) c cs (eqb c 34) _ _ (on after_text) (choose (repaired_from t) c cs (eqb c 92) _ _ (on after_backslash) (on in_quotes))

run_next : (t : Bool) (c : ℕ) (cs : List ℕ) → GoOn t c cs → is_nameless_after c (repaired_from t (after_run c) cs) ≡ true
run_next t c cs on =
    choose (repaired_from t) c cs (eqb c 34) _ _ (on in_text) (choose (repaired_from t) c cs (eqb c 92) _ _ (on run_backslash) (on in_run))

-- what is put in before a character, the character, and the rest
put : (xs : List ℕ) (last c : ℕ) (more : List ℕ) → Fills xs → may_follow last c ≡ true → is_nameless_after c more ≡ true → is_nameless_after last (xs ++ c ∷ more) ≡ true
put xs last c more fill here on = filled_before xs last last c more fill (λ b m. m) here on

text_here : (t : Bool) (last c : ℕ) (cs : List ℕ) → may_follow last c ≡ true → GoOn t c cs → is_nameless_after last (mended t in_text (c ∷ cs)) ≡ true
text_here t last c cs here on = put [] last c (repaired_from t (repairs.after (repairs.after_text 97) c) cs) tt here (text_next t c cs on)

end_here : (t : Bool) (last c : ℕ) (cs : List ℕ) → may_follow last c ≡ true → GoOn t c cs → is_nameless_after last (mended t after_text (c ∷ cs)) ≡ true
end_here t last c cs here on =
    put (semicolon_unless (is_ascii_whitespace c || eqb c 59) c) last c (repaired_from t (repairs.after (after_quoted 34) c) cs) (semicolon_fills _ c) here
    (choose (repaired_from t) c cs (is_ascii_whitespace c) _ _ (on after_text) (name_next t c cs on))

spot_here : (t : Bool) (spot : Spot) (last c : ℕ) (cs : List ℕ) → may_follow last c ≡ true → GoOn t c cs → is_nameless_after last (mended t spot (c ∷ cs)) ≡ true
spot_here t before_word last c cs here on =
    put [] last c (repaired_from t (repairs.after (after_value 47) c) cs) tt here (choose (repaired_from t) c cs (is_ascii_whitespace c) _ _ (on before_word) (value_next t c cs on))
spot_here t in_word last c cs here on =
    put [] last c (repaired_from t (repairs.after (after_value 97) c) cs) tt here (choose (repaired_from t) c cs (is_ascii_whitespace c) _ _ (on after_word) (value_next t c cs on))
spot_here t after_word last c cs here on =
    put (semicolon_unless ((is_ascii_whitespace c || eqb c 59) || eqb c 47) c) last c (repaired_from t (repairs.after (repairs.after (after_value 97) 32) c) cs) (semicolon_fills _ c) here
    (choose (repaired_from t) c cs (is_ascii_whitespace c) _ _ (on after_word) (choose (repaired_from t) c cs (eqb c 47) _ _ (on before_word) (name_next t c cs on)))
spot_here t in_name last c cs here on = put (underscore_before c) last c (repaired_from t (repairs.after (after_value 59) c) cs) (underscore_fills c) here (name_next t c cs on)
spot_here t after_star last c cs here on =
    put (underscore_before c) last c (repaired_from t (repairs.after (after_name 42) c) cs) (underscore_fills c) here (choose (repaired_from t) c cs (is_ascii_whitespace c) _ _ (on after_star) (choose (repaired_from t) c cs (eqb c 61) _ _ (on before_extended) (name_next t c cs on)))
spot_here t before_text last c cs here on =
    put [] last c (repaired_from t (repairs.after (after_name 61) c) cs) tt here (choose (repaired_from t) c cs (is_ascii_whitespace c) _ _ (on before_text) (choose (repaired_from t) c cs (eqb c 34) _ _ (on in_quotes) (text_next t c cs on)))
spot_here t before_extended last c cs here on =
    put (cond (is_ascii_whitespace c || eqb c 34) [] (for_extended t (c ∷ cs))) last c (repaired_from t (repairs.after (repairs.after_star 61) c) cs)
    (either_fills (is_ascii_whitespace c || eqb c 34) [] (for_extended t (c ∷ cs)) tt (extended_fills t (c ∷ cs))) here
    (choose (repaired_from t) c cs (is_ascii_whitespace c) _ _ (on before_extended) (choose (repaired_from t) c cs (eqb c 34) _ _ (on in_extended) (text_next t c cs on)))
spot_here t in_text last c cs here on = text_here t last c cs here on
spot_here t after_blank last c cs here on =
    choose_here (missing t) (repaired_from t) repairs.after last c cs (begins_parameter (c ∷ cs)) _ _ (end_here t last c cs here on) (text_here t last c cs here on)
spot_here t in_quotes last c cs here on = put [] last c (repaired_from t (repairs.after (after_quoted 97) c) cs) tt here (quoted_next t c cs on)
spot_here t in_extended last c cs here on = put (for_extended t (c ∷ cs)) last c (repaired_from t (repairs.after (repairs.after (repairs.after_star 61) 34) c) cs) (extended_fills t (c ∷ cs)) here (quoted_next t c cs on)
spot_here t after_backslash last c cs here on = put [] last c (repaired_from t (repairs.after (after_quoted 92) c) cs) tt here (on in_quotes)
spot_here t after_text last c cs here on = end_here t last c cs here on
spot_here t in_run last c cs here on = put [] last c (repaired_from t (repairs.after (after_value 34) c) cs) tt here (run_next t c cs on)
spot_here t run_backslash last c cs here on = put [] last c (repaired_from t (repairs.after (after_run 92) c) cs) tt here (on in_run)

end_of : (t : Bool) (spot : Spot) (last : ℕ) → is_nameless_after last (mended t spot []) ≡ true
end_of t before_word last = refl
end_of t in_word last = refl
end_of t after_word last = refl
end_of t in_name last = refl
end_of t after_star last = refl
end_of t before_text last = refl
end_of t in_text last = refl
end_of t after_blank last = refl
end_of t in_quotes last = refl
end_of t after_backslash last = refl
end_of t after_text last = refl
end_of t before_extended last = refl
end_of t in_extended last = refl
end_of t in_run last = refl
end_of t run_backslash last = refl

mended_after : (t : Bool) (spot : Spot) (last : ℕ) (cs : List ℕ) → is_nameless_after last cs ≡ true → is_nameless_after last (mended t spot cs) ≡ true
mended_after t spot last [] h = end_of t spot last
mended_after t spot last (c ∷ cs) h =
    let parts = and_parts _ _ h in
    spot_here t spot last c cs parts.0 (λ other. mended_after t other c cs parts.1)

nameless-mended : (text : List ℕ) → is_nameless text ≡ true → is_nameless (repairs.mended text) ≡ true
unfolding repairs.mended
nameless-mended text h =
    let alone = extended_are_alone text in
    let made = mended_after alone before_word 0 text h in
    ap (λ cs. is_nameless (encode_utf8_all (mended alone before_word cs))) (chars-IsAscii text (ascii 0 text h))
    ∙ ap is_nameless (encodes-IsAscii (mended alone before_word text) (ascii 0 (mended alone before_word text) made)) ∙ made

nameless-repaired : (text : List ℕ) → is_nameless text ≡ true → is_nameless (repaired text) ≡ true
nameless-repaired text h =
    let made = nameless-mended text h in
    ap is_nameless (quotes_ascii (repairs.mended text) (ascii 0 (repairs.mended text) made)) ∙ made

-- ---- its segments

abbrev AreNameless : ℕ → List (List ℕ) → Type 0
AreNameless last [] = Unit
AreNameless last (s ∷ more) = (is_nameless_after last s ≡ true) × AreNameless 0 more

either_list : (last : ℕ) (t : Bool) (one other : List (List ℕ)) → AreNameless last one → AreNameless last other → AreNameless last (cond t one other)
either_list last true one other h k = h
either_list last false one other h k = k

in_front : (last b : ℕ) (parts : List (List ℕ)) → may_follow last b ≡ true → AreNameless b parts → AreNameless last (with_front (b ∷ []) parts)
in_front last b [] here are = (and_from _ _ here refl, tt)
in_front last b (s ∷ more) here are = (and_from _ _ here are.0, are.1)

segments_after : (state : QuoteState) (last : ℕ) (text : List ℕ) → is_nameless_after last text ≡ true → AreNameless last (segments_from state text)
segments_after state last [] h = (refl, tt)
segments_after state last (b ∷ text) h =
    let parts = and_parts _ _ h in
    either_list last (ends state b) ([] ∷ segments_from outside text) (with_front (b ∷ []) (segments_from (after state b) text))
    (refl, segments_after outside 0 text (after_other b 0 text refl parts.1))
    (in_front last b (segments_from (after state b) text) parts.0 (segments_after (after state b) b text parts.1))

after_first_one : (parts : List (List ℕ)) → AreNameless 0 parts → AreNameless 0 (drop 1 parts)
after_first_one [] are = tt
after_first_one (s ∷ more) are = are.1

-- ---- its keys

skipped : (cs : List ℕ) → is_nameless cs ≡ true → is_nameless (skip_leading_whitespace cs) ≡ true
skipped [] h = refl
skipped (c ∷ cs) h = either 0 (is_whitespace c) (skip_leading_whitespace cs) (c ∷ cs) (skipped cs (rest_of 0 c cs h)) h

dropped : (last : ℕ) (cs : List ℕ) → is_nameless_after last cs ≡ true → is_nameless_after last (drop_trailing_whitespace cs) ≡ true
dropped last [] h = refl
dropped last (c ∷ cs) h =
    let parts = and_parts _ _ h in
    either last (is_whitespace c && eqb (length (drop_trailing_whitespace cs)) 0) [] (c ∷ drop_trailing_whitespace cs) refl
    (and_from _ _ parts.0 (dropped c cs parts.1))

trimmed_start : (text : List ℕ) → is_nameless text ≡ true → is_nameless (trim_start text) ≡ true
unfolding trim_start
trimmed_start text h =
    let made = skipped text h in
    ap (λ cs. is_nameless (encode_utf8_all (skip_leading_whitespace cs))) (chars-IsAscii text (ascii 0 text h))
    ∙ ap is_nameless (encodes-IsAscii (skip_leading_whitespace text) (ascii 0 (skip_leading_whitespace text) made)) ∙ made

trimmed_end : (text : List ℕ) → is_nameless text ≡ true → is_nameless (trim_end text) ≡ true
unfolding trim_end
trimmed_end text h =
    let made = dropped 0 text h in
    ap (λ cs. is_nameless (encode_utf8_all (drop_trailing_whitespace cs))) (chars-IsAscii text (ascii 0 text h))
    ∙ ap is_nameless (encodes-IsAscii (drop_trailing_whitespace text) (ascii 0 (drop_trailing_whitespace text) made)) ∙ made

low_ascii : agree_below (λ b. ltb (to_ascii_lowercase b) 128) (λ b. ltb b 128) 128 ≡ true
low_ascii = refl

low_encode : agree_below (λ b. may_encode (to_ascii_lowercase b)) may_encode 128 ≡ true
low_encode = refl

low_a : agree_below (λ b. is_a (to_ascii_lowercase b)) is_a 128 ≡ true
low_a = refl

low_m : agree_below (λ b. is_m (to_ascii_lowercase b)) is_m 128 ≡ true
low_m = refl

lowered : (last low : ℕ) (text : List ℕ) → is_a low ≡ is_a last → is_nameless_after last text ≡ true → is_nameless_after low (str_to_ascii_lowercase text) ≡ true
lowered last low [] same h = refl
lowered last low (b ∷ text) same h =
    let parts = and_parts _ _ h in
    let small : b < 128 = ltb-true b 128 (and_parts _ _ parts.0).0 in
    let one = agree_below_at (λ b. ltb (to_ascii_lowercase b) 128) (λ b. ltb b 128) 128 b low_ascii small in
    let two = agree_below_at (λ b. may_encode (to_ascii_lowercase b)) may_encode 128 b low_encode small in
    let three = agree_below_at (λ b. is_m (to_ascii_lowercase b)) is_m 128 b low_m small in
    let here : may_follow low (to_ascii_lowercase b) ≡ may_follow last b = λ i. one i && (not (two i) && not (three i && same i)) in
    and_from _ _ (here ∙ parts.0)
    (lowered b (to_ascii_lowercase b) text (agree_below_at (λ b. is_a (to_ascii_lowercase b)) is_a 128 b low_a small) parts.1)

key_of : (segment : List ℕ) → is_nameless segment ≡ true → is_nameless (str_to_ascii_lowercase (trim (before_first is_equals segment))) ≡ true
key_of segment h =
    lowered 0 0 (trim (before_first is_equals segment)) refl
    (trimmed_end (trim_start (before_first is_equals segment)) (trimmed_start (before_first is_equals segment) (front_of (position_or_len is_equals segment) 0 segment h)))

abbrev HaveNoNames : List (List ℕ × List ℕ) → Type 0
HaveNoNames [] = Unit
HaveNoNames (p ∷ ps) = (is_nameless p.0 ≡ true) × HaveNoNames ps

pair_before : (t : Bool) (p : List ℕ × List ℕ) (ps : List (List ℕ × List ℕ)) → is_nameless p.0 ≡ true → HaveNoNames ps
    → HaveNoNames (option_to_list (cond t (Some p) None) ++ ps)
pair_before true p ps h are = (h, are)
pair_before false p ps h are = are

pairs_have : (parts : List (List ℕ)) → AreNameless 0 parts → HaveNoNames (pairs_in parts)
unfolding pair_of
pairs_have [] are = tt
pairs_have (s ∷ more) are =
    pair_before (ltb (position_or_len is_equals s) (length s)) (str_to_ascii_lowercase (trim (before_first is_equals s)), unescape (trim (after_first is_equals s)))
    (pairs_in more) (key_of s are.0) (pairs_have more are.1)

-- ---- its parameters

nothing : (ps : List (List ℕ × List ℕ)) (texts : Texts) (name : List ℕ) → HaveNoNames ps → is_nameless name ≡ false → texts name ≡ None
    → update_all bytes_eq texts ps name ≡ None
nothing [] texts name are other none = none
nothing (p ∷ ps) texts name are other none =
    let apart = false_from_ne_true (bytes_eq p.0 name) (λ e. false≢true (sym other ∙ ap is_nameless (sym ((bytes_eq-Decides p.0 name).0 e)) ∙ are.0)) in
    nothing ps (update bytes_eq texts p.0 (Some p.1)) name are.1 other (ap (λ t. cond t (Some p.1) (texts name)) apart ∙ none)

no_parameter : (known : Charsets) (text name : List ℕ) → is_nameless text ≡ true → is_nameless name ≡ false → parameters_in known (pairs_of text) name ≡ None
unfolding pairs_of segments
no_parameter known text name h other =
    let parts = drop 1 (segments text) in
    let are = pairs_have parts (after_first_one (segments text) (segments_after outside 0 text h)) in
    let starred : (n : List ℕ) → has_star n ≡ true → last_of (pairs_in parts) n ≡ None =
    λ n star. nothing (pairs_in parts) no_texts n are (false_from_ne_true _ (λ e. false≢true (sym (star_free 0 n e) ∙ star))) refl in
    parameters_are_pairs known (pairs_in parts) starred name ∙ nothing (pairs_in parts) no_texts name are other refl

-- ---- the text of its raw value

nameless-stripped : (line : List ℕ) → is_nameless line ≡ true → is_nameless (strip_carriage_return line) ≡ true
nameless-stripped line h =
    either 0 (eqb (slice_index line (length line - 1)) 13) (take (length line - 1) line) line (front_of (length line - 1) 0 line h) h

on_first : (last b : ℕ) (parts : List (List ℕ)) → may_follow last b ≡ true → AreNameless b parts → AreNameless last (onto_first b parts)
on_first last b [] here are = (and_from _ _ here refl, tt)
on_first last b (s ∷ more) here are = (and_from _ _ here are.0, are.1)

parts_after : (last : ℕ) (text : List ℕ) → is_nameless_after last text ≡ true → AreNameless last (slice_split (λ b. eqb b 10) text)
parts_after last [] h = (refl, tt)
parts_after last (b ∷ text) h =
    let parts = and_parts _ _ h in
    either_list last (eqb b 10) ([] ∷ slice_split (λ b. eqb b 10) text) (onto_first b (slice_split (λ b. eqb b 10) text))
    (refl, parts_after 0 text (after_other b 0 text refl parts.1))
    (on_first last b (slice_split (λ b. eqb b 10) text) parts.0 (parts_after b text parts.1))

nameless-lines : (parts : List (List ℕ)) → AreNameless 0 parts → AreNameless 0 (lines_of_parts parts)
nameless-lines [] are = tt
nameless-lines (x ∷ []) are = either_list 0 (eqb (length x) 0) [] (x ∷ []) tt are
nameless-lines (x ∷ y ∷ more) are = (nameless-stripped x are.0, nameless-lines (y ∷ more) are.1)

nameless-trimmed : (lines : List (List ℕ)) → AreNameless 0 lines → AreNameless 0 (map trim_start lines)
nameless-trimmed [] are = tt
nameless-trimmed (line ∷ more) are = (trimmed_start line are.0, nameless-trimmed more are.1)

no_opening : (last : ℕ) (line : List ℕ) → is_nameless_after last line ≡ true → begins_opening line ≡ false
no_opening last [] h = refl
no_opening last (x ∷ []) h = and_right (eqb 61 x) false refl
no_opening last (x ∷ y ∷ line) h =
    let rest : is_nameless_after x (y ∷ line) ≡ true = (and_parts (may_follow last x) (is_nameless_after x (y ∷ line)) h).1 in
    let next : may_follow x y ≡ true = (and_parts (may_follow x y) (is_nameless_after y line) rest).0 in
    let plain : (not (may_encode y) && not (is_m y && is_a x)) ≡ true = (and_parts (ltb y 128) (not (may_encode y) && not (is_m y && is_a x)) next).1 in
    let other : eqb y 63 ≡ false =
    (or_parts (eqb y 42) (eqb y 63) (not-true (may_encode y) (and_parts (not (may_encode y)) (not (is_m y && is_a x)) plain).0)).1 in
    and_right (eqb 61 x) _ (and_left (eqb 63 y) _ (ne_eqb 63 y (λ e. eqb-false y 63 other (sym e))))

no_opening_at : (line : List ℕ) → is_nameless line ≡ true → (k : ℕ) → begins_opening (drop k line) ≡ false
no_opening_at line h zero = no_opening 0 line h
no_opening_at [] h (suc k) = refl
no_opening_at (b ∷ line) h (suc k) = no_opening_at line (rest_of 0 b line h) k

-- a space between two texts
spaced : (last : ℕ) (xs ys : List ℕ) → is_nameless_after last xs ≡ true → is_nameless ys ≡ true → is_nameless_after last (xs ++ 32 ∷ ys) ≡ true
spaced last [] ys h k = and_from _ _ refl (after_other 0 32 ys refl k)
spaced last (x ∷ xs) ys h k = let parts = and_parts _ _ h in and_from _ _ parts.0 (spaced x xs ys parts.1 k)

-- the kind of the token of a line
abbrev kind_of : Bool → Option TokenKind
kind_of blank = Some (cond blank whitespace plain_text)

no_word : (t : Bool) → is_word (kind_of t) ≡ false
no_word true = refl
no_word false = refl

-- the end of a line after such a token is shown
end_shows : (before : Option TokenKind) (t : Bool) (after : List TokenKind) → is_word before ≡ false → shows before (kind_of t) line_end after ≡ true
end_shows before t after none =
    ap (λ held. not held || is_released line_end after) (or_from _ _ (no_word t) (and_right (is_whitespace_token (kind_of t)) (is_word before) none))

module _ (known : Charsets) where
  shown : (earlier before : Option TokenKind) (lines : List (List ℕ)) → is_word before ≡ false → AreNameless 0 lines
      → is_nameless (shown_after earlier before (tokens_of_lines known lines)) ≡ true
  shown earlier before [] none are = refl
  shown earlier before (line ∷ []) none are =
      ap (λ tokens. is_nameless (shown_after earlier before tokens)) (line_tokens-plain known line (no_opening_at line are.0))
      ∙ ap is_nameless (append-nil (cond (shows earlier before (outside_token line).kind []) line []))
      ∙ either 0 (shows earlier before (outside_token line).kind []) line [] are.0 refl
  shown earlier before (line ∷ next ∷ more) none are =
      let blank = is_all_whitespace line in
      let rest = tokens_of_lines known (next ∷ more) in
      let here = shows earlier before (outside_token line).kind (kinds (newline ∷ rest)) in
      let after = shown_after (kind_of blank) (Some line_end) rest in
      ap (λ tokens. is_nameless (shown_after earlier before (tokens ++ (newline ∷ rest)))) (line_tokens-plain known line (no_opening_at line are.0))
      ∙ ap (λ t. is_nameless (cond here line [] ++ (cond t (32 ∷ []) [] ++ after))) (end_shows before blank (kinds rest) none)
      ∙ spaced 0 (cond here line []) after (either 0 here line [] are.0 refl) (shown (kind_of blank) (Some line_end) (next ∷ more) refl are.1)

  nameless-decoded : (raw : List ℕ) → is_nameless raw ≡ true → is_nameless (lenient_value_in known raw) ≡ true
  unfolding lenient_value_in unfolded_value value_tokens
  nameless-decoded raw h =
      ap (λ text. is_nameless (shown_tokens (tokens_of_lines known (map trim_start (lines text)))))
      (cond-true (is_utf8 raw) raw (latin1_text raw) (is_utf8-from_IsUtf8 raw (IsUtf8-from_ascii raw (ascii 0 raw h))))
      ∙ shown None None (map trim_start (lines raw)) refl
      (nameless-trimmed (lines raw) (nameless-lines (slice_split (λ b. eqb b 10) raw) (parts_after 0 raw h)))

nameless-cut : (raw : List ℕ) → is_nameless raw ≡ true → is_nameless (cut_text raw) ≡ true
unfolding cut_text
nameless-cut raw h =
    ap (λ text. is_nameless (undecoded text)) (sym (octets-utf8 raw (IsUtf8-from_ascii raw (ascii 0 raw h))))
    ∙ ap is_nameless (undecoded_ascii raw (ascii 0 raw h))
    ∙ nameless-decoded no_charsets raw h

-- ---- the file name

-- a text that has no name in a disposition or in a type
abbrev Nameless : (List ℕ → Option (List ℕ)) → Type 0
Nameless read = (text : List ℕ) → is_nameless text ≡ true → read text ≡ None

none_among : (known : Charsets) (texts : Texts) (key extended : List ℕ) → texts key ≡ None → texts extended ≡ None → name_among known texts key extended ≡ None
none_among known texts key extended one other =
    ap (λ t. first_text (filled (option_map (extended_text known) t)) (filled (texts key))) other ∙ ap (λ t. filled t) one

none_shown : (known : Charsets) → Nameless (shown_name known)
unfolding shown_name disposition_in
none_shown known text h =
    let whole = repaired text in
    let made = nameless-repaired text h in
    none_among known (parameters_in (or_guessed known) (pairs_of whole)) (codes "filename") (codes "filename*")
    (no_parameter (or_guessed known) whole (codes "filename") made refl) (no_parameter (or_guessed known) whole (codes "filename*") made refl)

none_typed : (known : Charsets) → Nameless (typed_name known)
unfolding typed_name content_type_in
none_typed known text h =
    let whole = repaired text in
    let made = nameless-repaired text h in
    none_among known (parameters_in (or_guessed known) (pairs_of whole)) (codes "name") (codes "name*")
    (no_parameter (or_guessed known) whole (codes "name") made refl) (no_parameter (or_guessed known) whole (codes "name*") made refl)

-- in neither of two texts
none_found : (known : Charsets) (one other : Option (List ℕ)) → one ≡ None → other ≡ None
    → decoded_name known (first_text one other) ≡ None
none_found known one other e f = ap (λ t. decoded_name known (first_text t other)) e ∙ ap (λ t. decoded_name known t) f

none_read : (read : List ℕ → Option (List ℕ)) (header : Option Header) → Nameless read → option_map_or (λ h. is_nameless h.value) header true ≡ true
    → option_and_then read (option_map (λ h. cut_text h.value) header) ≡ None
none_read read None less h = refl
none_read read (Some header) less h = less (cut_text header.value) (nameless-cut header.value h)

-- a part has none
pub nameless-part : (known : Charsets) (node : Node) → is_nameless_part node ≡ true → lenient_file_name known node ≡ None
unfolding lenient_file_name
nameless-part known node h =
    let parts = and_parts _ _ h in
    none_found known (name_from (shown_name known) (codes "Content-Disposition") node) (name_from (typed_name known) (codes "Content-Type") node)
    (none_read (shown_name known) (first_with_key (codes "Content-Disposition") node.headers) (none_shown known) parts.0)
    (none_read (typed_name known) (first_with_key (codes "Content-Type") node.headers) (none_typed known) parts.1)

-- a part without a disposition has none in that
pub no_disposition : (known : Charsets) (node : Node) (found : Option DispositionType) → option_map kind found ≡ lenient_disposition known node → is_some found ≡ false
    → lacks_name (codes "Content-Disposition") node ≡ true
unfolding lenient_disposition
no_disposition known node (Some shown) same none = absurd (false≢true (sym none))
no_disposition known node None same none = by_header (first_with_key (codes "Content-Disposition") node.headers) same
  where
    by_header : (header : Option Header) → None ≡ option_map lenient_kind (option_map (λ h. header_text known h.value) header)
        → option_map_or (λ h. is_nameless h.value) header true ≡ true
    by_header None same = refl
    by_header (Some h) same = absurd (cc)

-- so it is no attachment, unless its disposition says so
pub nameless-attachment : (known : Charsets) (t : Tree) (disposition : Option Kind) → is_attachment_disposition disposition ≡ false → is_nameless_part (root t) ≡ true
    → false ≡ is_attachment t disposition (lenient_file_name known (root t))
nameless-attachment known t disposition shown h =
    sym (and_right (is_leaf t) _ (or_from _ _ shown (ap (λ (name : Option (List ℕ)). is_some name) (nameless-part known (root t) h))))

-- two raw values have none
pub nameless-values : (known : Charsets) (disposition ctype : List ℕ) → is_nameless disposition ≡ true → is_nameless ctype ≡ true
    → file_name known disposition ctype ≡ Ok None
unfolding file_name lenient_name_in
nameless-values known disposition ctype h k =
    ap (λ (name : Option (List ℕ)). Ok name)
    (none_found known (shown_name known (cut_text disposition)) (typed_name known (cut_text ctype))
    (none_shown known (cut_text disposition) (nameless-cut disposition h))
    (none_typed known (cut_text ctype) (nameless-cut ctype k)))
