-- The written values of an outline: a header can carry each, and each shows its text.
use Rattle.std.proofs.Common.{◌≡◌, ◌⊎◌, inl, inr, ℕ, ◌+◌, Bool, true, false, ◌&&◌, List, [], ◌∷◌, ◌++◌, length, map, refl, sym, ap, subst, ◌∙◌, arith, append_assoc, length-append}
use Rattle.std.specs.Prelude.{codes}
use Rattle.std.specs.List.{list_all}
use Rattle.std.specs.Str.{chars, IsUtf8, is_utf8}
use Rattle.std.proofs.lemmas.Bool.{and_parts, cond_both, cond-true, cond-false, false_from_ne_true}
use Rattle.std.proofs.lemmas.Str.{IsUtf8-from_is_utf8, is_utf8-from_IsUtf8}
use Rattle.mail_codec.specs.Charset.{Charsets, four_charsets}
use Rattle.mail_codec.specs.Places.{first_place, has_prefix}
use Rattle.mail_codec.proofs.lemmas.Places.{first_place-past}
use Rattle.mailparse.specs.Header.{Header, ends_header, is_line_end}
use Rattle.mailparse.specs.Value.{lenient_value_in}
use Rattle.mail_address.specs.Encode.{KnowUtf8, encoded_word, is_plain_byte, is_plain_value, word_lines, words_of, written_value}
use Rattle.mail_laws.specs.Render.{is_key, shown_header, written_bytes, written_headers}
use Rattle.mail_address.proofs.lemmas.EncodeRead.{AreTexts, text_words, word_plain, written_reads}
use Rattle.mail_laws.proofs.lemmas.RenderHeaders.{IsValue, AreValues, first_place-over, last_feed, plain_is_value, plain_passed, value_passed}

-- ---- the lines of encoded words

-- the first word, the line end with its space, and the other words, before a rest
words_before : (w v : List ℕ) (ws : List (List ℕ)) (rest : List ℕ)
    → word_lines (w ∷ v ∷ ws) ++ rest ≡ encoded_word w ++ 13 ∷ 10 ∷ 32 ∷ (word_lines (v ∷ ws) ++ rest)
words_before w v ws rest = append_assoc (encoded_word w) (13 ∷ 10 ∷ 32 ∷ word_lines (v ∷ ws)) rest

words_length : (w v : List ℕ) (ws : List (List ℕ)) → length (word_lines (w ∷ v ∷ ws)) ≡ length (encoded_word w) + (3 + length (word_lines (v ∷ ws)))
words_length w v ws = let e = length-append (encoded_word w) (13 ∷ 10 ∷ 32 ∷ word_lines (v ∷ ws)) in e ∙ omega arith

-- a search that stops at no byte of a word and at no line end between words passes them
words_passed : (test : List ℕ → Bool) → ((b : ℕ) (bs : List ℕ) → is_plain_byte b ≡ true → test (b ∷ bs) ≡ false)
    → ((more : List ℕ) → (test (13 ∷ 10 ∷ 32 ∷ more) ≡ false) × (test (10 ∷ 32 ∷ more) ≡ false)) → (ws : List (List ℕ)) → AreTexts ws → (rest : List ℕ)
    → first_place test (word_lines ws ++ rest) ≡ length (word_lines ws) + first_place test rest
words_passed test passes between [] h rest = omega arith
words_passed test passes between (w ∷ []) h rest = first_place-over test is_plain_byte passes (encoded_word w) rest (word_plain w h.0)
words_passed test passes between (w ∷ v ∷ ws) h rest =
    let more = word_lines (v ∷ ws) ++ rest in
    let first = ap (first_place test) (words_before w v ws rest) ∙ first_place-over test is_plain_byte passes (encoded_word w) (13 ∷ 10 ∷ 32 ∷ more) (word_plain w h.0) in
    let return = first_place-past test 13 (10 ∷ 32 ∷ more) (between more).0 in
    let feed = first_place-past test 10 (32 ∷ more) (between more).1 in
    let space = first_place-past test 32 more (passes 32 more refl) in
    let others = words_passed test passes between (v ∷ ws) h.1 rest in
    let size = words_length w v ws in
    omega arith

words_no_space : (ws : List (List ℕ)) → has_prefix (codes " ") (word_lines ws) ≡ false
words_no_space [] = refl
words_no_space (w ∷ []) = refl
words_no_space (w ∷ v ∷ ws) = refl

words_are_value : (ws : List (List ℕ)) → AreTexts ws → IsValue (word_lines ws)
words_are_value ws h =
    let whole : first_place (list_all is_line_end) (word_lines ws ++ 13 ∷ []) ≡ length (word_lines ws) + 0 =
    words_passed (list_all is_line_end) value_passed (λ more. (refl, refl)) ws h (13 ∷ []) in
    record {
      no_space = words_no_space ws;
      ends = λ rest no_blank. words_passed ends_header plain_passed (λ more. (refl, refl)) ws h (13 ∷ 10 ∷ rest) ∙ ap (λ n. length (word_lines ws) + n) (last_feed rest no_blank);
      whole = whole ∙ omega arith;
    }

-- ---- any value

text_is_value : (text : List ℕ) → IsUtf8 text → IsValue (written_value text)
unfolding written_value
text_is_value text utf8 =
    cond_both (is_plain_value text) _ _ IsValue (plain_is_value text) (λ e. words_are_value (words_of (chars text)) (text_words text utf8))

-- UTF-8 is written as a text
written_text : (value : List ℕ) → is_utf8 value ≡ true → written_bytes value ≡ written_value value
written_text value utf8 = cond-true _ (written_value value) value utf8

pub text_written : (value text : List ℕ) → text ≡ value → IsUtf8 value → written_value text ≡ written_bytes value
text_written value text same utf8 = ap written_value same ∙ sym (written_text value (is_utf8-from_IsUtf8 value utf8))

-- and other bytes as they are
pub bytes_written : (value : List ℕ) → (IsUtf8 value → ⊥) → value ≡ written_bytes value
bytes_written value other = sym (cond-false _ (written_value value) value (false_from_ne_true _ (λ e. other (IsUtf8-from_is_utf8 value e))))

pub written_are_values : (headers : List Header) → list_all (λ h. is_utf8 h.value) headers ≡ true → AreValues (written_headers headers)
written_are_values [] texts = tt
written_are_values (h ∷ headers) texts =
    let both = and_parts (is_utf8 h.value) (list_all (λ x. is_utf8 x.value) headers) texts in (
      subst IsValue (sym (written_text h.value both.0)) (text_is_value h.value (IsUtf8-from_is_utf8 h.value both.0)),
      written_are_values headers both.1,
    )

-- their keys stay
pub written_keys : (headers : List Header) → list_all (λ h. is_key h.key) headers ≡ true → list_all (λ h. is_key h.key) (written_headers headers) ≡ true
written_keys [] keys = refl
written_keys (h ∷ headers) keys =
    let both = and_parts (is_key h.key) (list_all (λ x. is_key x.key) headers) keys in
    ap (λ t. t && list_all (λ x. is_key x.key) (written_headers headers)) both.0 ∙ written_keys headers both.1

-- the values of headers show their texts
abbrev pub AreShown : Charsets → List Header → Type 0
AreShown known [] = Unit {0}
AreShown known (h ∷ headers) = (lenient_value_in known (written_bytes h.value) ≡ h.value) × AreShown known headers

-- charsets that know UTF-8, or that meet plain values alone, do so for a part of the values
pub known_first : {Known : Type 0} (a b : Bool) → Known ⊎ (a && b ≡ true) → Known ⊎ (a ≡ true)
known_first a b (inl knows) = inl knows
known_first a b (inr plain) = inr (and_parts a b plain).0

pub known_others : {Known : Type 0} (a b : Bool) → Known ⊎ (a && b ≡ true) → Known ⊎ (b ≡ true)
known_others a b (inl knows) = inl knows
known_others a b (inr plain) = inr (and_parts a b plain).1

pub written_are_shown : (known : Charsets) (headers : List Header) → KnowUtf8 known ⊎ (list_all (λ h. is_plain_value h.value) headers ≡ true)
    → list_all (λ h. is_utf8 h.value) headers ≡ true → AreShown known headers
written_are_shown known [] able texts = tt
written_are_shown known (h ∷ headers) able texts =
    let both = and_parts (is_utf8 h.value) (list_all (λ x. is_utf8 x.value) headers) texts in
    let plain = is_plain_value h.value in
    let others = list_all (λ x. is_plain_value x.value) headers in (
      ap (lenient_value_in known) (written_text h.value both.0)
          ∙ written_reads known h.value (known_first plain others able) (IsUtf8-from_is_utf8 h.value both.0),
      written_are_shown known headers (known_others plain others able) both.1,
    )

-- headers that show their texts are determined by their written form
pub headers_again : (known : Charsets) (headers : List Header) → AreShown known headers → map (shown_header known) (written_headers headers) ≡ headers
headers_again known [] shown = refl
headers_again known (h ∷ headers) shown =
    ap (λ (v : List ℕ). with_value v ∷ map (shown_header known) (written_headers headers)) shown.0
    ∙ ap (λ hs. h ∷ hs) (headers_again known headers shown.1)
  where
    with_value : List ℕ → Header
    with_value v = record { key = h.key; value = v }

-- so headers that are written alike are the same
pub same_headers : (one two : List Header) → list_all (λ h. is_utf8 h.value) one ≡ true → list_all (λ h. is_utf8 h.value) two ≡ true
    → written_headers one ≡ written_headers two → one ≡ two
same_headers one two texts others same =
    sym (headers_again four_charsets one (written_are_shown four_charsets one (inl refl) texts))
    ∙ ap (map (shown_header four_charsets)) same
    ∙ headers_again four_charsets two (written_are_shown four_charsets two (inl refl) others)
