-- The bytes of the encoded words of a value are read in one way exactly if they are by the statement of strict messages.
use Rattle.std.proofs.Common.{◌≡◌, ◌∙◌, ◌+◌, ◌-◌, ℕ, suc, Bool, true, false, not, cond, List, [], ◌∷◌, ◌++◌, length, drop, take, refl, sym, ap, subst, inl, inr, arith, append_assoc, length-append}
use Rattle.std.specs.Prelude.{◌↔◌, ◌&&◌, ◌||◌, ◌==◌, nat_eq, is_some, codes}
use Rattle.std.specs.Cmp.Lexicographic.{pointwise}
use Rattle.std.specs.List.{AllByRecursion, list_all, list_any}
use Rattle.std.specs.Str.{str_eq_ignore_ascii_case}
use Rattle.std.proofs.lemmas.Bool.{eqb-true}
use Rattle.std.proofs.lemmas.Bool.{and_left, and_right, cases_Bool, not-false, not_from_true, or_from, or_parts}
use Rattle.mail_codec.specs.Ascii.{equals_sign, question_mark}
use Rattle.mail_codec.specs.Charset.{Charsets, mark_at_start}
use Rattle.mail_codec.specs.Places.{begins, byte_place, is_empty}
use Rattle.mail_check.specs.Charsets.{has_c1_after, is_label_of, is_lacking, utf_8_labels}
use Rattle.mail_check.specs.WordBytes.{are_bad, are_controls, are_marked, has_bad_octets, has_spare_bits, is_ascii_control, is_one_of, label_of}
use Rattle.mail_check.specs.Words.{is_in_base64, is_label_byte, is_word, octets_of, pieces, word_text}
use Rattle.mail_check_laws.specs.WordBytes.{HasNoSpareBits, no_padding, one_sign, two_signs, AreWordBytes, IsReadablePiece, HasReadableWords}
use Rattle.mail_grammar.specs.Words.{IsEncodedText, in_base64, in_q, IsWord}
use Rattle.mail_check.proofs.lemmas.Booleans.{second_false}
use Rattle.mail_check_laws.proofs.lemmas.Charsets.{c1_none, charset_has, in_charset, label_of as one_of_labels, mark_none, none_c1, none_marked, none_passes, of_label, passes_none}
use Rattle.mail_check_laws.proofs.lemmas.Headers.{front}
use Rattle.mail_check_laws.proofs.lemmas.Joins.{after_at, base64_at, closing, encoded, label_at, q_at, word}
use Rattle.mail_check_laws.proofs.lemmas.SenderNames.{are_octets, octets_are, text_at}
use Rattle.mail_check_laws.proofs.lemmas.Words.{are_pieces, of_word, pieces_are, word_of}
use Rattle.mail_grammar.proofs.lemmas.Boundaries.{eq_flip}

-- ---- the last bytes of a text

-- A text by its last bytes. The cases:
data Ending (text : List ℕ) : Type 0 where
  -- it has none
  nothing : text ≡ [] → Ending text
  -- it has only one
  only_one : (c : ℕ) → text ≡ c ∷ [] → Ending text
  -- it has two
  only_two : (d c : ℕ) → text ≡ d ∷ (c ∷ []) → Ending text
  -- it has at least three
  three_last : (before : List ℕ) (e d c : ℕ) → text ≡ before ++ (e ∷ (d ∷ (c ∷ []))) → Ending text

one_before : (b : ℕ) (text : List ℕ) → Ending text → Ending (b ∷ text)
one_before b text (nothing same) = only_one b (ap (λ (xs : List ℕ). b ∷ xs) same)
one_before b text (only_one c same) = only_two b c (ap (λ (xs : List ℕ). b ∷ xs) same)
one_before b text (only_two d c same) = three_last [] b d c (ap (λ (xs : List ℕ). b ∷ xs) same)
one_before b text (three_last before e d c same) = three_last (b ∷ before) e d c (ap (λ (xs : List ℕ). b ∷ xs) same)

ending : (text : List ℕ) → Ending text
ending [] = nothing refl
ending (b ∷ text) = one_before b text (ending text)

-- the last n bytes of a text
abbrev last : ℕ → List ℕ → List ℕ
last n text = drop (length text - n) text

past_front : (before tail : List ℕ) (k : ℕ) → drop (length before + k) (before ++ tail) ≡ drop k tail
past_front [] tail k = ap (λ (m : ℕ). drop m tail) {x = 0 + k} {y = k} (omega arith)
past_front (b ∷ before) tail k =
    ap (λ (m : ℕ). drop m (b ∷ (before ++ tail))) {x = suc (length before) + k} {y = suc (length before + k)} (omega arith)
    ∙ past_front before tail k

last_of : (before tail : List ℕ) (n k : ℕ) → length tail ≡ n + k → last n (before ++ tail) ≡ drop k tail
last_of before tail n k h = ap (λ (m : ℕ). drop m (before ++ tail)) low ∙ past_front before tail k
  where
    low : length (before ++ tail) - n ≡ length before + k
    low = let all = length-append before tail in omega (arith, all, h)

-- ---- bits that make no byte

-- the letters after which padding is without such bits
abbrev of_two : List ℕ
of_two = codes "AEIMQUYcgkosw048"

abbrev of_one : List ℕ
of_one = codes "AQgw"

-- whether there are such bits, by the last three bytes, the last two and the last one
abbrev spare_at : List ℕ → List ℕ → List ℕ → Bool
spare_at three two one =
    cond (pointwise nat_eq (codes "==") two) (not (begins (is_one_of of_one) three))
    (pointwise nat_eq (codes "=") one && not (begins (is_one_of of_two) two))

spare_opened : (text : List ℕ) → has_spare_bits text ≡ spare_at (last 3 text) (last 2 text) (last 1 text)
spare_opened text = refl

spare_three : (before : List ℕ) (e d c : ℕ)
    → has_spare_bits (before ++ (e ∷ (d ∷ (c ∷ [])))) ≡ spare_at (e ∷ (d ∷ (c ∷ []))) (d ∷ (c ∷ [])) (c ∷ [])
spare_three before e d c = λ i.
    spare_at (last_of before (e ∷ (d ∷ (c ∷ []))) 3 0 refl i) (last_of before (e ∷ (d ∷ (c ∷ []))) 2 1 refl i)
    (last_of before (e ∷ (d ∷ (c ∷ []))) 1 2 refl i)

spare_two : (before : List ℕ) (d c : ℕ)
    → has_spare_bits (before ++ (d ∷ (c ∷ []))) ≡ spare_at (last 3 (before ++ (d ∷ (c ∷ [])))) (d ∷ (c ∷ [])) (c ∷ [])
spare_two before d c = λ i.
    spare_at (last 3 (before ++ (d ∷ (c ∷ [])))) (last_of before (d ∷ (c ∷ [])) 2 0 refl i)
    (last_of before (d ∷ (c ∷ [])) 1 1 refl i)

one_of : (some : List ℕ) (b : ℕ) → is_one_of some b ≡ is_some (byte_place some b)
unfolding is_one_of
one_of some b = refl

-- one equals sign at the end
one_letter : (three : List ℕ) (d : ℕ) → (equals_sign == d) ≡ false
    → spare_at three (d ∷ (equals_sign ∷ [])) (equals_sign ∷ []) ≡ false
    → is_some (byte_place of_two d) ≡ true
one_letter three d e h =
    sym (one_of of_two d)
    ∙ not-false (is_one_of of_two d)
    (subst (λ (t : Bool). cond (t && true) (not (begins (is_one_of of_one) three)) (not (is_one_of of_two d)) ≡ false) e h)

letter_one : (three : List ℕ) (d : ℕ) → (equals_sign == d) ≡ false → is_some (byte_place of_two d) ≡ true
    → spare_at three (d ∷ (equals_sign ∷ [])) (equals_sign ∷ []) ≡ false
letter_one three d e h =
    ap (λ (t : Bool). cond (t && true) (not (begins (is_one_of of_one) three)) (not (is_one_of of_two d))) e
    ∙ not_from_true (is_one_of of_two d) (one_of of_two d ∙ h)

-- and two
two_letter : (e : ℕ) → not (is_one_of of_one e) ≡ false → is_some (byte_place of_one e) ≡ true
two_letter e h = sym (one_of of_one e) ∙ not-false (is_one_of of_one e) h

letter_two : (e : ℕ) → is_some (byte_place of_one e) ≡ true → not (is_one_of of_one e) ≡ false
letter_two e h = not_from_true (is_one_of of_one e) (one_of of_one e ∙ h)

-- and none
none_at : (c d : ℕ) (three : List ℕ) → (equals_sign == c) ≡ false → spare_at three (d ∷ (c ∷ [])) (c ∷ []) ≡ false
none_at c d three e =
    ap (λ (t : Bool). cond ((equals_sign == d) && (t && true)) (not (begins (is_one_of of_one) three))
    ((t && true) && not (is_one_of of_two d))) e
    ∙ ap (λ (t : Bool). cond t (not (begins (is_one_of of_one) three)) false) (and_right (equals_sign == d) false refl)

flipped : (c : ℕ) → (equals_sign == c) ≡ false → (c == equals_sign) ≡ false
flipped c e = eq_flip c equals_sign ∙ e

-- a text that is one equals sign, or two
one_alone : spare_at (equals_sign ∷ []) (equals_sign ∷ []) (equals_sign ∷ []) ≡ true
one_alone = ap not (one_of of_two equals_sign)

two_alone : spare_at (codes "==") (codes "==") (codes "=") ≡ true
two_alone = ap not (one_of of_one equals_sign)

no_spare : (text : List ℕ) → is_empty text ≡ false → has_spare_bits text ≡ false → HasNoSpareBits text
no_spare text some h = by_end (ending text)
  where
    by_end : Ending text → HasNoSpareBits text
    by_end (nothing same) = let no = sym some ∙ ap is_empty same in absurd (cc)
    by_end (only_one c same) = elim (cases_Bool (equals_sign == c)) [
      | inr f ↦ no_padding [] c (flipped c f) same
      | inl f ↦
          let alone : text ≡ codes "=" = same ∙ ap (λ (x : ℕ). x ∷ []) (sym (eqb-true equals_sign c f)) in
          let no = sym h ∙ ap has_spare_bits alone ∙ one_alone in
          absurd (cc)
    ]
    by_end (only_two d c same) = elim (cases_Bool (equals_sign == c)) [
      | inr f ↦ no_padding (d ∷ []) c (flipped c f) same
      | inl f ↦
          let one : text ≡ d ∷ codes "=" = same ∙ ap (λ (x : ℕ). d ∷ (x ∷ [])) (sym (eqb-true equals_sign c f)) in
          elim (cases_Bool (equals_sign == d)) [
            | inr g ↦ one_sign [] d (one_letter (d ∷ codes "=") d g (sym (ap has_spare_bits one) ∙ h)) one
            | inl g ↦
                let two : text ≡ codes "==" = one ∙ ap (λ (x : ℕ). x ∷ codes "=") (sym (eqb-true equals_sign d g)) in
                let no = sym h ∙ ap has_spare_bits two ∙ two_alone in
                absurd (cc)
          ]
    ]
    by_end (three_last before e d c same) = elim (cases_Bool (equals_sign == c)) [
      | inr f ↦ no_padding (before ++ (e ∷ (d ∷ []))) c (flipped c f) (same ∙ sym (append_assoc before (e ∷ (d ∷ [])) (c ∷ [])))
      | inl f ↦
          let one : text ≡ before ++ (e ∷ (d ∷ codes "=")) =
          same ∙ ap (λ (x : ℕ). before ++ (e ∷ (d ∷ (x ∷ [])))) (sym (eqb-true equals_sign c f)) in
          elim (cases_Bool (equals_sign == d)) [
            | inr g ↦
                one_sign (before ++ (e ∷ [])) d
                (one_letter (e ∷ (d ∷ codes "=")) d g (sym (spare_three before e d equals_sign) ∙ sym (ap has_spare_bits one) ∙ h))
                (one ∙ sym (append_assoc before (e ∷ []) (d ∷ codes "=")))
            | inl g ↦
                let two : text ≡ before ++ (e ∷ codes "==") =
                one ∙ ap (λ (x : ℕ). before ++ (e ∷ (x ∷ codes "="))) (sym (eqb-true equals_sign d g)) in
                two_signs before e
                (two_letter e (sym (spare_three before e equals_sign equals_sign) ∙ sym (ap has_spare_bits two) ∙ h)) two
          ]
    ]

letter_apart : (b : ℕ) → is_some (byte_place of_two b) ≡ true → (equals_sign == b) ≡ false
letter_apart b h = elim (cases_Bool (equals_sign == b)) [
  | inr e ↦ e
  | inl e ↦
      let yes : is_some (byte_place of_two equals_sign) ≡ true =
      subst (λ (x : ℕ). is_some (byte_place of_two x) ≡ true) (sym (eqb-true equals_sign b e)) h in
      absurd (cc)
]

spare_none : (text : List ℕ) → HasNoSpareBits text → has_spare_bits text ≡ false
spare_none text (no_padding before c e made) = ap has_spare_bits made ∙ by_end (ending before)
  where
    e' : (equals_sign == c) ≡ false
    e' = eq_flip equals_sign c ∙ e

    by_end : Ending before → has_spare_bits (before ++ (c ∷ [])) ≡ false
    by_end (nothing same) =
        ap (λ (xs : List ℕ). has_spare_bits (xs ++ (c ∷ []))) same
        ∙ ap (λ (t : Bool). cond (t && false) (not (begins (is_one_of of_one) (c ∷ []))) ((t && true) && not (is_one_of of_two c)))
        e'
    by_end (only_one d same) =
        ap (λ (xs : List ℕ). has_spare_bits (xs ++ (c ∷ []))) same ∙ none_at c d (d ∷ (c ∷ [])) e'
    by_end (only_two d b same) =
        ap (λ (xs : List ℕ). has_spare_bits (xs ++ (c ∷ []))) same ∙ spare_three [] d b c ∙ none_at c b (d ∷ (b ∷ (c ∷ []))) e'
    by_end (three_last front f d b same) =
        ap (λ (xs : List ℕ). has_spare_bits (xs ++ (c ∷ []))) same
        ∙ ap has_spare_bits (append_assoc front (f ∷ (d ∷ (b ∷ []))) (c ∷ []))
        ∙ ap has_spare_bits (sym (append_assoc front (f ∷ []) (d ∷ (b ∷ (c ∷ [])))))
        ∙ spare_three (front ++ (f ∷ [])) d b c ∙ none_at c b (d ∷ (b ∷ (c ∷ []))) e'
spare_none text (one_sign before c e made) =
    ap has_spare_bits made ∙ spare_two before c equals_sign
    ∙ letter_one (last 3 (before ++ (c ∷ codes "="))) c (letter_apart c e) e
spare_none text (two_signs before c e made) =
    ap has_spare_bits made ∙ spare_three before c equals_sign equals_sign ∙ letter_two c e

-- ---- the bytes of a word

-- a text after its encoding is not empty
not_empty : (encoding : List ℕ) → IsEncodedText encoding → is_empty (drop 2 encoding) ≡ false
not_empty encoding (in_base64 letters padding e all pads made) = ap (λ (xs : List ℕ). is_empty (drop 2 xs)) made
not_empty encoding (in_q e some is made) = ap (λ (xs : List ℕ). is_empty (drop 2 xs)) made ∙ some

module _ (known : Charsets) where
  good_bytes : (label encoding octets : List ℕ)
      → ((b : ℕ) (text : List ℕ) → is_some (byte_place (codes "Bb") b) ≡ true → encoding ≡ b ∷ (question_mark ∷ text)
      → HasNoSpareBits text)
      → are_bad known label octets ≡ false
      → AreWordBytes known label encoding octets
  good_bytes label encoding octets bits h =
      let some = or_parts (is_empty octets) _ h in
      let marks = or_parts (are_marked octets) _ some.1 in
      let marked = or_parts (is_some (mark_at_start octets)) (list_any is_ascii_control octets) marks.0 in
      let controls = or_parts (are_controls label octets) (is_lacking known label octets) marks.1 in
      record {
        bits = bits;
        some = some.0;
        mark = mark_none octets marked.0;
        controls = none_passes is_ascii_control octets marked.1;
        c1 = λ is.
            c1_none octets (second_false (is_label_of label utf_8_labels) (has_c1_after 0 octets)
            (of_label label utf_8_labels is) controls.0);
        charset = in_charset known label octets controls.1;
      }

  bytes_good : (label encoding octets : List ℕ) → AreWordBytes known label encoding octets → are_bad known label octets ≡ false
  bytes_good label encoding octets h =
      or_from (is_empty octets) _ h.some (or_from (are_marked octets) _
      (or_from (is_some (mark_at_start octets)) (list_any is_ascii_control octets) (none_marked octets h.mark)
      (passes_none is_ascii_control octets h.controls))
      (or_from (are_controls label octets) (is_lacking known label octets) by_label (charset_has known label octets h.charset)))
    where
      by_label : are_controls label octets ≡ false
      by_label = elim (cases_Bool (is_label_of label utf_8_labels)) [
        | inl e ↦
            and_right (is_label_of label utf_8_labels) (has_c1_after 0 octets)
            (none_c1 octets (h.c1 (one_of_labels label utf_8_labels e)))
        | inr e ↦ and_left (is_label_of label utf_8_labels) (has_c1_after 0 octets) e
      ]

-- ---- the parts of a word

label_at_front : (charset rest : List ℕ) → list_all is_label_byte charset ≡ true → label_of (word charset rest) ≡ charset
label_at_front charset rest all =
    ap (λ (n : ℕ). take n (charset ++ (question_mark ∷ rest))) (label_at charset rest all) ∙ front charset (question_mark ∷ rest)

module _ (piece : List ℕ) (is : IsWord piece) where
  abbrev charset : List ℕ
  charset = is.first ∷ is.others

  label_is : label_of piece ≡ charset
  label_is = ap label_of is.made ∙ label_at_front charset (is.text ++ closing) is.characters

  module _ (b : ℕ) (text : List ℕ) (made : is.text ≡ b ∷ (question_mark ∷ text)) where
    piece_is : piece ≡ word charset (encoded b text ++ closing)
    piece_is = is.made ∙ ap (λ (xs : List ℕ). word charset (xs ++ closing)) made

    text_is : word_text piece ≡ text
    text_is = ap word_text piece_is ∙ text_at charset b text is.characters

    encoding_is : is_in_base64 piece ≡ str_eq_ignore_ascii_case (take 3 (question_mark ∷ (encoded b text ++ closing))) (codes "?B?")
    encoding_is =
        ap is_in_base64 piece_is
        ∙ ap (λ (xs : List ℕ). str_eq_ignore_ascii_case (take 3 xs) (codes "?B?"))
        (after_at charset (encoded b text ++ closing) is.characters)

-- ---- pieces

module _ (known : Charsets) (piece : List ℕ) where
  abbrev spare : Bool
  spare = is_in_base64 piece && has_spare_bits (word_text piece)

  abbrev bad : Bool
  bad = are_bad known (label_of piece) (octets_of piece)

  good_piece : has_bad_octets known piece ≡ false → IsReadablePiece known piece
  good_piece h is octets are =
      good_bytes known (is.first ∷ is.others) is.text octets bits
      ((λ i. are_bad known (sym (label_is piece is) i) (sym (octets_are piece is octets are) i)) ∙ both.1)
    where
      both : (spare ≡ false) × (bad ≡ false)
      both = or_parts spare bad (second_false (is_word piece) (spare || bad) (of_word piece is) h)

      bits : (b : ℕ) (text : List ℕ) → is_some (byte_place (codes "Bb") b) ≡ true → is.text ≡ b ∷ (question_mark ∷ text)
          → HasNoSpareBits text
      bits b text e made =
          no_spare text (sym (ap (λ (xs : List ℕ). is_empty (drop 2 xs)) made) ∙ not_empty is.text is.encoded)
          (sym (ap has_spare_bits (text_is piece is b text made))
          ∙ second_false (is_in_base64 piece) (has_spare_bits (word_text piece))
          (encoding_is piece is b text made ∙ base64_at b (text ++ closing) e) both.0)

  piece_good : IsReadablePiece known piece → has_bad_octets known piece ≡ false
  piece_good h = elim (cases_Bool (is_word piece)) [
    | inr e ↦ and_left (is_word piece) (spare || bad) e
    | inl e ↦ and_right (is_word piece) (spare || bad) (word_good (word_of piece e))
  ]
    where
      word_good : IsWord piece → (spare || bad) ≡ false
      word_good is =
          or_from spare bad (by_text is.encoded)
          ((λ i. are_bad known (label_is piece is i) (octets_of piece))
          ∙ bytes_good known (is.first ∷ is.others) is.text (octets_of piece) bytes)
        where
          bytes : AreWordBytes known (is.first ∷ is.others) is.text (octets_of piece)
          bytes = h is (octets_of piece) (are_octets piece is)

          by_text : IsEncodedText is.text → spare ≡ false
          by_text (in_base64 {b = b} {first = first} letters padding e all pads made) =
              and_right (is_in_base64 piece) (has_spare_bits (word_text piece))
              (ap has_spare_bits (text_is piece is b ((first ∷ letters) ++ padding) made)
              ∙ spare_none ((first ∷ letters) ++ padding) (bytes.bits b ((first ∷ letters) ++ padding) e made))
          by_text (in_q {b = b} {text = text} e some q made) =
              and_left (is_in_base64 piece) (has_spare_bits (word_text piece))
              (encoding_is piece is b text made ∙ q_at b (text ++ closing) e)

-- ---- values

module _ (known : Charsets) where
  all_good : (found : List (List ℕ)) → list_any (has_bad_octets known) found ≡ false
      → AllByRecursion (IsReadablePiece known) found
  all_good [] h = tt
  all_good (piece ∷ found) h =
      let both = or_parts (has_bad_octets known piece) (list_any (has_bad_octets known) found) h in
      (good_piece known piece both.0, all_good found both.1)

  good_all : (found : List (List ℕ)) → AllByRecursion (IsReadablePiece known) found
      → list_any (has_bad_octets known) found ≡ false
  good_all [] h = refl
  good_all (piece ∷ found) h =
      or_from (has_bad_octets known piece) (list_any (has_bad_octets known) found) (piece_good known piece h.0) (good_all found h.1)

  pub word_bytes_strict : (value : List ℕ) → (list_any (has_bad_octets known) (pieces value) ≡ false) ↔ HasReadableWords known value
  word_bytes_strict value = (
    λ h. record { found = pieces value; are = pieces_are value; readable = all_good (pieces value) h },
    λ h. ap (list_any (has_bad_octets known)) (are_pieces value h.found h.are) ∙ good_all h.found h.readable,
  )
