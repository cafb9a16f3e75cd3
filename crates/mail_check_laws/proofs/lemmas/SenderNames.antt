-- The names of senders can not be read as addresses exactly if they are of the grammar of strict messages.
use Rattle.std.proofs.Common.{◌≡◌, ◌∙◌, ◌-◌, ℕ, suc, Bool, true, false, not, cond, List, [], ◌∷◌, ◌++◌, length, drop, take, refl, sym, ap, inl, inr, arith, length-append}
use Rattle.std.specs.Prelude.{◌↔◌, ◌&&◌, ◌||◌, ◌==◌, nat_lt, Some, None, is_some, codes}
use Rattle.std.specs.List.{AllByRecursion, list_all, list_any}
use Rattle.std.specs.Result.{result_ok}
use Rattle.std.specs.Str.{str_eq_ignore_ascii_case}
use Rattle.std.proofs.lemmas.Bool.{eqb-true, lt-ltb}
use Rattle.std.proofs.lemmas.Bool.{and_from, and_left, and_parts, and_right, cases_Bool, not-true, not_from_false, or_from, or_parts}
use Rattle.mail_codec.specs.Ascii.{less_than}
use Rattle.mail_codec.specs.Base64.{base64}
use Rattle.mail_codec.specs.Places.{begins, byte_place, first_place}
use Rattle.mail_codec.specs.QuotedPrintable.{quoted_printable}
use Rattle.mail_read.specs.lenient.Values.{spaced}
use Rattle.mail_check.specs.Lines.{HeaderLine, is_named}
use Rattle.mail_check.specs.Senders.{at_sign}
use Rattle.mail_check.specs.Words.{has_early_at, hides_address, is_bad_name, is_before_bracket, is_label_byte, is_sender, is_sender_mark, is_word, octets_of, octets_or_none, pieces, word_text}
use Rattle.mail_check_laws.specs.SenderNames.{is_name_character, HasNoEarlyAt, no_at_sign, before_at_sign, the_at_sign, AreOctets, octets_in_base64, octets_in_q, HidesNothing, HasPlainNames}
use Rattle.mail_grammar.specs.Words.{IsEncodedText, in_base64, in_q, IsWord}
use Rattle.mail_check.proofs.lemmas.Booleans.{second_false}
use Rattle.mail_check.proofs.lemmas.Searched.{below, place_next}
use Rattle.mail_check_laws.proofs.lemmas.Joins.{after_at, base64_at, closing, encoded, q_at, taken, word}
use Rattle.mail_check_laws.proofs.lemmas.Words.{are_pieces, of_word, pieces_are, word_of}

-- ---- at signs

-- no byte of a list is this one
none_found : (c : ℕ) (bytes : List ℕ) → is_some (byte_place bytes c) ≡ false → list_all (λ b. not (b == c)) bytes ≡ true
none_found c [] h = refl
none_found c (b ∷ rest) h =
    let both = or_parts (b == c) (is_some (byte_place rest c)) (sym (place_next (begins (λ x. x == c)) b rest) ∙ h) in
    and_from (not (b == c)) _ (not_from_false (b == c) both.0) (none_found c rest both.1)

found_none : (c : ℕ) (bytes : List ℕ) → list_all (λ b. not (b == c)) bytes ≡ true → is_some (byte_place bytes c) ≡ false
found_none c [] h = refl
found_none c (b ∷ rest) h =
    let both = and_parts (not (b == c)) (list_all (λ x. not (x == c)) rest) h in
    place_next (begins (λ x. x == c)) b rest
    ∙ or_from (b == c) (is_some (byte_place rest c)) (not-true (b == c) both.0) (found_none c rest both.1)

-- the first at sign
early_here : (rest : List ℕ) → has_early_at (at_sign ∷ rest) ≡ is_some (byte_place rest less_than)
early_here rest =
    ap (λ (t : Bool). is_before_bracket (at_sign ∷ rest) (cond t (Some 0) None)) (lt-ltb 0 (suc (length rest)) (omega arith))
    ∙ place_next (begins (λ x. x == less_than)) at_sign rest

-- a byte before it
early_past : (b : ℕ) (rest : List ℕ) → (b == at_sign) ≡ false → has_early_at (b ∷ rest) ≡ has_early_at rest
early_past b rest e =
    ap (λ (t : Bool). is_before_bracket (b ∷ rest) (cond (nat_lt (cond t 0 (suc p)) (suc (length rest)))
    (Some (cond t 0 (suc p))) None)) e
    ∙ ap (λ (t : Bool). is_before_bracket (b ∷ rest) (cond t (Some (suc p)) None)) (below p (length rest))
    ∙ later (nat_lt p (length rest))
  where
    p : ℕ
    p = first_place (begins (λ x. x == at_sign)) rest

    later : (t : Bool) → is_before_bracket (b ∷ rest) (cond t (Some (suc p)) None) ≡ is_before_bracket rest (cond t (Some p) None)
    later true = refl
    later false = refl

early_none : (value : List ℕ) → has_early_at value ≡ false → HasNoEarlyAt value
early_none [] h = no_at_sign
early_none (b ∷ rest) h = elim (cases_Bool (b == at_sign)) [
  | inl e ↦
      let same = eqb-true b at_sign e in
      the_at_sign rest
      (none_found less_than rest (sym (early_here rest) ∙ ap (λ (x : ℕ). has_early_at (x ∷ rest)) (sym same) ∙ h))
      (ap (λ (x : ℕ). x ∷ rest) same)
  | inr e ↦ before_at_sign e (early_none rest (sym (early_past b rest e) ∙ h))
]

none_early : (value : List ℕ) → HasNoEarlyAt value → has_early_at value ≡ false
none_early value no_at_sign = refl
none_early value (before_at_sign {b = b} {rest = rest} e more) = early_past b rest e ∙ none_early rest more
none_early value (the_at_sign rest all made) = ap has_early_at made ∙ early_here rest ∙ found_none less_than rest all

-- ---- the bytes of words

-- the encoded text of a word
pub text_at : (charset : List ℕ) (b : ℕ) (text : List ℕ) → list_all is_label_byte charset ≡ true
    → word_text (word charset (encoded b text ++ closing)) ≡ text
text_at charset b text all =
    ap (λ (xs : List ℕ). take (length (drop 3 xs) - 2) (drop 3 xs)) (after_at charset (encoded b text ++ closing) all)
    ∙ ap (λ (n : ℕ). take n (text ++ closing)) low ∙ taken text closing (length text) refl
  where
    low : length (text ++ closing) - 2 ≡ length text
    low = let all = length-append text closing in omega (arith, all)

base64_octets : (charset : List ℕ) (b : ℕ) (text : List ℕ) → list_all is_label_byte charset ≡ true
    → is_some (byte_place (codes "Bb") b) ≡ true
    → octets_of (word charset (encoded b text ++ closing)) ≡ octets_or_none (result_ok (base64 text))
base64_octets charset b text all e =
    let text_of = word_text (word charset (encoded b text ++ closing)) in
    ap (λ (t : Bool). cond t (octets_or_none (result_ok (base64 text_of))) (quoted_printable (spaced text_of ++ codes "=")))
    (ap (λ (xs : List ℕ). str_eq_ignore_ascii_case (take 3 xs) (codes "?B?"))
    (after_at charset (encoded b text ++ closing) all)
    ∙ base64_at b (text ++ closing) e)
    ∙ ap (λ (xs : List ℕ). octets_or_none (result_ok (base64 xs))) (text_at charset b text all)

q_octets : (charset : List ℕ) (b : ℕ) (text : List ℕ) → list_all is_label_byte charset ≡ true
    → is_some (byte_place (codes "Qq") b) ≡ true
    → octets_of (word charset (encoded b text ++ closing)) ≡ quoted_printable (spaced text ++ codes "=")
q_octets charset b text all e =
    let text_of = word_text (word charset (encoded b text ++ closing)) in
    ap (λ (t : Bool). cond t (octets_or_none (result_ok (base64 text_of))) (quoted_printable (spaced text_of ++ codes "=")))
    (ap (λ (xs : List ℕ). str_eq_ignore_ascii_case (take 3 xs) (codes "?B?"))
    (after_at charset (encoded b text ++ closing) all)
    ∙ q_at b (text ++ closing) e)
    ∙ ap (λ (xs : List ℕ). quoted_printable (spaced xs ++ codes "=")) (text_at charset b text all)

pub octets_are : (piece : List ℕ) (is : IsWord piece) (octets : List ℕ) → AreOctets is.text octets → octets_of piece ≡ octets
octets_are piece is octets (octets_in_base64 {b = b} text e same made) =
    ap octets_of (is.made ∙ ap (λ (xs : List ℕ). word (is.first ∷ is.others) (xs ++ closing)) made)
    ∙ base64_octets (is.first ∷ is.others) b text is.characters e ∙ sym same
octets_are piece is octets (octets_in_q {b = b} text e same made) =
    ap octets_of (is.made ∙ ap (λ (xs : List ℕ). word (is.first ∷ is.others) (xs ++ closing)) made)
    ∙ q_octets (is.first ∷ is.others) b text is.characters e ∙ sym same

pub are_octets : (piece : List ℕ) (is : IsWord piece) → AreOctets is.text (octets_of piece)
are_octets piece is = by_text is.encoded
  where
    by_text : IsEncodedText is.text → AreOctets is.text (octets_of piece)
    by_text (in_base64 {b = b} {first = first} letters padding e all pads made) =
        octets_in_base64 ((first ∷ letters) ++ padding) e
        (ap octets_of (is.made ∙ ap (λ (xs : List ℕ). word (is.first ∷ is.others) (xs ++ closing)) made)
        ∙ base64_octets (is.first ∷ is.others) b ((first ∷ letters) ++ padding) is.characters e)
        made
    by_text (in_q {b = b} {text = text} e some q made) =
        octets_in_q text e
        (ap octets_of (is.made ∙ ap (λ (xs : List ℕ). word (is.first ∷ is.others) (xs ++ closing)) made)
        ∙ q_octets (is.first ∷ is.others) b text is.characters e)
        made

-- no separator of senders is among some bytes
none_marked : (bytes : List ℕ) → list_any is_sender_mark bytes ≡ false → list_all is_name_character bytes ≡ true
none_marked [] h = refl
none_marked (b ∷ rest) h =
    let both = or_parts (is_sender_mark b) (list_any is_sender_mark rest) h in
    and_from (is_name_character b) _ (not_from_false (is_sender_mark b) both.0) (none_marked rest both.1)

marked_none : (bytes : List ℕ) → list_all is_name_character bytes ≡ true → list_any is_sender_mark bytes ≡ false
marked_none [] h = refl
marked_none (b ∷ rest) h =
    let both = and_parts (is_name_character b) (list_all is_name_character rest) h in
    or_from (is_sender_mark b) (list_any is_sender_mark rest) (not-true (is_sender_mark b) both.0) (marked_none rest both.1)

hidden_none : (piece : List ℕ) → hides_address piece ≡ false → HidesNothing piece
hidden_none piece h is octets are =
    none_marked octets
    (ap (list_any is_sender_mark) (sym (octets_are piece is octets are))
    ∙ second_false (is_word piece) (list_any is_sender_mark (octets_of piece)) (of_word piece is) h)

none_hidden : (piece : List ℕ) → HidesNothing piece → hides_address piece ≡ false
none_hidden piece h = elim (cases_Bool (is_word piece)) [
  | inr e ↦ and_left (is_word piece) (list_any is_sender_mark (octets_of piece)) e
  | inl e ↦
      let is = word_of piece e in
      and_right (is_word piece) (list_any is_sender_mark (octets_of piece))
      (marked_none (octets_of piece) (h is (octets_of piece) (are_octets piece is)))
]

all_hide_nothing : (found : List (List ℕ)) → list_any hides_address found ≡ false → AllByRecursion HidesNothing found
all_hide_nothing [] h = tt
all_hide_nothing (piece ∷ found) h =
    let both = or_parts (hides_address piece) (list_any hides_address found) h in
    (hidden_none piece both.0, all_hide_nothing found both.1)

nothing_hides : (found : List (List ℕ)) → AllByRecursion HidesNothing found → list_any hides_address found ≡ false
nothing_hides [] h = refl
nothing_hides (piece ∷ found) h =
    or_from (hides_address piece) (list_any hides_address found) (none_hidden piece h.0) (nothing_hides found h.1)

-- ---- headers

module _ (line : HeaderLine) where
  abbrev hidden : Bool
  hidden = list_any hides_address (pieces line.value)

  abbrev of_from : Bool
  of_from = is_named (codes "From") line && has_early_at line.value

  names_plain : is_bad_name line (pieces line.value) ≡ false → HasPlainNames line.key line.value
  names_plain h = record {
    early = λ e.
        early_none line.value (second_false (is_named (codes "From") line) (has_early_at line.value) e
        (or_parts of_from hidden (second_false (is_sender line) (of_from || hidden) (sender e) h)).0);
    words = λ e. record {
      found = pieces line.value;
      are = pieces_are line.value;
      plain =
          all_hide_nothing (pieces line.value) (or_parts of_from hidden (second_false (is_sender line) (of_from || hidden) e h)).1;
    };
  }
    where
      sender : is_named (codes "From") line ≡ true → is_sender line ≡ true
      sender e = ap (λ (t : Bool). t || is_named (codes "Sender") line) e

  plain_names : HasPlainNames line.key line.value → is_bad_name line (pieces line.value) ≡ false
  plain_names h = elim (cases_Bool (is_sender line)) [
    | inr e ↦ and_left (is_sender line) (of_from || hidden) e
    | inl e ↦
        let words = h.words e in
        and_right (is_sender line) (of_from || hidden) (or_from of_from hidden by_from
        (ap (list_any hides_address) (are_pieces line.value words.found words.are) ∙ nothing_hides words.found words.plain))
  ]
    where
      by_from : of_from ≡ false
      by_from = elim (cases_Bool (is_named (codes "From") line)) [
        | inr e ↦ and_left (is_named (codes "From") line) (has_early_at line.value) e
        | inl e ↦ and_right (is_named (codes "From") line) (has_early_at line.value) (none_early line.value (h.early e))
      ]

  pub names_strict : (is_bad_name line (pieces line.value) ≡ false) ↔ HasPlainNames line.key line.value
  names_strict = (names_plain, plain_names)
