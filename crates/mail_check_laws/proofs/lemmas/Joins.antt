-- No padded word in Base64 is before a piece that begins as it does exactly if the value is of the grammar of strict messages.
use Rattle.std.proofs.Common.{◌≡◌, ◌∙◌, ◌+◌, ◌-◌, ℕ, suc, Bool, true, false, cond, List, [], ◌∷◌, ◌++◌, length, drop, take, refl, sym, ap, subst, inl, inr, arith, append_assoc, length-append, take-append-drop}
use Rattle.std.specs.Prelude.{◌↔◌, ◌&&◌, ◌==◌, nat_eq, is_some, codes}
use Rattle.std.specs.Cmp.Lexicographic.{pointwise}
use Rattle.std.specs.List.{ends_with, list_all}
use Rattle.std.specs.Str.{str_eq_ignore_ascii_case, str_to_ascii_lowercase}
use Rattle.std.proofs.lemmas.Bool.{eqb-true}
use Rattle.std.proofs.lemmas.Bool.{and_from, and_left, and_parts, and_right, cases_Bool, or_from, or_parts}
use Rattle.std.proofs.lemmas.Slice.Eq.{bytes_eq-Decides}
use Rattle.mail_codec.specs.Ascii.{equals_sign, question_mark}
use Rattle.mail_codec.specs.Places.{begins, byte_place, first_place}
use Rattle.mail_codec.proofs.lemmas.Places.{first_place-past}
use Rattle.mail_check.specs.Bodies.{is_letter}
use Rattle.mail_check.specs.Words.{after_charset, begins_as, has_join, is_in_base64, is_label_byte, is_padded, is_word, joins, later_piece, pieces, word_head}
use Rattle.mail_grammar.specs.Words.{IsEncodedText, in_base64, in_q, IsWord, IsPaddedWord, IsApart, AreApart, no_more_pieces, empty_piece, apart_piece, HasApartWords}
use Rattle.mail_check.proofs.lemmas.Booleans.{second_false}
use Rattle.mail_check_laws.proofs.lemmas.Headers.{past_name}
use Rattle.mail_check_laws.proofs.lemmas.Words.{are_pieces, of_word, pieces_are, word_of}
use Rattle.mail_grammar.proofs.lemmas.Boundaries.{all_head, all_tail, eq_flip}

abbrev pub closing : List ℕ
closing = codes "?="

abbrev is_equals : ℕ → Bool
is_equals b = b == equals_sign

-- ---- the parts of a word

-- a word with this charset, and this after the question mark
abbrev pub word : List ℕ → List ℕ → List ℕ
word charset rest = equals_sign ∷ (question_mark ∷ (charset ++ (question_mark ∷ rest)))

-- an encoding, a question mark and a text
abbrev pub encoded : ℕ → List ℕ → List ℕ
encoded b text = b ∷ (question_mark ∷ text)

-- a text in Base64 with padding
abbrev padded : ℕ → List ℕ → List ℕ → List ℕ
padded letter letters padding = (letter ∷ letters) ++ (equals_sign ∷ padding)

label_apart : (b : ℕ) → is_label_byte b ≡ true → (b == question_mark) ≡ false
label_apart b h = elim (cases_Bool (b == question_mark)) [
  | inr e ↦ e
  | inl e ↦
      let yes : is_label_byte question_mark ≡ true = subst (λ (x : ℕ). is_label_byte x ≡ true) (eqb-true b question_mark e) h in
      absurd (cc)
]

pub label_at : (charset rest : List ℕ) → list_all is_label_byte charset ≡ true
    → first_place (begins (λ b. b == question_mark)) (charset ++ (question_mark ∷ rest)) ≡ length charset
label_at [] rest all = refl
label_at (b ∷ charset) rest all =
    first_place-past (begins (λ c. c == question_mark)) b (charset ++ (question_mark ∷ rest))
    (label_apart b (all_head is_label_byte b charset all))
    ∙ ap suc (label_at charset rest (all_tail is_label_byte b charset all))

-- what follows the charset
after_opened : (n : ℕ) (bytes : List ℕ) → drop (n + 2) (equals_sign ∷ (question_mark ∷ bytes)) ≡ drop n bytes
after_opened n bytes =
    ap (λ (m : ℕ). drop m (equals_sign ∷ (question_mark ∷ bytes))) {x = n + 2} {y = suc (suc n)} (omega arith)

pub after_at : (charset rest : List ℕ) → list_all is_label_byte charset ≡ true
    → after_charset (word charset rest) ≡ question_mark ∷ rest
after_at charset rest all =
    ap (λ (n : ℕ). drop (n + 2) (word charset rest)) (label_at charset rest all)
    ∙ after_opened (length charset) (charset ++ (question_mark ∷ rest)) ∙ past_name charset (question_mark ∷ rest)

-- the front up to the text
front_opened : (n : ℕ) (bytes : List ℕ)
    → take (n + 5) (equals_sign ∷ (question_mark ∷ bytes)) ≡ equals_sign ∷ (question_mark ∷ take (n + 3) bytes)
front_opened n bytes =
    ap (λ (m : ℕ). take m (equals_sign ∷ (question_mark ∷ bytes))) {x = n + 5} {y = suc (suc (n + 3))} (omega arith)

front_taken : (charset : List ℕ) (x y z : ℕ) (rest : List ℕ)
    → take (length charset + 3) (charset ++ (x ∷ (y ∷ (z ∷ rest)))) ≡ charset ++ (x ∷ (y ∷ (z ∷ [])))
front_taken [] x y z rest = refl
front_taken (b ∷ charset) x y z rest =
    ap (λ (m : ℕ). take m ((b ∷ charset) ++ (x ∷ (y ∷ (z ∷ rest)))))
    {x = suc (length charset) + 3} {y = suc (length charset + 3)} (omega arith)
    ∙ ap (λ (xs : List ℕ). b ∷ xs) (front_taken charset x y z rest)

head_at : (charset : List ℕ) (b : ℕ) (rest : List ℕ) → list_all is_label_byte charset ≡ true
    → word_head (word charset (b ∷ (question_mark ∷ rest))) ≡ word charset (encoded b [])
head_at charset b rest all =
    ap (λ (n : ℕ). take (n + 5) (word charset (b ∷ (question_mark ∷ rest)))) (label_at charset (b ∷ (question_mark ∷ rest)) all)
    ∙ front_opened (length charset) (charset ++ (question_mark ∷ (b ∷ (question_mark ∷ rest))))
    ∙ ap (λ (xs : List ℕ). equals_sign ∷ (question_mark ∷ xs)) (front_taken charset question_mark b question_mark rest)

-- the encodings
abbrev pub OpensBase64 : Bool → List ℕ → ℕ → Type 0
OpensBase64 t rest b = str_eq_ignore_ascii_case (take 3 (question_mark ∷ (b ∷ (question_mark ∷ rest)))) (codes "?B?") ≡ t

pub base64_at : (b : ℕ) (rest : List ℕ) → is_some (byte_place (codes "Bb") b) ≡ true
    → str_eq_ignore_ascii_case (take 3 (question_mark ∷ (b ∷ (question_mark ∷ rest)))) (codes "?B?") ≡ true
base64_at b rest h = elim (cases_Bool (66 == b)) [
  | inl e ↦ subst (OpensBase64 true rest) (eqb-true 66 b e) refl
  | inr e ↦ elim (cases_Bool (98 == b)) [
    | inl f ↦ subst (OpensBase64 true rest) (eqb-true 98 b f) refl
    | inr f ↦ let no = rw (e, f) at h in absurd (cc)
  ]
]

pub q_at : (b : ℕ) (rest : List ℕ) → is_some (byte_place (codes "Qq") b) ≡ true
    → str_eq_ignore_ascii_case (take 3 (question_mark ∷ (b ∷ (question_mark ∷ rest)))) (codes "?B?") ≡ false
q_at b rest h = elim (cases_Bool (81 == b)) [
  | inl e ↦ subst (OpensBase64 false rest) (eqb-true 81 b e) refl
  | inr e ↦ elim (cases_Bool (113 == b)) [
    | inl f ↦ subst (OpensBase64 false rest) (eqb-true 113 b f) refl
    | inr f ↦ let no = rw (e, f) at h in absurd (cc)
  ]
]

-- the last bytes of a word
ends_at : (before : List ℕ) (c : ℕ) → ends_with nat_eq (before ++ (c ∷ closing)) (codes "=?=") ≡ (c == equals_sign)
ends_at before c =
    ap (λ (n : ℕ). pointwise nat_eq (codes "=?=") (drop n (before ++ (c ∷ closing)))) low
    ∙ ap (pointwise nat_eq (codes "=?=")) (past_name before (c ∷ closing)) ∙ by_test (equals_sign == c) ∙ eq_flip equals_sign c
  where
    low : length (before ++ (c ∷ closing)) - 3 ≡ length before
    low = let all = length-append before (c ∷ closing) in omega (arith, all)

    by_test : (t : Bool) → (t && true) ≡ t
    by_test true = refl
    by_test false = refl

-- bytes that pass a test, with the last of them apart
record LastOf (test : ℕ → Bool) (bytes : List ℕ) : Type 0 where
  before : List ℕ
  last : ℕ
  is : test last ≡ true
  made : bytes ≡ before ++ (last ∷ [])

last_of : (test : ℕ → Bool) (b : ℕ) (bytes : List ℕ) → list_all test (b ∷ bytes) ≡ true → LastOf test (b ∷ bytes)
last_of test b [] all = record { before = []; last = b; is = all_head test b [] all; made = refl }
last_of test b (c ∷ bytes) all =
    let more = last_of test c bytes (all_tail test b (c ∷ bytes) all) in
    record { before = b ∷ more.before; last = more.last; is = more.is; made = ap (λ (xs : List ℕ). b ∷ xs) more.made }

ends_last : (test : ℕ → Bool) (front bytes : List ℕ) (t : Bool) → ((c : ℕ) → test c ≡ true → (c == equals_sign) ≡ t)
    → LastOf test bytes
    → ends_with nat_eq (front ++ (bytes ++ closing)) (codes "=?=") ≡ t
ends_last test front bytes t same h =
    ap (λ (xs : List ℕ). ends_with nat_eq (front ++ (xs ++ closing)) (codes "=?=")) h.made
    ∙ ap (λ (xs : List ℕ). ends_with nat_eq (front ++ xs) (codes "=?=")) (append_assoc h.before (h.last ∷ []) closing)
    ∙ ap (λ (xs : List ℕ). ends_with nat_eq xs (codes "=?=")) (sym (append_assoc front h.before (h.last ∷ closing)))
    ∙ ends_at (front ++ h.before) h.last ∙ same h.last h.is

letter_apart : (b : ℕ) → is_letter b ≡ true → (b == equals_sign) ≡ false
letter_apart b h = elim (cases_Bool (b == equals_sign)) [
  | inr e ↦ e
  | inl e ↦
      let yes : is_letter equals_sign ≡ true = subst (λ (x : ℕ). is_letter x ≡ true) (eqb-true b equals_sign e) h in
      absurd (cc)
]

-- ---- padded words

head_of : (charset : List ℕ) (b : ℕ) (text : List ℕ)
    → word charset (encoded b text ++ closing) ≡ word charset (encoded b []) ++ (text ++ closing)
head_of charset b text =
    ap (λ (xs : List ℕ). equals_sign ∷ (question_mark ∷ xs))
    (sym (append_assoc charset (question_mark ∷ (encoded b [])) (text ++ closing)))

module _ (bytes : List ℕ) (is : IsWord bytes) where
  made_with : (b : ℕ) (text : List ℕ) → is.text ≡ encoded b text
      → bytes ≡ word (is.first ∷ is.others) (encoded b text ++ closing)
  made_with b text made = is.made ∙ ap (λ (xs : List ℕ). word (is.first ∷ is.others) (xs ++ closing)) made

  padded_word : is_in_base64 bytes ≡ true → ends_with nat_eq bytes (codes "=?=") ≡ true → IsEncodedText is.text
      → IsPaddedWord (word_head bytes) bytes
  padded_word base64 ends (in_q {b = b} {text = text} e some q made) =
      let no : is_in_base64 bytes ≡ false =
      ap is_in_base64 (made_with b text made)
      ∙ ap (λ (xs : List ℕ). str_eq_ignore_ascii_case (take 3 xs) (codes "?B?"))
      (after_at (is.first ∷ is.others) (encoded b text ++ closing) is.characters)
      ∙ q_at b (text ++ closing) e in
      absurd (cc)
  padded_word base64 ends (in_base64 {b = b} {first = letter} letters [] e all pads made) =
      let no : ends_with nat_eq bytes (codes "=?=") ≡ false =
      ap (λ (xs : List ℕ). ends_with nat_eq xs (codes "=?="))
      (made_with b ((letter ∷ letters) ++ []) made ∙ head_of (is.first ∷ is.others) b ((letter ∷ letters) ++ [])
      ∙ ap (λ (xs : List ℕ). word (is.first ∷ is.others) (encoded b []) ++ xs) (append_assoc (letter ∷ letters) [] closing))
      ∙ ends_last is_letter (word (is.first ∷ is.others) (encoded b [])) (letter ∷ letters) false letter_apart
      (last_of is_letter letter letters all) in
      absurd (cc)
  padded_word base64 ends (in_base64 {b = b} {first = letter} letters (pad ∷ padding) e all pads made) =
      let text = (letter ∷ letters) ++ (pad ∷ padding) in
      let front = word (is.first ∷ is.others) (encoded b []) in
      let whole = made_with b text made in
      let head = ap word_head whole ∙ head_at (is.first ∷ is.others) b (text ++ closing) is.characters in
      record {
        first = is.first;
        others = is.others;
        encoding = b;
        letter = letter;
        letters = letters;
        padding = padding;
        characters = is.characters;
        is_base64 = e;
        are_letters = all;
        is_padding = all_tail is_equals pad padding pads;
        short = is.short;
        front = head;
        made =
            whole ∙ head_of (is.first ∷ is.others) b text
            ∙ ap (λ (x : ℕ). front ++ (((letter ∷ letters) ++ (x ∷ padding)) ++ closing))
            (eqb-true pad equals_sign (all_head is_equals pad padding pads))
            ∙ ap (λ (xs : List ℕ). xs ++ (padded letter letters padding ++ closing)) (sym head);
      }

padded_of : (bytes : List ℕ) → is_padded bytes ≡ true → IsPaddedWord (word_head bytes) bytes
padded_of bytes h =
    let one = and_parts (is_word bytes) _ h in
    let two = and_parts (is_in_base64 bytes) (ends_with nat_eq bytes (codes "=?=")) one.1 in
    let is = word_of bytes one.0 in
    padded_word bytes is two.0 two.1 is.encoded

module _ (head bytes : List ℕ) (is : IsPaddedWord head bytes) where
  abbrev charset : List ℕ
  charset = is.first ∷ is.others

  abbrev text : List ℕ
  text = padded is.letter is.letters is.padding

  whole : bytes ≡ word charset (encoded is.encoding text ++ closing)
  whole = is.made ∙ ap (λ (xs : List ℕ). xs ++ (text ++ closing)) is.front ∙ sym (head_of charset is.encoding text)

  pads : list_all is_equals (equals_sign ∷ is.padding) ≡ true
  pads = and_from (equals_sign == equals_sign) _ refl is.is_padding

  padded_is : is_padded bytes ≡ true
  padded_is =
      and_from (is_word bytes) _ (of_word bytes (record {
        first = is.first;
        others = is.others;
        text = encoded is.encoding text;
        characters = is.characters;
        encoded = in_base64 is.letters (equals_sign ∷ is.padding) is.is_base64 is.are_letters pads refl;
        short = is.short;
        made = whole;
      }))
      (and_from (is_in_base64 bytes) (ends_with nat_eq bytes (codes "=?="))
      (ap is_in_base64 whole
      ∙ ap (λ (xs : List ℕ). str_eq_ignore_ascii_case (take 3 xs) (codes "?B?"))
      (after_at charset (encoded is.encoding text ++ closing) is.characters)
      ∙ base64_at is.encoding (text ++ closing) is.is_base64)
      (ap (λ (xs : List ℕ). ends_with nat_eq xs (codes "=?="))
      (is.made ∙ ap (λ (xs : List ℕ). head ++ xs) (append_assoc (is.letter ∷ is.letters) (equals_sign ∷ is.padding) closing)
      ∙ sym (append_assoc head (is.letter ∷ is.letters) ((equals_sign ∷ is.padding) ++ closing)))
      ∙ ends_last is_equals (head ++ (is.letter ∷ is.letters)) (equals_sign ∷ is.padding) true (λ c e. e)
      (last_of is_equals equals_sign is.padding pads)))

  head_is : word_head bytes ≡ head
  head_is = ap word_head whole ∙ head_at charset is.encoding (text ++ closing) is.characters ∙ sym is.front

-- ---- pieces

same_length : (xs ys : List ℕ) → str_eq_ignore_ascii_case xs ys ≡ true → length xs ≡ length ys
same_length xs ys h =
    sym (lowered xs)
    ∙ ap length ((bytes_eq-Decides (str_to_ascii_lowercase xs) (str_to_ascii_lowercase ys)).0 h)
    ∙ lowered ys
  where
    lowered : (zs : List ℕ) → length (str_to_ascii_lowercase zs) ≡ length zs
    lowered [] = refl
    lowered (z ∷ zs) = ap suc (lowered zs)

pub taken : (xs rest : List ℕ) (n : ℕ) → length xs ≡ n → take n (xs ++ rest) ≡ xs
taken xs rest n e = ap (λ (m : ℕ). take m (xs ++ rest)) (sym e) ∙ front xs rest
  where
    front : (xs rest : List ℕ) → take (length xs) (xs ++ rest) ≡ xs
    front [] rest = refl
    front (x ∷ xs) rest = ap (λ (ys : List ℕ). x ∷ ys) (front xs rest)

apart_of : (before piece : List ℕ) → joins before piece ≡ false → IsApart before piece
apart_of before piece h head same rest is made =
    let no = second_false (is_padded before) (begins_as (word_head before) piece) (padded_is head before is) h in
    elim (cases_Bool (str_eq_ignore_ascii_case same head)) [
      | inr e ↦ e
      | inl e ↦
          let yes : begins_as (word_head before) piece ≡ true =
          ap (λ (xs : List ℕ). begins_as xs piece) (head_is head before is)
          ∙ ap (λ (xs : List ℕ). str_eq_ignore_ascii_case (take (length head) xs) head) made
          ∙ ap (λ (xs : List ℕ). str_eq_ignore_ascii_case xs head) (taken same rest (length head) (same_length same head e))
          ∙ e in
          absurd (cc)
    ]

of_apart : (before piece : List ℕ) → IsApart before piece → joins before piece ≡ false
of_apart before piece h = elim (cases_Bool (is_padded before)) [
  | inr e ↦ and_left (is_padded before) (begins_as (word_head before) piece) e
  | inl e ↦
      let n = length (word_head before) in
      and_right (is_padded before) (begins_as (word_head before) piece)
      (h (word_head before) (take n piece) (drop n piece) (padded_of before e) (sym (take-append-drop n piece)))
]

-- before an empty piece
empty_apart : (before : List ℕ) → joins before [] ≡ false
empty_apart before = elim (cases_Bool (is_padded before)) [
  | inr e ↦ and_left (is_padded before) (begins_as (word_head before) []) e
  | inl e ↦
      let is = padded_of before e in
      and_right (is_padded before) (begins_as (word_head before) [])
      (ap (λ (head : List ℕ). begins_as head []) is.front)
]

pub apart_all : (before : List ℕ) (found : List (List ℕ)) → has_join before found ≡ false → AreApart before found
apart_all before [] h = no_more_pieces
apart_all before ([] ∷ found) h =
    empty_piece (apart_all before found (or_parts (joins before []) (has_join before found) h).1)
apart_all before ((b ∷ piece) ∷ found) h =
    let both = or_parts (joins before (b ∷ piece)) (has_join (b ∷ piece) found) h in
    apart_piece refl (apart_of before (b ∷ piece) both.0) (apart_all (b ∷ piece) found both.1)

pub all_apart : (before : List ℕ) (found : List (List ℕ)) → AreApart before found → has_join before found ≡ false
all_apart before found no_more_pieces = refl
all_apart before found (empty_piece {found = others} more) =
    or_from (joins before []) (has_join before others) (empty_apart before) (all_apart before others more)
all_apart before found (apart_piece {piece = piece} {found = others} some apart more) =
    or_from (joins before piece) (has_join (later_piece before piece) others) (of_apart before piece apart)
    (ap (λ (t : Bool). has_join (cond t before piece) others) some ∙ all_apart piece others more)

-- ---- values

pub joins_strict : (value : List ℕ) → (has_join [] (pieces value) ≡ false) ↔ HasApartWords value
joins_strict value = (
  λ h. record { found = pieces value; are = pieces_are value; apart = apart_all [] (pieces value) h },
  λ h. ap (has_join []) (are_pieces value h.found h.are) ∙ all_apart [] h.found h.apart,
)
