-- The encoded words of a value have the syntax that all programs know exactly if they are of the grammar of strict messages.
use Rattle.std.proofs.Common.{◌≡◌, ◌∙◌, ℕ, Bool, true, false, not, cond, List, [], ◌∷◌, ◌++◌, length, refl, sym, ap, subst, inl, inr, append_assoc}
use Rattle.std.specs.Prelude.{◌↔◌, ◌&&◌, ◌||◌, ◌==◌, nat_lt, is_some, codes}
use Rattle.std.specs.List.{AllByRecursion, list_all, list_any, onto_first}
use Rattle.std.proofs.lemmas.Bool.{eqb-true}
use Rattle.std.proofs.lemmas.Bool.{and_from, and_left, and_parts, and_right, cases_Bool, not-false, not-true, not_from_false, or_from, or_parts}
use Rattle.mail_codec.specs.Ascii.{equals_sign, question_mark}
use Rattle.mail_codec.specs.Places.{begins, byte_place, has_prefix, is_empty, place}
use Rattle.mail_check.specs.Bodies.{is_letter}
use Rattle.mail_check.specs.Bytes.{is_escape_digit}
use Rattle.mail_check.specs.Lines.{is_visible}
use Rattle.mail_check.specs.Words.{after_label, after_word_byte, after_word_bytes, has_word_delimiter, in_q, is_bad_piece, is_closed, is_gap, is_label_byte, is_word, pieces}
use Rattle.mail_check.specs.declared.words.WordState.{WordState}
use Rattle.mail_check.specs.declared.words.WordState.TheVariants.{Front, Equals, Opened, Charset, Encoding, Base64Mark, Base64Start, Base64, Padding, QMark, QStart, Q, Escape, Digit, Closing, Closed, Wrong}
use Rattle.mail_grammar.specs.Words.{IsQText, q_end, q_character, q_escape, IsEncodedText, in_base64, in_q as of_q, IsWord, HasNoPair, no_pair, not_first, first_alone}
use Rattle.mail_grammar.specs.Words.{IsStrictPiece, is_piece_byte, ArePieces, one_piece, piece_and_more, HasStrictWords}
use Rattle.mail_check.proofs.lemmas.Booleans.{second_false}
use Rattle.mail_check.proofs.lemmas.Searched.{place_next}
use Rattle.mail_check_laws.proofs.lemmas.Headers.{two_prefix}
use Rattle.mail_grammar.proofs.lemmas.Boundaries.{all_head, all_tail}

abbrev closing : List ℕ
closing = codes "?="

abbrev is_equals : ℕ → Bool
is_equals b = b == equals_sign

-- ---- what is so of the bytes after a state from which they lead to the end

-- equals signs, and the end of the word
record PaddingThen (bytes : List ℕ) : Type 0 where
  padding : List ℕ
  all : list_all is_equals padding ≡ true
  made : bytes ≡ padding ++ closing

-- letters, and these
record LettersThen (bytes : List ℕ) : Type 0 where
  letters : List ℕ
  padding : List ℕ
  all : list_all is_letter letters ≡ true
  pads : list_all is_equals padding ≡ true
  made : bytes ≡ letters ++ (padding ++ closing)

-- one letter or more, and these
record StartThen (bytes : List ℕ) : Type 0 where
  first : ℕ
  left : List ℕ
  is : is_letter first ≡ true
  next : LettersThen left
  made : bytes ≡ first ∷ left

record MarkThen (bytes : List ℕ) : Type 0 where
  left : List ℕ
  next : StartThen left
  made : bytes ≡ question_mark ∷ left

-- a text in the encoding Q, and the end of the word
record QThen (bytes : List ℕ) : Type 0 where
  text : List ℕ
  is : IsQText text
  made : bytes ≡ text ++ closing

-- the same, and the text is not empty
record QStartThen (bytes : List ℕ) : Type 0 where
  text : List ℕ
  some : is_empty text ≡ false
  is : IsQText text
  made : bytes ≡ text ++ closing

record QMarkThen (bytes : List ℕ) : Type 0 where
  left : List ℕ
  next : QStartThen left
  made : bytes ≡ question_mark ∷ left

-- the last digit of an escape
record DigitThen (bytes : List ℕ) : Type 0 where
  low : ℕ
  left : List ℕ
  is : is_escape_digit low ≡ true
  next : QThen left
  made : bytes ≡ low ∷ left

-- both digits of an escape
record EscapeThen (bytes : List ℕ) : Type 0 where
  high : ℕ
  left : List ℕ
  is : is_escape_digit high ≡ true
  next : DigitThen left
  made : bytes ≡ high ∷ left

-- an encoded text, and the end of the word
record EncodedThen (bytes : List ℕ) : Type 0 where
  text : List ℕ
  is : IsEncodedText text
  made : bytes ≡ text ++ closing

-- the rest of the name of a charset, and these
record CharsetThen (bytes : List ℕ) : Type 0 where
  others : List ℕ
  text : List ℕ
  all : list_all is_label_byte others ≡ true
  is : IsEncodedText text
  made : bytes ≡ others ++ (question_mark ∷ (text ++ closing))

record OpenedThen (bytes : List ℕ) : Type 0 where
  first : ℕ
  left : List ℕ
  is : is_label_byte first ≡ true
  next : CharsetThen left
  made : bytes ≡ first ∷ left

record EqualsThen (bytes : List ℕ) : Type 0 where
  left : List ℕ
  next : OpenedThen left
  made : bytes ≡ question_mark ∷ left

record FrontThen (bytes : List ℕ) : Type 0 where
  left : List ℕ
  next : EqualsThen left
  made : bytes ≡ equals_sign ∷ left

abbrev LeadsOn : WordState → List ℕ → Type 0
LeadsOn Front bytes = FrontThen bytes
LeadsOn Equals bytes = EqualsThen bytes
LeadsOn Opened bytes = OpenedThen bytes
LeadsOn Charset bytes = CharsetThen bytes
LeadsOn Encoding bytes = EncodedThen bytes
LeadsOn Base64Mark bytes = MarkThen bytes
LeadsOn Base64Start bytes = StartThen bytes
LeadsOn Base64 bytes = LettersThen bytes
LeadsOn Padding bytes = PaddingThen bytes
LeadsOn QMark bytes = QMarkThen bytes
LeadsOn QStart bytes = QStartThen bytes
LeadsOn Q bytes = QThen bytes
LeadsOn Escape bytes = EscapeThen bytes
LeadsOn Digit bytes = DigitThen bytes
LeadsOn Closing bytes = bytes ≡ equals_sign ∷ []
LeadsOn Closed bytes = bytes ≡ []
LeadsOn Wrong bytes = ⊥

-- ---- one byte

module _ (b : ℕ) (rest : List ℕ) where
  only : (t : Bool) (so : WordState) → LeadsOn (cond t so Wrong) rest → (t ≡ true) × LeadsOn so rest
  only true so h = (refl, h)
  only false so h = absurd h

  -- by a test that is the first of a state
  choose : (G : Type 0) (t : Bool) (so not_so : WordState) → (t ≡ true → LeadsOn so rest → G)
      → (t ≡ false → LeadsOn not_so rest → G)
      → LeadsOn (cond t so not_so) rest → G
  choose G true so not_so f g h = f refl h
  choose G false so not_so f g h = g refl h

  is_byte : (c : ℕ) → (b == c) ≡ true → b ∷ rest ≡ c ∷ rest
  is_byte c e = ap (λ (y : ℕ). y ∷ rest) (eqb-true b c e)

  ends_here : (b == question_mark) ≡ true → rest ≡ equals_sign ∷ [] → b ∷ rest ≡ closing
  ends_here e h = is_byte question_mark e ∙ ap (λ (xs : List ℕ). question_mark ∷ xs) h

  -- the name of a charset
  charset_step : LeadsOn (after_word_byte Charset b) rest → CharsetThen (b ∷ rest)
  charset_step h =
      choose (CharsetThen (b ∷ rest)) (is_label_byte b) Charset (cond (b == question_mark) Encoding Wrong) longer
      (λ e x. let y = only (b == question_mark) Encoding x in marked y.0 y.1) h
    where
      longer : is_label_byte b ≡ true → CharsetThen rest → CharsetThen (b ∷ rest)
      longer e more = record {
        others = b ∷ more.others;
        text = more.text;
        all = and_from (is_label_byte b) _ e more.all;
        is = more.is;
        made = ap (λ (xs : List ℕ). b ∷ xs) more.made;
      }

      marked : (b == question_mark) ≡ true → EncodedThen rest → CharsetThen (b ∷ rest)
      marked e more = record {
        others = [];
        text = more.text;
        all = refl;
        is = more.is;
        made = is_byte question_mark e ∙ ap (λ (xs : List ℕ). question_mark ∷ xs) more.made;
      }

  -- the encoding
  encoding_step : LeadsOn (after_label b) rest → EncodedThen (b ∷ rest)
  encoding_step h =
      choose (EncodedThen (b ∷ rest)) (is_some (byte_place (codes "Bb") b)) Base64Mark
      (cond (is_some (byte_place (codes "Qq") b)) QMark Wrong) base64
      (λ e x. let y = only (is_some (byte_place (codes "Qq") b)) QMark x in q y.0 y.1) h
    where
      base64 : is_some (byte_place (codes "Bb") b) ≡ true → MarkThen rest → EncodedThen (b ∷ rest)
      base64 e mark =
          let start = mark.next in
          let more = start.next in
          record {
            text = b ∷ (question_mark ∷ ((start.first ∷ more.letters) ++ more.padding));
            is = in_base64 more.letters more.padding e (and_from (is_letter start.first) _ start.is more.all) more.pads refl;
            made =
                ap (λ (xs : List ℕ). b ∷ xs) (mark.made ∙ ap (λ (xs : List ℕ). question_mark ∷ xs) (start.made
                ∙ ap (λ (xs : List ℕ). start.first ∷ xs) (more.made ∙ sym (append_assoc more.letters more.padding closing))));
          }

      q : is_some (byte_place (codes "Qq") b) ≡ true → QMarkThen rest → EncodedThen (b ∷ rest)
      q e mark =
          let start = mark.next in
          record {
            text = b ∷ (question_mark ∷ start.text);
            is = of_q e start.some start.is refl;
            made =
                ap (λ (xs : List ℕ). b ∷ xs) (mark.made ∙ ap (λ (xs : List ℕ). question_mark ∷ xs) start.made);
          }

  -- a text in Base64
  padding_step : LeadsOn (after_word_byte Padding b) rest → PaddingThen (b ∷ rest)
  padding_step h =
      choose (PaddingThen (b ∷ rest)) (b == equals_sign) Padding (cond (b == question_mark) Closing Wrong)
      (λ e x. record {
        padding = b ∷ x.padding;
        all = and_from (b == equals_sign) _ e x.all;
        made = ap (λ (xs : List ℕ). b ∷ xs) x.made;
      })
      (λ e x. let y = only (b == question_mark) Closing x in record { padding = []; all = refl; made = ends_here y.0 y.1 }) h

  letters_step : LeadsOn (after_word_byte Base64 b) rest → LettersThen (b ∷ rest)
  letters_step h =
      choose (LettersThen (b ∷ rest)) (is_letter b) Base64
      (cond (b == equals_sign) Padding (cond (b == question_mark) Closing Wrong))
      (λ e x. record {
        letters = b ∷ x.letters;
        padding = x.padding;
        all = and_from (is_letter b) _ e x.all;
        pads = x.pads;
        made = ap (λ (xs : List ℕ). b ∷ xs) x.made;
      })
      (λ e x.
      let more : PaddingThen (b ∷ rest) = padding_step x in
      record { letters = []; padding = more.padding; all = refl; pads = more.all; made = more.made }) h

  -- a text in the encoding Q
  q_start : LeadsOn (in_q b) rest → QStartThen (b ∷ rest)
  q_start h =
      choose (QStartThen (b ∷ rest)) (b == equals_sign) Escape (cond (b == question_mark) Wrong (cond (is_visible b) Q Wrong))
      escape
      (λ e x. choose (QStartThen (b ∷ rest)) (b == question_mark) Wrong (cond (is_visible b) Q Wrong) (λ f y. absurd y)
      (λ f y. let z = only (is_visible b) Q y in plain e f z.0 z.1) x) h
    where
      escape : (b == equals_sign) ≡ true → EscapeThen rest → QStartThen (b ∷ rest)
      escape e x =
          let digit = x.next in
          let more = digit.next in
          record {
            text = b ∷ (x.high ∷ (digit.low ∷ more.text));
            some = refl;
            is =
                q_escape x.is digit.is more.is
                (ap (λ (y : ℕ). y ∷ (x.high ∷ (digit.low ∷ more.text))) (eqb-true b equals_sign e));
            made =
                ap (λ (xs : List ℕ). b ∷ xs) (x.made ∙ ap (λ (xs : List ℕ). x.high ∷ xs) (digit.made
                ∙ ap (λ (xs : List ℕ). digit.low ∷ xs) more.made));
          }

      plain : (b == equals_sign) ≡ false → (b == question_mark) ≡ false → is_visible b ≡ true → QThen rest → QStartThen (b ∷ rest)
      plain e f g more = record {
        text = b ∷ more.text;
        some = refl;
        is = q_character e f g more.is;
        made = ap (λ (xs : List ℕ). b ∷ xs) more.made;
      }

  q_step : LeadsOn (after_word_byte Q b) rest → QThen (b ∷ rest)
  q_step h =
      choose (QThen (b ∷ rest)) (b == question_mark) Closing (in_q b)
      (λ e x. record { text = []; is = q_end; made = ends_here e x })
      (λ e x. let more : QStartThen (b ∷ rest) = q_start x in record { text = more.text; is = more.is; made = more.made }) h

step : (state : WordState) (b : ℕ) (rest : List ℕ) → LeadsOn (after_word_byte state b) rest → LeadsOn state (b ∷ rest)
step Front b rest h =
    let x = only b rest (b == equals_sign) Equals h in record { left = rest; next = x.1; made = is_byte b rest equals_sign x.0 }
step Equals b rest h =
    let x = only b rest (b == question_mark) Opened h in
    record { left = rest; next = x.1; made = is_byte b rest question_mark x.0 }
step Opened b rest h =
    let x = only b rest (is_label_byte b) Charset h in record { first = b; left = rest; is = x.0; next = x.1; made = refl }
step Charset b rest h = charset_step b rest h
step Encoding b rest h = encoding_step b rest h
step Base64Mark b rest h =
    let x = only b rest (b == question_mark) Base64Start h in
    record { left = rest; next = x.1; made = is_byte b rest question_mark x.0 }
step Base64Start b rest h =
    let x = only b rest (is_letter b) Base64 h in record { first = b; left = rest; is = x.0; next = x.1; made = refl }
step Base64 b rest h = letters_step b rest h
step Padding b rest h = padding_step b rest h
step QMark b rest h =
    let x = only b rest (b == question_mark) QStart h in
    record { left = rest; next = x.1; made = is_byte b rest question_mark x.0 }
step QStart b rest h = q_start b rest h
step Q b rest h = q_step b rest h
step Escape b rest h =
    let x = only b rest (is_escape_digit b) Digit h in record { high = b; left = rest; is = x.0; next = x.1; made = refl }
step Digit b rest h =
    let x = only b rest (is_escape_digit b) Q h in record { low = b; left = rest; is = x.0; next = x.1; made = refl }
step Closing b rest h =
    let x = only b rest (b == equals_sign) Closed h in is_byte b rest equals_sign x.0 ∙ ap (λ (xs : List ℕ). equals_sign ∷ xs) x.1
step Closed b rest h = absurd h
step Wrong b rest h = h

leads_on : (state : WordState) (bytes : List ℕ) → is_closed (after_word_bytes state bytes) ≡ true → LeadsOn state bytes
leads_on state (b ∷ rest) h = step state b rest (leads_on (after_word_byte state b) rest h)
leads_on Closed [] h = refl
leads_on Front [] h = absurd (cc)
leads_on Equals [] h = absurd (cc)
leads_on Opened [] h = absurd (cc)
leads_on Charset [] h = absurd (cc)
leads_on Encoding [] h = absurd (cc)
leads_on Base64Mark [] h = absurd (cc)
leads_on Base64Start [] h = absurd (cc)
leads_on Base64 [] h = absurd (cc)
leads_on Padding [] h = absurd (cc)
leads_on QMark [] h = absurd (cc)
leads_on QStart [] h = absurd (cc)
leads_on Q [] h = absurd (cc)
leads_on Escape [] h = absurd (cc)
leads_on Digit [] h = absurd (cc)
leads_on Closing [] h = absurd (cc)
leads_on Wrong [] h = absurd (cc)

pub word_of : (piece : List ℕ) → is_word piece ≡ true → IsWord piece
unfolding is_word
word_of piece h =
    let both = and_parts (nat_lt (length piece) 76) (is_closed (after_word_bytes Front piece)) h in
    let front : FrontThen piece = leads_on Front piece both.1 in
    let opened = front.next.next in
    let charset = opened.next in
    record {
      first = opened.first;
      others = charset.others;
      text = charset.text;
      characters = and_from (is_label_byte opened.first) _ opened.is charset.all;
      encoded = charset.is;
      short = both.0;
      made =
          front.made ∙ ap (λ (xs : List ℕ). equals_sign ∷ xs) (front.next.made ∙ ap (λ (xs : List ℕ). question_mark ∷ xs)
          (opened.made ∙ ap (λ (xs : List ℕ). opened.first ∷ xs) charset.made));
    }

-- ---- and back

pass : (t : Bool) (so not_so : WordState) → t ≡ true → cond t so not_so ≡ so
pass t so not_so e = ap (λ (s : Bool). cond s so not_so) e

miss : (t : Bool) (so not_so : WordState) → t ≡ false → cond t so not_so ≡ not_so
miss t so not_so e = ap (λ (s : Bool). cond s so not_so) e

-- characters after which the state stays
stays : (test : ℕ → Bool) (state : WordState) → ((b : ℕ) → test b ≡ true → after_word_byte state b ≡ state)
    → (token rest : List ℕ) → list_all test token ≡ true
    → after_word_bytes state (token ++ rest) ≡ after_word_bytes state rest
stays test state keeps [] rest h = refl
stays test state keeps (b ∷ token) rest h =
    ap (λ (s : WordState). after_word_bytes s (token ++ rest)) (keeps b (all_head test b token h))
    ∙ stays test state keeps token rest (all_tail test b token h)

-- a text in Base64
padding_goes : (padding : List ℕ) → list_all is_equals padding ≡ true → after_word_bytes Padding (padding ++ closing) ≡ Closed
padding_goes padding all =
    stays is_equals Padding (λ b e. pass (b == equals_sign) Padding (cond (b == question_mark) Closing Wrong) e)
    padding closing all

letters_end : (padding : List ℕ) → list_all is_equals padding ≡ true → after_word_bytes Base64 (padding ++ closing) ≡ Closed
letters_end [] all = refl
letters_end (b ∷ padding) all =
    ap (λ (x : ℕ). after_word_bytes Base64 (x ∷ (padding ++ closing))) (eqb-true b equals_sign (all_head is_equals b padding all))
    ∙ padding_goes padding (all_tail is_equals b padding all)

base64_goes : (first : ℕ) (letters padding : List ℕ) → list_all is_letter (first ∷ letters) ≡ true
    → list_all is_equals padding ≡ true
    → after_word_bytes Base64Start (((first ∷ letters) ++ padding) ++ closing) ≡ Closed
base64_goes first letters padding all pads =
    ap (λ (s : WordState). after_word_bytes s ((letters ++ padding) ++ closing))
    (pass (is_letter first) Base64 Wrong (all_head is_letter first letters all))
    ∙ ap (after_word_bytes Base64) (append_assoc letters padding closing)
    ∙ stays is_letter Base64
    (λ b e. pass (is_letter b) Base64 (cond (b == equals_sign) Padding (cond (b == question_mark) Closing Wrong)) e)
    letters (padding ++ closing) (all_tail is_letter first letters all)
    ∙ letters_end padding pads

-- a text in the encoding Q
in_q_goes : (b : ℕ) → (b == equals_sign) ≡ false → (b == question_mark) ≡ false → is_visible b ≡ true → in_q b ≡ Q
in_q_goes b e f g =
    miss (b == equals_sign) Escape (cond (b == question_mark) Wrong (cond (is_visible b) Q Wrong)) e
    ∙ miss (b == question_mark) Wrong (cond (is_visible b) Q Wrong) f ∙ pass (is_visible b) Q Wrong g

escape_goes : (high low : ℕ) (rest : List ℕ) → is_escape_digit high ≡ true → is_escape_digit low ≡ true
    → after_word_bytes Escape (high ∷ (low ∷ rest)) ≡ after_word_bytes Q rest
escape_goes high low rest e f =
    ap (λ (s : WordState). after_word_bytes s (low ∷ rest)) (pass (is_escape_digit high) Digit Wrong e)
    ∙ ap (λ (s : WordState). after_word_bytes s rest) (pass (is_escape_digit low) Q Wrong f)

q_goes : (text : List ℕ) → IsQText text → after_word_bytes Q (text ++ closing) ≡ Closed
q_goes text q_end = refl
q_goes text (q_character {b = b} {rest = rest} e f g more) =
    ap (λ (s : WordState). after_word_bytes s (rest ++ closing))
    (miss (b == question_mark) Closing (in_q b) f ∙ in_q_goes b e f g)
    ∙ q_goes rest more
q_goes text (q_escape {high = high} {low = low} {rest = rest} e f more made) =
    ap (λ (xs : List ℕ). after_word_bytes Q (xs ++ closing)) made
    ∙ escape_goes high low (rest ++ closing) e f ∙ q_goes rest more

q_starts : (text : List ℕ) → is_empty text ≡ false → IsQText text → after_word_bytes QStart (text ++ closing) ≡ Closed
q_starts text some q_end = absurd (cc)
q_starts text some (q_character {b = b} {rest = rest} e f g more) =
    ap (λ (s : WordState). after_word_bytes s (rest ++ closing)) (in_q_goes b e f g) ∙ q_goes rest more
q_starts text some (q_escape {high = high} {low = low} {rest = rest} e f more made) =
    ap (λ (xs : List ℕ). after_word_bytes QStart (xs ++ closing)) made
    ∙ escape_goes high low (rest ++ closing) e f ∙ q_goes rest more

-- the encodings
q_no_base64 : (b : ℕ) → is_some (byte_place (codes "Qq") b) ≡ true → is_some (byte_place (codes "Bb") b) ≡ false
q_no_base64 b h = elim (cases_Bool (81 == b)) [
  | inl e ↦ subst (λ (x : ℕ). is_some (byte_place (codes "Bb") x) ≡ false) (eqb-true 81 b e) refl
  | inr e ↦ elim (cases_Bool (113 == b)) [
    | inl f ↦ subst (λ (x : ℕ). is_some (byte_place (codes "Bb") x) ≡ false) (eqb-true 113 b f) refl
    | inr f ↦ let no = rw (e, f) at h in absurd (cc)
  ]
]

encoded_goes : (text : List ℕ) → IsEncodedText text → after_word_bytes Encoding (text ++ closing) ≡ Closed
encoded_goes text (in_base64 {b = b} {first = first} letters padding e all pads made) =
    ap (λ (xs : List ℕ). after_word_bytes Encoding (xs ++ closing)) made
    ∙ ap (λ (s : WordState). after_word_bytes s (question_mark ∷ (((first ∷ letters) ++ padding) ++ closing)))
    (pass (is_some (byte_place (codes "Bb") b)) Base64Mark (cond (is_some (byte_place (codes "Qq") b)) QMark Wrong) e)
    ∙ base64_goes first letters padding all pads
encoded_goes text (of_q {b = b} {text = inner} e some is made) =
    ap (λ (xs : List ℕ). after_word_bytes Encoding (xs ++ closing)) made
    ∙ ap (λ (s : WordState). after_word_bytes s (question_mark ∷ (inner ++ closing)))
    (miss (is_some (byte_place (codes "Bb") b)) Base64Mark (cond (is_some (byte_place (codes "Qq") b)) QMark Wrong)
    (q_no_base64 b e)
    ∙ pass (is_some (byte_place (codes "Qq") b)) QMark Wrong e)
    ∙ q_starts inner some is

pub of_word : (piece : List ℕ) → IsWord piece → is_word piece ≡ true
unfolding is_word
of_word piece is =
    and_from (nat_lt (length piece) 76) (is_closed (after_word_bytes Front piece)) is.short
    (ap (λ (xs : List ℕ). is_closed (after_word_bytes Front xs)) is.made
    ∙ ap is_closed (ap (λ (s : WordState). after_word_bytes s (is.others ++ (question_mark ∷ (is.text ++ closing))))
    (pass (is_label_byte is.first) Charset Wrong (all_head is_label_byte is.first is.others is.characters))
    ∙ stays is_label_byte Charset (λ b e. pass (is_label_byte b) Charset (cond (b == question_mark) Encoding Wrong) e)
    is.others (question_mark ∷ (is.text ++ closing)) (all_tail is_label_byte is.first is.others is.characters)
    ∙ encoded_goes is.text is.encoded))

-- ---- pieces

module _ (first second : ℕ) where
  abbrev has_pair : List ℕ → Bool
  has_pair bytes = is_some (place (has_prefix (first ∷ second ∷ [])) bytes)

  pair_next : (b : ℕ) (rest : List ℕ)
      → has_pair (b ∷ rest) ≡ (((b == first) && begins (λ x. x == second) rest) || has_pair rest)
  pair_next b rest =
      place_next (has_prefix (first ∷ second ∷ [])) b rest
      ∙ ap (λ (t : Bool). t || has_pair rest) (two_prefix first second b rest)

  no_pair_of : (bytes : List ℕ) → has_pair bytes ≡ false → HasNoPair first second bytes
  no_pair_of [] h = no_pair
  no_pair_of (b ∷ rest) h =
      let both = or_parts ((b == first) && begins (λ x. x == second) rest) (has_pair rest) (sym (pair_next b rest) ∙ h) in
      elim (cases_Bool (b == first)) [
        | inl e ↦
            first_alone (second_false (b == first) (begins (λ x. x == second) rest) e both.0) (no_pair_of rest both.1)
            (ap (λ (x : ℕ). x ∷ rest) (eqb-true b first e))
        | inr e ↦ not_first e (no_pair_of rest both.1)
      ]

  of_no_pair : (bytes : List ℕ) → HasNoPair first second bytes → has_pair bytes ≡ false
  of_no_pair bytes no_pair = refl
  of_no_pair bytes (not_first {b = b} {rest = rest} e more) =
      pair_next b rest
      ∙ or_from ((b == first) && begins (λ x. x == second) rest) (has_pair rest)
      (and_left (b == first) (begins (λ x. x == second) rest) e) (of_no_pair rest more)
  of_no_pair bytes (first_alone {rest = rest} e more made) =
      ap has_pair made ∙ pair_next first rest
      ∙ or_from ((first == first) && begins (λ x. x == second) rest) (has_pair rest)
      (and_right (first == first) (begins (λ x. x == second) rest) e) (of_no_pair rest more)

pub piece_strict : (piece : List ℕ) → is_bad_piece piece ≡ false → IsStrictPiece piece
piece_strict piece h = elim (cases_Bool (has_word_delimiter piece)) [
  | inl e ↦ inr (word_of piece (not-false (is_word piece) (second_false (has_word_delimiter piece) (not (is_word piece)) e h)))
  | inr e ↦
      let both = or_parts (has_pair equals_sign question_mark piece) (has_pair question_mark equals_sign piece) e in
      inl (record {
        opening = no_pair_of equals_sign question_mark piece both.0;
        closing = no_pair_of question_mark equals_sign piece both.1;
      })
]

pub strict_piece : (piece : List ℕ) → IsStrictPiece piece → is_bad_piece piece ≡ false
strict_piece piece (inl h) =
    and_left (has_word_delimiter piece) (not (is_word piece))
    (or_from (has_pair equals_sign question_mark piece) (has_pair question_mark equals_sign piece)
    (of_no_pair equals_sign question_mark piece h.opening) (of_no_pair question_mark equals_sign piece h.closing))
strict_piece piece (inr h) = and_right (has_word_delimiter piece) (not (is_word piece)) (ap not (of_word piece h))

-- one more byte of the first piece
onto : (b : ℕ) → is_gap b ≡ false → (value : List ℕ) (found : List (List ℕ)) → ArePieces value found
    → ArePieces (b ∷ value) (onto_first b found)
onto b e value found (one_piece {piece = piece} all) =
    one_piece (and_from (is_piece_byte b) _ (not_from_false (is_gap b) e) all)
onto b e value found (piece_and_more {piece = piece} {rest = rest} c all is more made) =
    piece_and_more c (and_from (is_piece_byte b) _ (not_from_false (is_gap b) e) all) is more (ap (λ (xs : List ℕ). b ∷ xs) made)

or_onto : (b : ℕ) (value : List ℕ) → ArePieces value (pieces value) → (t : Bool) → is_gap b ≡ t
    → ArePieces (b ∷ value) (cond t ([] ∷ pieces value) (onto_first b (pieces value)))
or_onto b value is true e = piece_and_more {piece = []} b refl e is refl
or_onto b value is false e = onto b e value (pieces value) is

pub pieces_are : (value : List ℕ) → ArePieces value (pieces value)
pieces_are [] = one_piece refl
pieces_are (b ∷ value) = or_onto b value (pieces_are value) (is_gap b) refl

-- the pieces of the rest, after the first
past_piece : (piece rest : List ℕ) → list_all is_piece_byte piece ≡ true → (found : List (List ℕ)) → pieces rest ≡ [] ∷ found
    → pieces (piece ++ rest) ≡ piece ∷ found
past_piece [] rest all found h = h
past_piece (b ∷ piece) rest all found h =
    ap (λ (t : Bool). cond t ([] ∷ pieces (piece ++ rest)) (onto_first b (pieces (piece ++ rest))))
    (not-true (is_gap b) (all_head is_piece_byte b piece all))
    ∙ ap (onto_first b) (past_piece piece rest (all_tail is_piece_byte b piece all) found h)

pub are_pieces : (value : List ℕ) (found : List (List ℕ)) → ArePieces value found → pieces value ≡ found
are_pieces value found (one_piece {piece = piece} all) = whole piece all
  where
    whole : (piece : List ℕ) → list_all is_piece_byte piece ≡ true → pieces piece ≡ piece ∷ []
    whole [] all = refl
    whole (b ∷ piece) all =
        ap (λ (t : Bool). cond t ([] ∷ pieces piece) (onto_first b (pieces piece)))
        (not-true (is_gap b) (all_head is_piece_byte b piece all))
        ∙ ap (onto_first b) (whole piece (all_tail is_piece_byte b piece all))
are_pieces value found (piece_and_more {piece = piece} {rest = rest} {found = others} b all is more made) =
    ap pieces made
    ∙ past_piece piece (b ∷ rest) all others
    (ap (λ (t : Bool). cond t ([] ∷ pieces rest) (onto_first b (pieces rest))) is
    ∙ ap (λ (ps : List (List ℕ)). [] ∷ ps) (are_pieces rest others more))

-- each of some pieces
all_strict : (found : List (List ℕ)) → list_any is_bad_piece found ≡ false → AllByRecursion IsStrictPiece found
all_strict [] h = tt
all_strict (piece ∷ found) h =
    let both = or_parts (is_bad_piece piece) (list_any is_bad_piece found) h in
    (piece_strict piece both.0, all_strict found both.1)

strict_all : (found : List (List ℕ)) → AllByRecursion IsStrictPiece found → list_any is_bad_piece found ≡ false
strict_all [] h = refl
strict_all (piece ∷ found) h =
    or_from (is_bad_piece piece) (list_any is_bad_piece found) (strict_piece piece h.0) (strict_all found h.1)

-- ---- values

pub word_strict : (piece : List ℕ) → (is_word piece ≡ true) ↔ IsWord piece
word_strict piece = (word_of piece, of_word piece)

pub words_strict : (value : List ℕ) → (list_any is_bad_piece (pieces value) ≡ false) ↔ HasStrictWords value
words_strict value = (
  λ h. record { found = pieces value; are = pieces_are value; strict = all_strict (pieces value) h },
  λ h. ap (list_any is_bad_piece) (are_pieces value h.found h.are) ∙ strict_all h.found h.strict,
)

-- one word, and those of a value
pub ruleset word_grammar = (word_strict, words_strict)
