-- Encoded words in the subjects and senders of strict messages (RFC 2047, section 2). A grammar of bytes, which says nothing of
-- how words are searched.
use Rattle.std.specs.Prelude.{◌≡◌, ◌⊎◌, ℕ, Bool, true, false, not, ◌&&◌, ◌||◌, ◌==◌, nat_lt, List, [], ◌∷◌, ◌++◌, length, is_some, codes}
use Rattle.std.specs.Char.{is_ascii_alphanumeric}
use Rattle.std.specs.List.{AllByRecursion, list_all}
use Rattle.std.specs.Str.{str_eq_ignore_ascii_case}
use Rattle.mail_codec.specs.Ascii.{carriage_return, equals_sign, is_blank, line_feed, question_mark, space, tilde}
use Rattle.mail_codec.specs.Places.{begins, byte_place, is_empty}
use Rattle.mail_grammar.specs.Bodies.{is_base64_letter, is_upper_digit}

-- ---- characters

-- a character of the name of a charset (RFC 2047, section 2, without the asterisk of RFC 2231)
abbrev pub is_charset_character : ℕ → Bool
is_charset_character b = is_ascii_alphanumeric b || is_some (byte_place (codes "!#$%&'+-^_`{|}~") b)

-- a printable character of ASCII, but no space
abbrev pub is_visible_character : ℕ → Bool
is_visible_character b = nat_lt space b && not (nat_lt tilde b)

-- a blank or a byte of a line end
abbrev pub is_separator : ℕ → Bool
is_separator b = is_blank b || (b == line_feed || b == carriage_return)

-- a byte of a piece
abbrev pub is_piece_byte : ℕ → Bool
is_piece_byte b = not (is_separator b)

-- ---- words

-- A text in the encoding Q. The cases:
pub data IsQText : List ℕ → Type 0 where
  -- its end
  q_end : IsQText []
  -- a visible character that is neither an equals sign nor a question mark
  q_character : {b : ℕ} {rest : List ℕ} → (b == equals_sign) ≡ false → (b == question_mark) ≡ false
      → is_visible_character b ≡ true → IsQText rest
      → IsQText (b ∷ rest)
  -- an equals sign and two digits
  q_escape : {high low : ℕ} {rest bytes : List ℕ} → is_upper_digit high ≡ true → is_upper_digit low ≡ true → IsQText rest
      → bytes ≡ equals_sign ∷ (high ∷ (low ∷ rest)) → IsQText bytes

-- an encoding, a question mark, and a text. The cases:
pub data IsEncodedText : List ℕ → Type 0 where
  -- letters of Base64, and then equals signs or none
  in_base64 : {b first : ℕ} {bytes : List ℕ} (letters padding : List ℕ) → is_some (byte_place (codes "Bb") b) ≡ true
      → list_all is_base64_letter (first ∷ letters) ≡ true → list_all (λ c. c == equals_sign) padding ≡ true
      → bytes ≡ b ∷ (question_mark ∷ ((first ∷ letters) ++ padding)) → IsEncodedText bytes
  -- a text in the encoding Q that is not empty
  in_q : {b : ℕ} {text bytes : List ℕ} → is_some (byte_place (codes "Qq") b) ≡ true → is_empty text ≡ false → IsQText text
      → bytes ≡ b ∷ (question_mark ∷ text) → IsEncodedText bytes

-- an encoded word of at most 75 bytes: `=?`, the name of a charset, a question mark, an encoded text, and `?=`
pub record IsWord (bytes : List ℕ) : Type 0 where
  pub first : ℕ
  pub others : List ℕ
  pub text : List ℕ
  pub characters : list_all is_charset_character (first ∷ others) ≡ true
  pub encoded : IsEncodedText text
  pub short : nat_lt (length bytes) 76 ≡ true
  pub made : bytes ≡ equals_sign ∷ (question_mark ∷ ((first ∷ others) ++ (question_mark ∷ (text ++ codes "?="))))

-- ---- pieces

-- Nowhere does the second of two bytes follow the first. The cases:
pub data HasNoPair (first second : ℕ) : List ℕ → Type 0 where
  -- no more bytes
  no_pair : HasNoPair first second []
  -- another byte than the first
  not_first : {b : ℕ} {rest : List ℕ} → (b == first) ≡ false → HasNoPair first second rest → HasNoPair first second (b ∷ rest)
  -- the first, and then the end or another byte than the second
  first_alone : {rest bytes : List ℕ} → begins (λ b. b == second) rest ≡ false → HasNoPair first second rest
      → bytes ≡ first ∷ rest → HasNoPair first second bytes

-- neither `=?` nor `?=` occurs in a piece
pub record HasNoWordEnd (piece : List ℕ) : Type 0 where
  pub opening : HasNoPair equals_sign question_mark piece
  pub closing : HasNoPair question_mark equals_sign piece

-- neither occurs in it, or it is an encoded word
abbrev pub IsStrictPiece : List ℕ → Type 0
IsStrictPiece piece = HasNoWordEnd piece ⊎ IsWord piece

-- The pieces of a value: what is between its blanks and the bytes of its line ends, which may be nothing. The cases:
pub data ArePieces : List ℕ → List (List ℕ) → Type 0 where
  -- one piece
  one_piece : {piece : List ℕ} → list_all is_piece_byte piece ≡ true → ArePieces piece (piece ∷ [])
  -- a piece, a blank or a byte of a line end, and more
  piece_and_more : {piece rest bytes : List ℕ} {found : List (List ℕ)} (b : ℕ) → list_all is_piece_byte piece ≡ true
      → is_separator b ≡ true → ArePieces rest found
      → bytes ≡ piece ++ (b ∷ rest) → ArePieces bytes (piece ∷ found)

-- ---- Base64 words before other pieces

-- a word in Base64 with padding, and its front up to the text: `=?`, the name of a charset, `?B?`
pub record IsPaddedWord (head bytes : List ℕ) : Type 0 where
  pub first : ℕ
  pub others : List ℕ
  pub encoding : ℕ
  pub letter : ℕ
  pub letters : List ℕ
  pub padding : List ℕ
  pub characters : list_all is_charset_character (first ∷ others) ≡ true
  pub is_base64 : is_some (byte_place (codes "Bb") encoding) ≡ true
  pub are_letters : list_all is_base64_letter (letter ∷ letters) ≡ true
  pub is_padding : list_all (λ b. b == equals_sign) padding ≡ true
  pub short : nat_lt (length bytes) 76 ≡ true
  pub front : head
      ≡ equals_sign ∷ (question_mark ∷ ((first ∷ others) ++ (question_mark ∷ (encoding ∷ (question_mark ∷ [])))))
  pub made : bytes ≡ head ++ (((letter ∷ letters) ++ (equals_sign ∷ padding)) ++ codes "?=")

-- if the piece before is such a word, this one does not begin with its front, ignoring ASCII case
abbrev pub IsApart : List ℕ → List ℕ → Type 0
IsApart before piece =
    (head same rest : List ℕ) → IsPaddedWord head before → piece ≡ same ++ rest → str_eq_ignore_ascii_case same head ≡ false

-- This is so of each of some pieces that are not empty, and of the one before it. The cases:
pub data AreApart : List ℕ → List (List ℕ) → Type 0 where
  -- no more pieces
  no_more_pieces : {before : List ℕ} → AreApart before []
  -- a piece that is empty
  empty_piece : {before : List ℕ} {found : List (List ℕ)} → AreApart before found → AreApart before ([] ∷ found)
  -- a piece that is not
  apart_piece : {before piece : List ℕ} {found : List (List ℕ)} → is_empty piece ≡ false → IsApart before piece
      → AreApart piece found
      → AreApart before (piece ∷ found)

-- ---- values

-- a value in each of whose pieces there is no sign of a word, or which is one
pub record HasStrictWords (value : List ℕ) : Type 0 where
  pub found : List (List ℕ)
  pub are : ArePieces value found
  pub strict : AllByRecursion IsStrictPiece found

-- a value in which no padded word in Base64 is before a piece that begins as it does
pub record HasApartWords (value : List ℕ) : Type 0 where
  pub found : List (List ℕ)
  pub are : ArePieces value found
  pub apart : AreApart [] found
