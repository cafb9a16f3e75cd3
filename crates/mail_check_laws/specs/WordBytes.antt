-- The bytes of encoded words in the subjects and senders of strict messages. What these bytes are, this takes from the decoding of
-- the encoded text, and says nothing of how they are searched.
use Rattle.std.specs.Prelude.{◌≡◌, ℕ, Bool, true, false, not, ◌||◌, ◌==◌, nat_lt, List, [], ◌∷◌, ◌++◌, is_some, codes}
use Rattle.std.specs.List.{AllByRecursion, list_all}
use Rattle.mail_codec.specs.Ascii.{equals_sign, question_mark}
use Rattle.mail_codec.specs.Charset.{Charsets}
use Rattle.mail_codec.specs.Places.{byte_place, is_empty}
use Rattle.mail_check.specs.Charsets.{utf_8_labels}
use Rattle.mail_check_laws.specs.Charsets.{HasNoC1, HasNoMark, IsInCharset, IsOneOf}
use Rattle.mail_check_laws.specs.SenderNames.{AreOctets}
use Rattle.mail_grammar.specs.Words.{ArePieces, IsWord}

-- Each bit of the last letter of a text in Base64 makes a byte or is 0. The cases:
pub data HasNoSpareBits : List ℕ → Type 0 where
  -- the text has no padding
  no_padding : {text : List ℕ} (front : List ℕ) (c : ℕ) → (c == equals_sign) ≡ false → text ≡ front ++ (c ∷ [])
      → HasNoSpareBits text
  -- after a letter whose last two bits are 0 there is one equals sign
  one_sign : {text : List ℕ} (front : List ℕ) (c : ℕ) → is_some (byte_place (codes "AEIMQUYcgkosw048") c) ≡ true
      → text ≡ front ++ (c ∷ codes "=") → HasNoSpareBits text
  -- after one whose last four bits are 0 there are two
  two_signs : {text : List ℕ} (front : List ℕ) (c : ℕ) → is_some (byte_place (codes "AQgw") c) ≡ true
      → text ≡ front ++ (c ∷ codes "==") → HasNoSpareBits text

-- a byte that is no control character of ASCII
abbrev pub is_no_control : ℕ → Bool
is_no_control b = not (nat_lt b 32 || b == 127)

-- The bytes of a word, of which the label and the encoded text are given; a text that is not Base64 has none.
pub record AreWordBytes (known : Charsets) (label encoded octets : List ℕ) : Type 0 where
  pub bits : (b : ℕ) (text : List ℕ) → is_some (byte_place (codes "Bb") b) ≡ true → encoded ≡ b ∷ (question_mark ∷ text)
      → HasNoSpareBits text
  pub some : is_empty octets ≡ false
  pub mark : HasNoMark octets
  pub controls : list_all is_no_control octets ≡ true
  pub c1 : IsOneOf label utf_8_labels → HasNoC1 octets
  pub charset : IsInCharset known label octets

-- if a piece is an encoded word, its bytes are such
abbrev pub IsReadablePiece : Charsets → List ℕ → Type 0
IsReadablePiece known piece =
    (word : IsWord piece) (octets : List ℕ) → AreOctets word.text octets
    → AreWordBytes known (word.first ∷ word.others) word.text octets

-- a value of which this is so
pub record HasReadableWords (known : Charsets) (value : List ℕ) : Type 0 where
  pub found : List (List ℕ)
  pub are : ArePieces value found
  pub readable : AllByRecursion (IsReadablePiece known) found
