-- The names of senders of strict messages, which no program may read as addresses. A grammar of bytes, which says nothing of how
-- they are searched. What an encoded text is in bytes, this takes from its decoding.
use Rattle.std.specs.Prelude.{◌≡◌, ℕ, Bool, true, false, not, ◌||◌, ◌==◌, List, [], ◌∷◌, ◌++◌, is_some, codes}
use Rattle.std.specs.List.{AllByRecursion, list_all}
use Rattle.std.specs.Result.{result_ok}
use Rattle.std.specs.Str.{str_eq_ignore_ascii_case}
use Rattle.mail_codec.specs.Ascii.{less_than, question_mark}
use Rattle.mail_codec.specs.Base64.{base64}
use Rattle.mail_codec.specs.Places.{byte_place}
use Rattle.mail_codec.specs.QuotedPrintable.{quoted_printable}
use Rattle.mail_read.specs.lenient.Values.{spaced}
use Rattle.mail_check.specs.Senders.{at_sign}
use Rattle.mail_check.specs.Words.{octets_or_none}
use Rattle.mail_grammar.specs.Words.{ArePieces, IsWord}

-- a character that is no separator of senders
abbrev pub is_name_character : ℕ → Bool
is_name_character b = not (is_some (byte_place (codes "@<>,:;\"()[]\\") b))

-- No opening angle bracket comes after an at sign. The cases:
pub data HasNoEarlyAt : List ℕ → Type 0 where
  -- no more bytes
  no_at_sign : HasNoEarlyAt []
  -- a byte before the first at sign
  before_at_sign : {b : ℕ} {rest : List ℕ} → (b == at_sign) ≡ false → HasNoEarlyAt rest → HasNoEarlyAt (b ∷ rest)
  -- the first at sign
  the_at_sign : {bytes : List ℕ} (rest : List ℕ) → list_all (λ b. not (b == less_than)) rest ≡ true → bytes ≡ at_sign ∷ rest
      → HasNoEarlyAt bytes

-- The bytes of an encoding, a question mark, and a text. The cases:
pub data AreOctets : List ℕ → List ℕ → Type 0 where
  -- those of a text in Base64, or none if it is not Base64
  octets_in_base64 : {b : ℕ} {bytes octets : List ℕ} (text : List ℕ) → is_some (byte_place (codes "Bb") b) ≡ true
      → octets ≡ octets_or_none (result_ok (base64 text)) → bytes ≡ b ∷ (question_mark ∷ text)
      → AreOctets bytes octets
  -- those of a text in the encoding Q, in which each underscore is a space
  octets_in_q : {b : ℕ} {bytes octets : List ℕ} (text : List ℕ) → is_some (byte_place (codes "Qq") b) ≡ true
      → octets ≡ quoted_printable (spaced text ++ codes "=") → bytes ≡ b ∷ (question_mark ∷ text)
      → AreOctets bytes octets

-- if a piece is an encoded word, none of its bytes is a separator of senders
abbrev pub HidesNothing : List ℕ → Type 0
HidesNothing piece =
    (word : IsWord piece) (octets : List ℕ) → AreOctets word.text octets → list_all is_name_character octets ≡ true

-- a value of which this is so
pub record HasPlainWords (value : List ℕ) : Type 0 where
  pub found : List (List ℕ)
  pub are : ArePieces value found
  pub plain : AllByRecursion HidesNothing found

-- the names of senders in a header with this key and value
pub record HasPlainNames (key value : List ℕ) : Type 0 where
  pub early : str_eq_ignore_ascii_case key (codes "From") ≡ true → HasNoEarlyAt value
  pub words : (str_eq_ignore_ascii_case key (codes "From") || str_eq_ignore_ascii_case key (codes "Sender")) ≡ true
      → HasPlainWords value
