-- The values of the types and dispositions of strict messages (RFC 2045, section 5.1; RFC 2183, section 2; RFC 2231, sections 3
-- and 4). A grammar of bytes, which says nothing of how values are searched.
use Rattle.std.specs.Prelude.{◌≡◌, ℕ, Bool, true, false, not, ◌&&◌, ◌||◌, ◌==◌, nat_lt, List, [], ◌∷◌, ◌++◌, is_some, codes}
use Rattle.std.specs.Char.{is_ascii_alphanumeric, is_ascii_digit}
use Rattle.std.specs.List.{list_all, list_any}
use Rattle.std.specs.Str.{str_eq_ignore_ascii_case}
use Rattle.mail_codec.specs.Ascii.{asterisk, backslash, carriage_return, equals_sign, is_blank, line_feed, quote, semicolon, slash, space, tab, tilde}
use Rattle.mail_codec.specs.Places.{byte_place}
use Rattle.mail_grammar.specs.LineEnds.{IsLineEnd}

-- ---- characters

-- a character of a subtype or a disposition (RFC 6838, section 4.2)
abbrev pub is_token_character : ℕ → Bool
is_token_character b = is_ascii_alphanumeric b || is_some (byte_place (codes "!#$&-^_.+") b)

-- a character of the name of a parameter, and of a value without quotes
abbrev pub is_name_character : ℕ → Bool
is_name_character b = is_token_character b || is_some (byte_place (codes "`{|}~") b)

-- the same of a value after a name with an asterisk, or without
abbrev pub is_value_character : Bool → ℕ → Bool
is_value_character true b = is_name_character b || is_some (byte_place (codes "*'%") b)
is_value_character false b = is_name_character b

-- a control character other than tabs and bytes of line ends
abbrev pub is_control_byte : ℕ → Bool
is_control_byte b = (nat_lt b 32 && not (b == tab || (b == line_feed || b == carriage_return))) || b == 127

-- ---- parameters

-- Blanks with at most one fold. The cases:
pub data IsGap : List ℕ → Type 0 where
  -- no more bytes
  no_gap : IsGap []
  -- one more blank
  gap_blank : {b : ℕ} {rest : List ℕ} → is_blank b ≡ true → IsGap rest → IsGap (b ∷ rest)
  -- a fold, and the blanks after it
  gap_fold : {line bytes : List ℕ} (first : ℕ) (blanks : List ℕ) → IsLineEnd line → list_all is_blank (first ∷ blanks) ≡ true
      → bytes ≡ line ++ (first ∷ blanks) → IsGap bytes

-- an asterisk and then asterisks and digits, or nothing
pub data IsSection : Bool → List ℕ → Type 0 where
  -- nothing
  no_asterisk : IsSection false []
  -- an asterisk and what follows
  asterisk_and : {others : List ℕ} → list_all (λ b. b == asterisk || is_ascii_digit b) others ≡ true
      → IsSection true (asterisk ∷ others)

-- the name of a parameter, with an asterisk or without
pub record IsName (starred : Bool) (bytes : List ℕ) : Type 0 where
  pub first : ℕ
  pub others : List ℕ
  pub section : List ℕ
  pub characters : list_all is_name_character (first ∷ others) ≡ true
  pub is_section : IsSection starred section
  pub made : bytes ≡ first ∷ (others ++ section)

-- A text after the quote at its front, with that at its end. The cases:
pub data IsQuotedText : List ℕ → Type 0 where
  -- its end
  end_quote : IsQuotedText (quote ∷ [])
  -- a byte that is no quote, no backslash and no control character
  text_byte : {b : ℕ} {rest : List ℕ} → (b == quote) ≡ false → (b == backslash) ≡ false → is_control_byte b ≡ false
      → IsQuotedText rest
      → IsQuotedText (b ∷ rest)
  -- a backslash and a byte of printable ASCII
  quoted_pair : {b : ℕ} {rest bytes : List ℕ} → (b == space || (nat_lt space b && not (nat_lt tilde b))) ≡ true
      → IsQuotedText rest
      → bytes ≡ backslash ∷ (b ∷ rest) → IsQuotedText bytes

-- the value of a parameter, after a name with an asterisk or without. The cases:
pub data IsParameterValue (starred : Bool) : List ℕ → Type 0 where
  -- a token
  token_value : {first : ℕ} {others : List ℕ} → list_all (is_value_character starred) (first ∷ others) ≡ true
      → IsParameterValue starred (first ∷ others)
  -- a text in quotes
  quoted_value : {text bytes : List ℕ} → IsQuotedText text → bytes ≡ quote ∷ text → IsParameterValue starred bytes

-- Parameters with a semicolon before each; after the last of them there may be a semicolon. The cases:
pub data AreParameters : List ℕ → Type 0 where
  -- no more bytes
  no_parameter : AreParameters []
  -- a semicolon at the end
  last_semicolon : AreParameters (semicolon ∷ [])
  -- a parameter
  parameter : {starred : Bool} {gap name value bytes : List ℕ} (rest : List ℕ) → IsGap gap → IsName starred name
      → IsParameterValue starred value → AreParameters rest
      → bytes ≡ semicolon ∷ (gap ++ (name ++ (equals_sign ∷ (value ++ rest))))
      → AreParameters bytes

-- a subtype or a disposition, and parameters
pub record IsTokenWithParameters (bytes : List ℕ) : Type 0 where
  pub first : ℕ
  pub others : List ℕ
  pub rest : List ℕ
  pub begins : is_ascii_alphanumeric first ≡ true
  pub characters : list_all is_token_character others ≡ true
  pub parameters : AreParameters rest
  pub made : bytes ≡ first ∷ (others ++ rest)

-- ---- values

-- the types that all programs know
abbrev pub main_types : List (List ℕ)
main_types =
    codes "text" ∷ codes "image" ∷ codes "audio" ∷ codes "video" ∷ codes "application"
    ∷ codes "multipart" ∷ codes "message" ∷ codes "font" ∷ codes "model" ∷ []

-- Blanks, and then a type. The cases:
pub data IsTypeValue : List ℕ → Type 0 where
  -- one more blank
  blank_before_type : {b : ℕ} {rest : List ℕ} → is_blank b ≡ true → IsTypeValue rest → IsTypeValue (b ∷ rest)
  -- the type
  type_here : {text bytes : List ℕ} (main : List ℕ) → list_any (str_eq_ignore_ascii_case main) main_types ≡ true
      → IsTokenWithParameters text
      → bytes ≡ main ++ (slash ∷ text) → IsTypeValue bytes

-- Blanks, and then a disposition. The cases:
pub data IsDispositionValue : List ℕ → Type 0 where
  -- one more blank
  blank_before_disposition : {b : ℕ} {rest : List ℕ} → is_blank b ≡ true → IsDispositionValue rest → IsDispositionValue (b ∷ rest)
  -- the disposition
  disposition_here : {bytes : List ℕ} → IsTokenWithParameters bytes → IsDispositionValue bytes
