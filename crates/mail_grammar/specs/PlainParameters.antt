-- The plain values of types and dispositions, without what programs read differently (RFC 2045, section 5.1; RFC 2183,
-- section 2). A grammar of bytes, which says nothing of how values are searched.
use Rattle.std.specs.Prelude.{◌≡◌, ℕ, Bool, true, false, not, ◌||◌, ◌==◌, nat_lt, List, [], ◌∷◌, ◌++◌, codes}
use Rattle.std.specs.Char.{is_ascii_alphanumeric}
use Rattle.std.specs.List.{list_all, list_any}
use Rattle.std.specs.Str.{bytes_eq, str_eq_ignore_ascii_case, str_to_ascii_lowercase}
use Rattle.mail_codec.specs.Ascii.{backslash, equals_sign, is_blank, quote, semicolon, slash, space}
use Rattle.mail_codec.specs.Places.{has_prefix}
use Rattle.mailparse.specs.Header.{Header}
use Rattle.mail_grammar.specs.Parameters.{IsGap, is_name_character, is_token_character, main_types}

-- ---- parameters

-- a byte in quotes: no quote, no backslash, no semicolon and no control character, which tabs and the bytes of line ends are too
abbrev pub is_plain_byte : ℕ → Bool
is_plain_byte b = not (b == quote || (b == backslash || (b == semicolon || (nat_lt b space || b == 127))))

-- Such bytes, at least one, of which the last is no space. The cases:
pub data IsPlainText : List ℕ → Type 0 where
  -- the last byte
  last_byte : {b : ℕ} → is_plain_byte b ≡ true → (b == space) ≡ false → IsPlainText (b ∷ [])
  -- one before others
  more_bytes : {b : ℕ} {rest : List ℕ} → is_plain_byte b ≡ true → IsPlainText rest → IsPlainText (b ∷ rest)

-- The value of a parameter. The cases:
pub data IsPlainValue : List ℕ → Type 0 where
  -- a token
  plain_token : {first : ℕ} {others : List ℕ} → list_all is_name_character (first ∷ others) ≡ true
      → IsPlainValue (first ∷ others)
  -- quotes with nothing in them
  empty_quotes : IsPlainValue (quote ∷ (quote ∷ []))
  -- such a text in quotes, of which the first byte is no space either
  plain_quotes : {first : ℕ} {others bytes : List ℕ} → (first == space) ≡ false → IsPlainText (first ∷ others)
      → bytes ≡ quote ∷ ((first ∷ others) ++ (quote ∷ [])) → IsPlainValue bytes

-- Parameters with these names, which are in lower case and all different. There is a semicolon before each; after the last
-- of them there may be a semicolon. The cases:
pub data ArePlain : List (List ℕ) → List ℕ → Type 0 where
  -- no more bytes
  no_plain : ArePlain [] []
  -- a semicolon at the end
  plain_semicolon : ArePlain [] (semicolon ∷ [])
  -- a parameter, whose name has no asterisk
  plain_parameter : {names : List (List ℕ)} {gap value bytes : List ℕ} (first : ℕ) (others rest : List ℕ) → IsGap gap
      → list_all is_name_character (first ∷ others) ≡ true → IsPlainValue value
      → list_any (bytes_eq (str_to_ascii_lowercase (first ∷ others))) names ≡ false
      → ArePlain names rest
      → bytes ≡ semicolon ∷ (gap ++ ((first ∷ others) ++ (equals_sign ∷ (value ++ rest))))
      → ArePlain (str_to_ascii_lowercase (first ∷ others) ∷ names) bytes

-- `=?`, with which an encoded word begins, is nowhere. The cases:
pub data HasNoWord : List ℕ → Type 0 where
  -- no more bytes
  no_word : HasNoWord []
  -- a byte at which it does not begin
  no_word_here : {b : ℕ} {rest : List ℕ} → has_prefix (codes "=?") (b ∷ rest) ≡ false → HasNoWord rest → HasNoWord (b ∷ rest)

-- a subtype or a disposition, and plain parameters
pub record IsPlain (bytes : List ℕ) : Type 0 where
  pub first : ℕ
  pub others : List ℕ
  pub rest : List ℕ
  pub names : List (List ℕ)
  pub begins : is_ascii_alphanumeric first ≡ true
  pub characters : list_all is_token_character others ≡ true
  pub parameters : ArePlain names rest
  pub made : bytes ≡ first ∷ (others ++ rest)
  pub word : HasNoWord bytes

-- ---- values

-- Blanks, and then a type. The cases:
pub data IsPlainType : List ℕ → Type 0 where
  -- one more blank
  blank_before_plain_type : {b : ℕ} {rest : List ℕ} → is_blank b ≡ true → IsPlainType rest → IsPlainType (b ∷ rest)
  -- the type
  plain_type : {text bytes : List ℕ} (main : List ℕ) → list_any (str_eq_ignore_ascii_case main) main_types ≡ true
      → IsPlain text
      → bytes ≡ main ++ (slash ∷ text) → IsPlainType bytes

-- Blanks, and then a disposition. The cases:
pub data IsPlainDisposition : List ℕ → Type 0 where
  -- one more blank
  blank_before_plain_disposition : {b : ℕ} {rest : List ℕ} → is_blank b ≡ true → IsPlainDisposition rest
      → IsPlainDisposition (b ∷ rest)
  -- the disposition
  plain_disposition : {bytes : List ℕ} → IsPlain bytes → IsPlainDisposition bytes

-- what the value of a header is, if it is a type or a disposition
pub record HasPlainValue (header : Header) : Type 0 where
  pub type : str_eq_ignore_ascii_case header.key (codes "Content-Type") ≡ true → IsPlainType header.value
  pub disposition : str_eq_ignore_ascii_case header.key (codes "Content-Disposition") ≡ true → IsPlainDisposition header.value
