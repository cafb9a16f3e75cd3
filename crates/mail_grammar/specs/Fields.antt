-- The headers of a strict message, by their names and values, and its type (RFC 5322, section 3.6; RFC 2045, sections 5 and 6;
-- RFC 2046, section 5.1.1). Which headers and which type a message has, this takes from the tree.
use Rattle.std.specs.Prelude.{◌≡◌, ℕ, suc, Bool, true, false, ◌||◌, ◌==◌, List, [], ◌∷◌, Some, None, is_some, codes}
use Rattle.std.specs.Char.{is_ascii_alphanumeric}
use Rattle.std.specs.List.{AllByRecursion, list_any}
use Rattle.std.specs.Str.{bytes_eq, str_eq_ignore_ascii_case}
use Rattle.mail_codec.specs.Ascii.{is_blank, space}
use Rattle.mail_codec.specs.Places.{byte_place, has_prefix}
use Rattle.mailparse.specs.ContentType.{ContentType}
use Rattle.mailparse.specs.Header.{Header}
use Rattle.mailparse.specs.Mail.{Node}
use Rattle.mail_grammar.specs.Parameters.{IsDispositionValue, IsTypeValue}

-- ---- repeated headers

-- the names of which a message has at most one header (RFC 5322, section 3.6; RFC 2045 and 2183)
abbrev pub once_names : List (List ℕ)
once_names =
    codes "Content-Type" ∷ codes "Content-Transfer-Encoding" ∷ codes "Content-Disposition"
    ∷ codes "Content-ID" ∷ codes "Content-Description" ∷ codes "MIME-Version"
    ∷ codes "From" ∷ codes "Sender" ∷ codes "Reply-To" ∷ codes "To" ∷ codes "Cc" ∷ codes "Bcc"
    ∷ codes "Date" ∷ codes "Subject" ∷ codes "Message-ID" ∷ codes "In-Reply-To"
    ∷ codes "References" ∷ []

-- no header has this name, ignoring ASCII case. The cases:
pub data HasNone (name : List ℕ) : List Header → Type 0 where
  -- no more headers
  none_named : HasNone name []
  -- one with another name
  another : {header : Header} {headers : List Header} → str_eq_ignore_ascii_case header.key name ≡ false → HasNone name headers
      → HasNone name (header ∷ headers)

-- at most one has it. The cases:
pub data HasAtMostOne (name : List ℕ) : List Header → Type 0 where
  -- no more headers
  no_more_headers : HasAtMostOne name []
  -- one with another name
  other_name : {header : Header} {headers : List Header} → str_eq_ignore_ascii_case header.key name ≡ false
      → HasAtMostOne name headers → HasAtMostOne name (header ∷ headers)
  -- the one with this name
  the_one : {header : Header} {headers : List Header} → str_eq_ignore_ascii_case header.key name ≡ true → HasNone name headers
      → HasAtMostOne name (header ∷ headers)

-- ---- transfer encodings

-- the transfer encodings: all of them, or those of a message that is made of messages, which must not be encoded
abbrev pub encoding_names : Bool → List (List ℕ)
encoding_names false = codes "7bit" ∷ codes "8bit" ∷ codes "binary" ∷ codes "base64" ∷ codes "quoted-printable" ∷ []
encoding_names true = codes "7bit" ∷ codes "8bit" ∷ codes "binary" ∷ []

-- a type of such a message
abbrev pub is_of_messages : ContentType → Bool
is_of_messages ctype = has_prefix (codes "multipart") ctype.mimetype || has_prefix (codes "message/") ctype.mimetype

-- Blanks, and then one of some names, ignoring ASCII case. The cases:
pub data IsOneOf (names : List (List ℕ)) : List ℕ → Type 0 where
  -- the name
  name_here : {value : List ℕ} → list_any (str_eq_ignore_ascii_case value) names ≡ true → IsOneOf names value
  -- one more blank
  blank_before : {b : ℕ} {rest : List ℕ} → is_blank b ≡ true → IsOneOf names rest → IsOneOf names (b ∷ rest)

-- ---- types

-- a character of a boundary
abbrev pub is_boundary_character : ℕ → Bool
is_boundary_character b = is_ascii_alphanumeric b || is_some (byte_place (codes "'()+_,-./:=? ") b)

-- Such characters, at least one and at most `most`, of which the last is no space. The cases:
pub data IsBoundary : ℕ → List ℕ → Type 0 where
  -- the last character
  last_character : {most b : ℕ} → is_boundary_character b ≡ true → (b == space) ≡ false → IsBoundary (suc most) (b ∷ [])
  -- one before others
  more_characters : {most b : ℕ} {rest : List ℕ} → is_boundary_character b ≡ true → IsBoundary most rest
      → IsBoundary (suc most) (b ∷ rest)

-- A multipart has a boundary, and no other type has one. The cases:
pub data HasBoundary (ctype : ContentType) : Type 0 where
  -- a multipart
  of_multipart : {text : List ℕ} → has_prefix (codes "multipart/") ctype.mimetype ≡ true
      → ctype.params (codes "boundary") ≡ Some text → IsBoundary 70 text → HasBoundary ctype
  -- another type
  of_other : has_prefix (codes "multipart") ctype.mimetype ≡ false → ctype.params (codes "boundary") ≡ None → HasBoundary ctype

-- a type with such a boundary; if it is one of messages, it is one of those that all readers know
pub record IsType (ctype : ContentType) : Type 0 where
  pub message : has_prefix (codes "message/") ctype.mimetype ≡ true
      → list_any (bytes_eq ctype.mimetype)
      (codes "message/rfc822" ∷ codes "message/delivery-status" ∷ codes "message/disposition-notification" ∷ []) ≡ true
  pub boundary : HasBoundary ctype

-- ---- all of them

-- what a header has and says of a message of this type
pub record IsField (ctype : ContentType) (header : Header) : Type 0 where
  pub encoding : str_eq_ignore_ascii_case header.key (codes "Content-Transfer-Encoding") ≡ true
      → IsOneOf (encoding_names (is_of_messages ctype)) header.value
  pub type : str_eq_ignore_ascii_case header.key (codes "Content-Type") ≡ true → IsType ctype
  pub type_value : str_eq_ignore_ascii_case header.key (codes "Content-Type") ≡ true → IsTypeValue header.value
  pub disposition_value : str_eq_ignore_ascii_case header.key (codes "Content-Disposition") ≡ true → IsDispositionValue header.value

-- the headers of a message
pub record HasStrictFields (node : Node) : Type 0 where
  pub once : AllByRecursion (λ name. HasAtMostOne name node.headers) once_names
  pub each : AllByRecursion (IsField node.ctype) node.headers
