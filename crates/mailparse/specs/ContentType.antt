-- The content type of a message: RFC 2045, sections 5 and 5.2, as this crate reads it.
use Rattle.std.specs.Prelude.{ℕ, List, codes, unwrap_or}
use Rattle.std.specs.Str.{str_to_ascii_lowercase}
use Rattle.mail_codec.specs.Charset.{Charsets, four_charsets}
use Rattle.mailparse.specs.Continuations.{parameters_in}
use Rattle.mailparse.specs.Pairs.{Texts, no_texts, pairs_of, value_of}

-- a type: type and subtype as one text, the label of the charset, and the parameters by name
pub record ContentType : Type 0 where
  pub mimetype : List ℕ
  pub charset : List ℕ
  pub params : Texts

-- the charset if none is given
abbrev pub default_charset : List ℕ
default_charset = codes "us-ascii"

-- the type if none is given: plain text in US-ASCII, without parameters
abbrev pub default_type : ContentType
default_type = record { mimetype = codes "text/plain"; charset = default_charset; params = no_texts }

-- the charset of some parameters: the parameter `charset`
abbrev pub charset_named : Texts → List ℕ
charset_named params = unwrap_or (params (codes "charset")) default_charset

-- the type with these parameters
abbrev pub type_with : List ℕ → Texts → ContentType
type_with mimetype params = record { mimetype = mimetype; charset = charset_named params; params = params }

-- Under the charsets that are known.
module _ (known : Charsets) where
  -- the type in a text: its value in lower case, and its parameters
  unfoldable pub content_type_in : List ℕ → ContentType
  content_type_in text = type_with (str_to_ascii_lowercase (value_of text)) (parameters_in known (pairs_of text))

-- the same under the four charsets
abbrev pub content_type_of : List ℕ → ContentType
content_type_of text = content_type_in four_charsets text
