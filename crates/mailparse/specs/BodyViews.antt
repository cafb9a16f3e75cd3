-- The bodies of the library, as contracts see them.
use Rattle.std.specs.Prelude.{◌≡◌, ℕ, List, Option, Some, None, String}
use Rattle.std.specs.String.{string_bytes}
use Rattle.std.specs.Global.{Global}
use Rattle.mailparse.specs.Body.{BodyKind, in_base64, in_quoted_printable, in_7bit, in_8bit, in_binary}
use Rattle.mailparse.specs.ContentType.{ContentType}
use Rattle.mailparse.specs.Views.{content_type}
use Rattle.mailparse.specs.Mail.{Node}
use Rattle.mailparse.specs.declared.body.Body.{Body}
use Rattle.mailparse.specs.declared.body.Body.TheVariants.{Base64, QuotedPrintable, SevenBit, EightBit, Binary}
use Rattle.mailparse.specs.declared.body.content.BodyContent.{BodyContent}
use Rattle.mailparse.specs.declared.body.encoded.Encoding.{Encoding}
use Rattle.mailparse.specs.declared.body.encoded.Encoding.TheVariants as encoding
use Rattle.mailparse.specs.declared.body.encoded.EncodedBody.{EncodedBody}
use Rattle.mailparse.specs.declared.body.unencoded.UnencodedBody.{UnencodedBody}

-- the content of a body: its bytes as they appear in the message, and its content type
pub record Content : Type 0 where
  pub raw : List ℕ
  pub ctype : ContentType

-- the content of the code, as the definitions have it
abbrev pub content : BodyContent → Content
content c = record { raw = c.raw.now; ctype = content_type c.ctype.now }

-- the content of the body of a message
abbrev pub content_of : Node → Content
content_of node = record { raw = node.body; ctype = node.ctype }

-- the transfer encoding of an encoded body of the code
abbrev pub encoding_kind : Encoding → BodyKind
encoding_kind encoding.Base64 = in_base64
encoding_kind encoding.QuotedPrintable = in_quoted_printable

-- the transfer encoding of an encoded body
abbrev pub encoded_kind : EncodedBody → BodyKind
encoded_kind b = encoding_kind b.encoding

-- the content of an encoded body
abbrev pub encoded_content : EncodedBody → Content
encoded_content b = content b.content

-- the content of a body that is not encoded, of text or of bytes
abbrev pub unencoded_content : {Kind : Type 0} → UnencodedBody Kind → Content
unencoded_content b = content b.content

-- the content of a body, whatever its transfer encoding
abbrev pub body_content : Body → Content
body_content (Base64 b) = encoded_content b
body_content (QuotedPrintable b) = encoded_content b
body_content (SevenBit b) = unencoded_content b
body_content (EightBit b) = unencoded_content b
body_content (Binary b) = unencoded_content b

-- the transfer encoding of a body
abbrev pub kind_of : Body → BodyKind
kind_of (Base64 b) = encoded_kind b
kind_of (QuotedPrintable b) = encoded_kind b
kind_of (SevenBit b) = in_7bit
kind_of (EightBit b) = in_8bit
kind_of (Binary b) = in_binary

-- the name of a transfer encoding, if there is one
abbrev pub name_of : Option (String Global) → Option (List ℕ)
name_of None = None
name_of (Some name) = Some (string_bytes name)

-- a body has this transfer encoding and this content
abbrev pub IsBody : BodyKind → Content → Body → Type 0
IsBody kind given (Base64 b) = (kind ≡ in_base64) × (encoded_kind b ≡ in_base64) × (encoded_content b ≡ given)
IsBody kind given (QuotedPrintable b) = (kind ≡ in_quoted_printable) × (encoded_kind b ≡ in_quoted_printable) × (encoded_content b ≡ given)
IsBody kind given (SevenBit b) = (kind ≡ in_7bit) × (unencoded_content b ≡ given)
IsBody kind given (EightBit b) = (kind ≡ in_8bit) × (unencoded_content b ≡ given)
IsBody kind given (Binary b) = (kind ≡ in_binary) × (unencoded_content b ≡ given)
