-- The body of a message: its transfer encoding (RFC 2045, section 6), its bytes and its text.
use Rattle.std.specs.Prelude.{ℕ, Bool, true, false, List, codes, Option, Some, None, Result, Ok, Err, if◌then◌else◌}
use Rattle.std.specs.Option.{option_map_or}
use Rattle.std.specs.Str.{bytes_eq}
use Rattle.mail_codec.specs.Places.{without_ascii_whitespace}
use Rattle.mail_codec.specs.Charset.{Charsets, four_charsets, marked, ascii_text}
use Rattle.mail_codec.specs.Base64.{base64}
use Rattle.mail_codec.specs.QuotedPrintable.{quoted_printable}
use Rattle.mailparse.specs.Refusal.{◌>>=◌, Reads, base64_fault}

-- the transfer encodings of a body
pub data BodyKind : Type 0 where
  in_base64 in_quoted_printable in_7bit in_8bit in_binary : BodyKind

-- the encoding with exactly this name, in lower case; any other name, or none, means 7bit
unfoldable pub kind_named : Option (List ℕ) → BodyKind
kind_named None = in_7bit
kind_named (Some name) =
    if bytes_eq name (codes "base64") then in_base64
    else (if bytes_eq name (codes "quoted-printable") then in_quoted_printable
    else (if bytes_eq name (codes "8bit") then in_8bit
    else (if bytes_eq name (codes "binary") then in_binary
    else in_7bit)))

-- whether a body of this kind has to be decoded
abbrev pub is_encoded : BodyKind → Bool
is_encoded in_base64 = true
is_encoded in_quoted_printable = true
is_encoded in_7bit = false
is_encoded in_8bit = false
is_encoded in_binary = false

-- the bytes decoded from Base64, or the refusal
abbrev pub base64_bytes : Result (List ℕ) ℕ → Reads (List ℕ)
base64_bytes (Ok bytes) = Ok bytes
base64_bytes (Err group) = Err (base64_fault group)

-- the decoded bytes of a body: from Base64, where ASCII whitespace is ignored, from quoted-printable, or the body itself
unfoldable pub decoded : BodyKind → List ℕ → Reads (List ℕ)
decoded in_base64 body = base64_bytes (base64 (without_ascii_whitespace body))
decoded in_quoted_printable body = Ok (quoted_printable body)
decoded in_7bit body = Ok body
decoded in_8bit body = Ok body
decoded in_binary body = Ok body

-- Under the charsets that are known.
module _ (known : Charsets) where
  -- the text of bytes in the charset with this label: a byte order mark takes precedence; under an unknown label they are ASCII
  unfoldable pub text_under_in : List ℕ → List ℕ → List ℕ
  text_under_in label bytes = option_map_or (λ reading. marked reading bytes) (known label) (ascii_text bytes)

  -- the text of a body in the charset with this label
  unfoldable pub decoded_text_in : BodyKind → List ℕ → List ℕ → Reads (List ℕ)
  decoded_text_in kind label body = do
    bytes ← decoded kind body
    Ok (text_under_in label bytes)

-- the same under the four charsets
abbrev pub text_under : List ℕ → List ℕ → List ℕ
text_under label bytes = text_under_in four_charsets label bytes

abbrev pub decoded_text : BodyKind → List ℕ → List ℕ → Reads (List ℕ)
decoded_text kind label body = decoded_text_in four_charsets kind label body
