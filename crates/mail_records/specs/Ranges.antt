-- What is read of ranges of a mail: of raw values, of names and of bodies; the crate's own form.
use Rattle.std.specs.Prelude.{◌≡◌, ◌⊎◌, ℕ, Bool, ◌==◌, List, Some, is_some, Result, Ok, Err, if◌then◌else◌}
use Rattle.mail_codec.specs.Charset.{Charsets}
use Rattle.mailparse.specs.Body.{in_base64, in_quoted_printable, in_7bit}
use Rattle.mailparse.specs.ContentType.{ContentType}
use Rattle.mailparse.specs.Refusal.{◌>>=◌}
use Rattle.mail_data.specs.Bounce.{original_message_id}
use Rattle.mail_read.specs.FileNames as names
use Rattle.mail_read.specs.lenient.FileNames.{lenient_name_in}
use Rattle.mail_data.specs.QuotedLines as quoted
use Rattle.mail_read.specs.Reading.{mail_reading}
use Rattle.mail_read.specs.lenient.Content.{lenient_content}
use Rattle.mail_read.specs.lenient.Encoding.{LenientKind, in_uuencode, standard}
use Rattle.mail_read.specs.lenient.Manner.{lenient_type_from}
use Rattle.mail_read.specs.lenient.Texts.{text_read}
use Rattle.mail_read.specs.lenient.Values.{header_text}
use Rattle.mail_records.specs.Buffer.{Found, IsFilled, IsKept, Output, fits, written_code}
use Rattle.mail_records.specs.Codes.{no_memory}
use Rattle.mail_records.specs.Results.{no_limit, text_in}
use Rattle.mail_records.specs.declared.ranges.Decoded as made

-- the transfer encoding with a number; any other number than these three is that of a body that is not encoded
abbrev pub kind_numbered : ℕ → LenientKind
kind_numbered number =
    if number == 4 then standard in_base64
    else (if number == 3 then standard in_quoted_printable
    else (if number == 5 then in_uuencode else standard in_7bit))

-- a name that is safe in any directory
unfoldable pub safe_name : List ℕ → Found
safe_name bytes = do
  name ← text_in bytes
  Ok (Some (names.safe_name name))

-- a mail of a mailbox in the format mboxrd, as it was before it was quoted
unfoldable pub unquoted : List ℕ → Found
unquoted mail = Ok (Some (quoted.unquoted mail))

-- the bytes or the text of a body, and whether the body is damaged
pub record Decoded : Type 0 where
  pub bytes : List ℕ
  pub is_damaged : Bool

abbrev pub decoded_view : made.Decoded → Decoded
decoded_view found = record { bytes = found.bytes.items; is_damaged = found.is_damaged }

-- the content of a body in the encoding with a number: all of it, or the bytes before the damage
unfoldable pub body : ℕ → List ℕ → Decoded
body number raw =
    let content = lenient_content (kind_numbered number) raw in
    record { bytes = content.bytes; is_damaged = is_some content.fault }

-- Under the charsets that are known.
module _ (known : Charsets) where
  -- the text of a header with this raw value
  unfoldable pub value : List ℕ → Found
  value raw = Ok (Some (header_text known raw))

  -- the type that a raw value gives, read leniently
  abbrev pub type_of : List ℕ → ContentType
  type_of raw = lenient_type_from known raw

  -- the file name in the raw values of a disposition and of a type
  unfoldable pub file_name : List ℕ → List ℕ → Found
  file_name disposition ctype = Ok (lenient_name_in known disposition ctype)

  -- the text of a body in the encoding with a number, whose type has this raw value
  unfoldable pub body_text : ℕ → List ℕ → List ℕ → Decoded
  body_text number raw ctype =
      let read = text_read known (type_of ctype).charset (lenient_content (kind_numbered number) raw) in
      record { bytes = read.text; is_damaged = read.is_damaged }

  -- the name of the charset in which it is read
  unfoldable pub body_charset : ℕ → List ℕ → List ℕ → Found
  body_charset number raw ctype =
      Ok (Some (text_read known (type_of ctype).charset (lenient_content (kind_numbered number) raw)).charset)

  -- the id of the mail that a delivery report is about
  unfoldable pub bounced_id : List ℕ → Found
  bounced_id raw = do
    mail ← mail_reading known no_limit raw
    Ok (original_message_id mail)

-- a flag of C
abbrev pub flag : Bool → ℕ
flag is = if is then 1 else 0

-- The output buffer of a call, and its flag before and after it.
module _ (out : Output ℕ) (was is code : ℕ) where
  -- what was found was written, or memory ran out and all is unchanged
  abbrev pub WritesDecoded : Decoded → Type 0
  WritesDecoded found = (code ≡ written_code out.old found.bytes) × IsFilled (fits out.old found.bytes) out found.bytes × (is ≡ flag found.is_damaged)

  abbrev pub KeepsAll : Type 0
  KeepsAll = (code ≡ no_memory) × IsKept out × (is ≡ was)

  abbrev pub EndsDecoded : Decoded → Type 0
  EndsDecoded found = KeepsAll ⊎ WritesDecoded found

  abbrev pub WritesDecodedOr : {E : Type 0} → Result made.Decoded E → Type 0
  WritesDecodedOr (Ok found) = WritesDecoded (decoded_view found)
  WritesDecodedOr (Err e) = KeepsAll
