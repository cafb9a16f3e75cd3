-- The bytes of a body, even if it is damaged; the crate's own rule.
use Rattle.std.specs.Prelude.{ℕ, ◌-◌, Bool, nat_lt, List, length, slice_range, codes, Option, Some, None, Ok, Err, if◌then◌else◌}
use Rattle.std.specs.Option.{option_map_or}
use Rattle.mail_codec.specs.Uuencode.{File, data_bytes, first_file}
use Rattle.mailparse.specs.Body.{decoded}
use Rattle.mailparse.specs.Mail.{Node}
use Rattle.mailparse.specs.Refusal.{Reads, Refusal, generic}
use Rattle.mail_read.specs.lenient.Base64.{Recovered, base64_front}
use Rattle.mail_read.specs.lenient.Encoding.{LenientKind, in_uuencode, lenient_body_kind, standard}

-- the bytes that can be read, why the body is refused, if it is, and the number of bytes of the body
-- that were ignored
pub record Content : Type 0 where
  pub bytes : List ℕ
  pub fault : Option Refusal
  pub ignored : ℕ

-- bytes that are all read
abbrev pub all_of : List ℕ → Content
all_of bytes = record { bytes = bytes; fault = None; ignored = 0 }

-- what was recovered of a body that is refused
abbrev pub front_of : Refusal → Recovered → Content
front_of refusal front =
    record { bytes = front.bytes; fault = Some refusal; ignored = front.ignored }

-- all bytes of a body, or the front of one that is refused, which is Base64
abbrev pub read_or_front : List ℕ → Reads (List ℕ) → Content
read_or_front raw (Ok bytes) = all_of bytes
read_or_front raw (Err refusal) = front_of refusal (base64_front raw)

-- the refusal of a body in uuencode
abbrev pub uuencode_fault : Refusal
uuencode_fault = generic (codes "The body has no whole uuencoded file")

-- why a uuencoded file in a text is damaged
abbrev pub text_file_fault : Refusal
text_file_fault = generic (codes "No line `end` follows the data of the uuencoded file")

-- bytes that are not all of a body in uuencode, and the number of bytes at its end that were ignored
abbrev pub damaged_uuencode : List ℕ → ℕ → Content
damaged_uuencode bytes ignored =
    record { bytes = bytes; fault = Some uuencode_fault; ignored = ignored }

-- lines so short that they encode more bytes than they have themselves
abbrev pub has_short_lines : List ℕ → Bool
has_short_lines lines = nat_lt (length lines) (length (data_bytes lines))

-- the bytes that lines encode; if their file is damaged, this many bytes after them are ignored
abbrev pub decoded_lines : List ℕ → Bool → ℕ → Content
decoded_lines lines is_ended after =
    if is_ended then all_of (data_bytes lines) else damaged_uuencode (data_bytes lines) after

-- the bytes of a file in a body, or the body itself if the lines of the file are too short
abbrev pub file_content : List ℕ → File → Content
file_content raw file =
    let lines = slice_range raw file.lines.start file.lines.end in
    if has_short_lines lines then damaged_uuencode raw 0
    else decoded_lines lines file.is_ended (length raw - file.block.end)

-- the bytes of the first uuencoded file in a body, or the body itself if it has none
unfoldable pub uuencode_content : List ℕ → Content
uuencode_content raw = option_map_or (file_content raw) (first_file raw) (damaged_uuencode raw 0)

-- the content of a body in this transfer encoding
unfoldable pub lenient_content : LenientKind → List ℕ → Content
lenient_content (standard kind) raw = read_or_front raw (decoded kind raw)
lenient_content in_uuencode raw = uuencode_content raw

-- the content of the body of a message
abbrev pub message_content : Node → Content
message_content node = lenient_content (lenient_body_kind node) node.body

-- the bytes of a body, or its refusal
abbrev pub whole : Content → Reads (List ℕ)
whole content = option_map_or Err content.fault (Ok content.bytes)
