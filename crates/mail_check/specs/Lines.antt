-- The headers of a message as they are written in its block, and what other programs may read differently in one of them; this
-- crate's own words.
use Rattle.std.specs.Prelude.{ℕ, ◌+◌, Bool, ◌&&◌, ◌||◌, not, ◌==◌, nat_lt, List, [], ◌∷◌, length, take, drop, filter, slice_range, Option, Some, None, is_some, codes}
use Rattle.std.specs.List.{list_all, list_any}
use Rattle.std.specs.Str.{bytes_eq, str_eq_ignore_ascii_case}
use Rattle.mail_codec.specs.Ascii.{space, tilde}
use Rattle.mail_codec.specs.Places.{has_prefix, is_empty}
use Rattle.mailparse.specs.ContentType.{ContentType}
use Rattle.mailparse.specs.Header.{Header, header_length, key_end, value_end, value_start}
use Rattle.mailparse.specs.Mail.{Node}
use Rattle.mail_check.specs.Bytes.{blank_count, first_byte, first_offset, is_blank_fold, is_comment_fold, is_high}

-- a header: where it begins and ends in its block, its bytes with their line end, its key and its value
pub record HeaderLine : Type 0 where
  pub start : ℕ
  pub end : ℕ
  pub bytes : List ℕ
  pub key : List ℕ
  pub value : List ℕ

-- the header at the front of the rest of a block, which begins at an offset
abbrev pub line_of : ℕ → List ℕ → HeaderLine
line_of at rest = record {
  start = at;
  end = at + header_length rest;
  bytes = take (header_length rest) rest;
  key = take (key_end rest) rest;
  value = slice_range rest (value_start rest) (value_end rest);
}

-- as many headers as a list has, one after another, from an offset of the block onwards
abbrev pub lines_from : List Header → List ℕ → ℕ → List HeaderLine
lines_from [] block at = []
lines_from (h ∷ headers) block at =
    line_of at (drop at block)
    ∷ lines_from headers block (at + header_length (drop at block))

-- the headers of a message
abbrev pub header_lines : Node → List HeaderLine
header_lines node = lines_from node.headers node.block 0

-- the key of a header is this name, ignoring ASCII case
abbrev pub is_named : List ℕ → HeaderLine → Bool
is_named name line = str_eq_ignore_ascii_case line.key name

-- ---- keys and folds

-- a printable character of ASCII, but no space
abbrev pub is_visible : ℕ → Bool
is_visible b = nat_lt space b && not (nat_lt tilde b)

-- the bytes after the key
abbrev pub after_key : HeaderLine → List ℕ
after_key line = drop (length line.key) line.bytes

-- a second colon comes after the first one and blanks
abbrev pub has_second_colon : List ℕ → Bool
has_second_colon rest = has_prefix (codes ":") (drop (blank_count rest) rest)

-- the header has no colon or two, or its key is empty or has another byte than visible ASCII
unfoldable pub is_bad_key : HeaderLine → Bool
is_bad_key line =
    not (has_prefix (codes ":") (after_key line))
    || (is_empty line.key || not (list_all is_visible line.key))
    || has_second_colon (drop 1 (after_key line))

-- a line of the header consists of blanks
abbrev pub has_blank_fold : HeaderLine → Bool
has_blank_fold line = is_some (first_offset (is_blank_fold line.bytes) line.bytes)

-- a header of addresses or message ids
abbrev pub is_structured : HeaderLine → Bool
is_structured line =
    list_any (λ name. is_named name line)
    (codes "Message-ID" ∷ codes "In-Reply-To" ∷ codes "References" ∷ codes "From" ∷ codes "Sender"
    ∷ codes "To" ∷ codes "Cc" ∷ codes "Bcc" ∷ codes "Reply-To" ∷ [])

-- a closing parenthesis comes before a fold of such a header
unfoldable pub has_comment_fold : HeaderLine → Bool
has_comment_fold line =
    is_structured line && is_some (first_offset (is_comment_fold line.bytes) line.bytes)

-- a byte after the key is not ASCII
abbrev pub has_high_value : HeaderLine → Bool
has_high_value line = is_some (first_byte is_high (after_key line))

-- the header ends where its block ends: no empty line follows it
abbrev pub ends_block : ℕ → HeaderLine → Bool
ends_block size line = line.end == size

-- ---- repeated headers

-- the names of which a message has one header (RFC 5322, section 3.6; RFC 2045 and 2183)
abbrev pub single_names : List (List ℕ)
single_names =
    codes "Content-Type" ∷ codes "Content-Transfer-Encoding" ∷ codes "Content-Disposition"
    ∷ codes "Content-ID" ∷ codes "Content-Description" ∷ codes "MIME-Version"
    ∷ codes "From" ∷ codes "Sender" ∷ codes "Reply-To" ∷ codes "To" ∷ codes "Cc" ∷ codes "Bcc"
    ∷ codes "Date" ∷ codes "Subject" ∷ codes "Message-ID" ∷ codes "In-Reply-To"
    ∷ codes "References" ∷ []

-- the second of some headers
abbrev pub second_of : List HeaderLine → Option HeaderLine
second_of [] = None
second_of (first ∷ []) = None
second_of (first ∷ (second ∷ lines)) = Some second

-- the second header with a name
abbrev pub second_named : List ℕ → List HeaderLine → Option HeaderLine
second_named name lines = second_of (filter (is_named name) lines)

-- ---- transfer encodings and types (RFC 2045, sections 5 and 6)

-- the value of a header without blanks before it
abbrev pub trimmed_value : HeaderLine → List ℕ
trimmed_value line = drop (blank_count line.value) line.value

-- it is this text, ignoring ASCII case
abbrev pub has_value : List ℕ → HeaderLine → Bool
has_value text line = str_eq_ignore_ascii_case (trimmed_value line) text

-- the header names a transfer encoding that has to be decoded
abbrev pub is_encoding : HeaderLine → Bool
is_encoding line =
    is_named (codes "Content-Transfer-Encoding") line
    && (has_value (codes "base64") line || has_value (codes "quoted-printable") line)

-- the header is to name a transfer encoding, but its value is not one of the five names
unfoldable pub is_bad_encoding : HeaderLine → Bool
is_bad_encoding line =
    is_named (codes "Content-Transfer-Encoding") line
    && not (has_value (codes "7bit") line || (has_value (codes "8bit") line
    || (has_value (codes "binary") line || (has_value (codes "base64") line
    || has_value (codes "quoted-printable") line))))

-- a type begins with this text
abbrev pub begins_type : List ℕ → ContentType → Bool
begins_type text ctype = has_prefix text ctype.mimetype

-- a message whose parts or whose mail must not be encoded
abbrev pub is_composite : ContentType → Bool
is_composite ctype = begins_type (codes "multipart") ctype || begins_type (codes "message/") ctype

-- a type of messages that all readers know, and one that not all of them do
abbrev pub is_known_message : ContentType → Bool
is_known_message ctype =
    bytes_eq ctype.mimetype (codes "message/rfc822")
    || (bytes_eq ctype.mimetype (codes "message/delivery-status")
    || bytes_eq ctype.mimetype (codes "message/disposition-notification"))

unfoldable pub is_other_message : ContentType → Bool
is_other_message ctype =
    begins_type (codes "message/") ctype && not (is_known_message ctype)
