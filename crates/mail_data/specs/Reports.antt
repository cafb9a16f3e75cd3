-- The blocks of reports on mail: delivery status notifications (RFC 3464, section 2.1; RFC 6533,
-- section 4), feedback reports (RFC 5965, section 2) and disposition notifications (RFC 8098,
-- section 3.1).
use Rattle.std.specs.Prelude.{ℕ, zero, suc, Bool, not, ◌||◌, List, [], ◌∷◌, length, take, drop, map, filter, Option, Some, None, Result, Ok, Err, codes, if◌then◌else◌}
use Rattle.std.specs.Str.{bytes_eq, trim}
use Rattle.mail_codec.specs.Charset.{Charsets}
use Rattle.mail_codec.specs.Places.{is_empty}
use Rattle.mailparse.specs.Block.{HeaderList, read_lenient_headers}
use Rattle.mailparse.specs.Header.{Header, key_text}
use Rattle.mailparse.specs.Mail.{Node}
use Rattle.mailparse.specs.Refusal.{Refusal}
use Rattle.mailparse.specs.Value.{lenient_value_in}
use Rattle.mail_read.specs.lenient.Content.{message_content}
use Rattle.mail_data.specs.LineEnds.{is_empty_line, after_empty_line, line_place}

-- a message has this type
abbrev pub has_type : List ℕ → Node → Bool
has_type mimetype node = bytes_eq node.ctype.mimetype mimetype

-- a part has the status of deliveries; in a mail with addresses in UTF-8 its type is another one
-- (RFC 6533, section 4)
abbrev pub has_status : Node → Bool
has_status node =
    has_type (codes "message/delivery-status") node
    || has_type (codes "message/global-delivery-status") node

-- a part is a report whose blocks are read
abbrev pub has_report : Node → Bool
has_report node =
    has_status node
    || (has_type (codes "message/feedback-report") node
    || has_type (codes "message/disposition-notification") node)

-- the number of bytes before the first empty line
unfoldable pub block_length : List ℕ → ℕ
block_length bytes = line_place is_empty_line bytes

-- the bytes before it
abbrev pub block_at : List ℕ → List ℕ
block_at bytes = take (block_length bytes) bytes

-- the bytes after it
abbrev pub after_block : List ℕ → List ℕ
after_block bytes = after_empty_line (drop (block_length bytes) bytes)

-- the pieces between empty lines, at most `most` of them
abbrev pub pieces_within : ℕ → List ℕ → List (List ℕ)
pieces_within zero bytes = []
pieces_within (suc most) bytes =
    if is_empty bytes then [] else block_at bytes ∷ pieces_within most (after_block bytes)

-- the blocks of some bytes: the pieces between empty lines that are not empty; there are no more
-- than bytes
unfoldable pub blocks : List ℕ → List (List ℕ)
blocks bytes = filter (λ block. not (is_empty block)) (pieces_within (length bytes) bytes)

-- the headers that were read, or none if they were refused
abbrev pub headers_or_none : Result HeaderList Refusal → List Header
headers_or_none (Ok found) = found.headers
headers_or_none (Err refusal) = []

-- the fields of a block, which are read as headers are read leniently
unfoldable pub fields : List ℕ → List Header
fields block = headers_or_none (read_lenient_headers block)

-- Under the charsets that are known.
module _ (known : Charsets) where
  -- a field: its name, and the text of its value without whitespace around it
  abbrev pub field_pair : Header → List ℕ × List ℕ
  field_pair header = (key_text header, trim (lenient_value_in known header.value))

  -- the fields of a block
  abbrev pub block_fields : List ℕ → List (List ℕ × List ℕ)
  block_fields block = map field_pair (fields block)

  -- the blocks of a report, in its body without the transfer encoding; none of another part
  unfoldable pub report_blocks : Node → Option (List (List (List ℕ × List ℕ)))
  report_blocks node =
      if has_report node then Some (map block_fields (blocks (message_content node).bytes)) else None
