-- The records of a mail, of its parts and of their headers; the crate's own form.
use Rattle.std.specs.Prelude.{ℕ, suc, ◌+◌, Bool, not, ◌&&◌, ◌||◌, nat_le, List, [], ◌∷◌, ◌++◌, length, drop, flat_map, Option, Result, Ok, Err, if◌then◌else◌}
use Rattle.std.specs.Option.{option_map_or}
use Rattle.mail_codec.specs.Charset.{Charsets}
use Rattle.mail_codec.specs.Places.{values_below}
use Rattle.mailparse.specs.Block.{HeaderList, bare_key, before_dash_line, header_place, read_headers}
use Rattle.mailparse.specs.Body.{in_base64, in_quoted_printable, in_7bit, in_8bit, in_binary}
use Rattle.mailparse.specs.Disposition.{Kind, inline, attachment, form_data, extension}
use Rattle.mailparse.specs.Header.{header_length, header_of, value_end, value_start}
use Rattle.mailparse.specs.Mail.{Forest, Tree, no_parts, part_and, root, tree, trees_within}
use Rattle.mailparse.specs.Placement.{Placement}
use Rattle.mail_read.specs.Files.{is_leaf, is_shown}
use Rattle.mail_read.specs.InnerMails.{forwards}
use Rattle.mail_read.specs.Reading.{mail_placements, mail_reading}
use Rattle.mail_read.specs.lenient.Dispositions.{lenient_disposition}
use Rattle.mail_read.specs.lenient.Encoding.{LenientKind, in_uuencode, lenient_body_kind, standard}
use Rattle.mail_read.specs.lenient.FileNames.{lenient_file_name}
use Rattle.mail_parts.specs.Part.{is_attachment, is_read}
use Rattle.mail_records.specs.Codes.{coded, too_many}
use Rattle.mail_records.specs.declared.records.Part.{Part}
use Rattle.mail_records.specs.declared.records.HeaderRecord.{HeaderRecord}

-- ---- the numbers of a record

-- the number of a transfer encoding
abbrev pub encoding_number : LenientKind → ℕ
encoding_number (standard in_7bit) = 0
encoding_number (standard in_8bit) = 1
encoding_number (standard in_binary) = 2
encoding_number (standard in_quoted_printable) = 3
encoding_number (standard in_base64) = 4
encoding_number in_uuencode = 5

-- the number of a kind of disposition
abbrev pub kind_number : Kind → ℕ
kind_number inline = 1
kind_number attachment = 2
kind_number form_data = 3
kind_number (extension name) = 4

-- the number of a disposition, 0 if there is none
abbrev pub disposition_number : Option Kind → ℕ
disposition_number disposition = option_map_or kind_number disposition 0

-- a flag, as a term of the sum
abbrev pub bit : Bool → ℕ → ℕ
bit is value = if is then value else 0

-- the flags of a part of this disposition, or of none, and with this file name, or with none: it has no parts; it is an
-- attachment; it is extracted; its text is shown; it forwards a mail
unfoldable pub flags : Tree → Option Kind → Option (List ℕ) → ℕ
flags t disposition name =
    bit (is_leaf t) 1 + bit (is_attachment t disposition name) 2
    + bit ((is_leaf t && not (is_shown (root t))) || is_attachment t disposition name) 4
    + bit (is_read t disposition) 8 + bit (forwards (root t)) 16

-- ---- the messages of a mail

-- the parent of a mail itself
abbrev pub none : ℕ
none = 18446744073709551615

-- the index of the part that contains a message, and the level of the message
pub record Family : Type 0 where
  pub parent : ℕ
  pub level : ℕ

abbrev mutual
  -- the families of a message with this index, parent and level, and then of its parts, each before its own parts
  pub families : ℕ → ℕ → ℕ → Tree → List Family
  families index parent level (tree node parts) =
      record { parent = parent; level = level } ∷ families_in (suc index) index (suc level) parts

  -- the same of some parts, the first of which has this index
  pub families_in : ℕ → ℕ → ℕ → Forest → List Family
  families_in index parent level no_parts = []
  families_in index parent level (part_and t ts) =
      families index parent level t ++ families_in (index + length (trees_within t)) parent level ts

-- a message of a mail, with its ranges and its family
pub record Item : Type 0 where
  pub part : Tree
  pub placement : Placement
  pub family : Family

-- messages with their ranges and their families
abbrev pub items_of : List Tree → List Placement → List Family → List Item
items_of (t ∷ ts) (p ∷ ps) (f ∷ fs) = record { part = t; placement = p; family = f } ∷ items_of ts ps fs
items_of _ _ _ = []

-- ---- records

-- where the key of the header at the front of the bytes ends, without the blanks at its end
abbrev pub bare_key_end : List ℕ → ℕ
bare_key_end raw = length (bare_key (header_of raw).key)

-- the record of the header with this number in a message that starts at this offset
abbrev pub header_record : ℕ → List ℕ → ℕ → HeaderRecord
header_record start bytes number =
    let first = start + header_place bytes number in
    let rest = drop (header_place bytes number) bytes in record {
      start = first;
      key_end = first + bare_key_end rest;
      value_start = first + value_start rest;
      value_end = first + value_end rest;
      end = first + header_length rest;
    }

-- the records of its first `count` headers
unfoldable pub header_records : ℕ → List ℕ → ℕ → List HeaderRecord
header_records start bytes count = values_below count (header_record start bytes)

-- the records of the headers of a message
abbrev pub item_headers : Item → List HeaderRecord
item_headers item = header_records item.placement.whole.start (root item.part).bytes (length (root item.part).headers)

-- something found that has this count of records, if that is within the limit
abbrev pub limited : {A : Type 0} → ℕ → ℕ → A → Result A ℕ
limited limit count found = if nat_le count limit then Ok found else Err too_many

-- the records of the headers of a block that was read from these bytes
abbrev pub block_records : ℕ → List ℕ → Result HeaderList ℕ → Result (List HeaderRecord) ℕ
block_records limit raw (Ok block) = limited limit (length block.headers) (header_records 0 raw (length block.headers))
block_records limit raw (Err code) = Err code

-- the records of the headers of a mail or a part, which end where those of a mail that is read leniently do
unfoldable pub header_block : ℕ → List ℕ → Result (List HeaderRecord) ℕ
header_block limit raw = let front = before_dash_line raw in block_records limit front (coded (read_headers front))

-- Under the charsets that are known.
module _ (known : Charsets) where
  -- the record of a message whose first header has this index
  unfoldable pub part_record : ℕ → Item → Part
  part_record first item =
      let node = root item.part in
      let disposition = lenient_disposition known node in record {
        parent = item.family.parent;
        level = item.family.level;
        start = item.placement.whole.start;
        end = item.placement.whole.end;
        body_start = item.placement.body.start;
        body_end = item.placement.body.end;
        first_header = first;
        header_count = length node.headers;
        encoding = encoding_number (lenient_body_kind node);
        disposition = disposition_number disposition;
        flags = flags item.part disposition (lenient_file_name known node);
      }

  -- the records of messages, one after another
  abbrev pub part_records : ℕ → List Item → List Part
  part_records first [] = []
  part_records first (item ∷ rest) = part_record first item ∷ part_records (first + length (root item.part).headers) rest

  -- the records of messages, and those of their headers
  abbrev pub records_in : List Item → List Part × List HeaderRecord
  records_in items = (part_records 0 items, flat_map item_headers items)

  -- the records of a mail that was read
  abbrev pub mail_records : Result Tree ℕ → Result (List Part × List HeaderRecord) ℕ
  mail_records (Ok mail) = Ok (records_in (items_of (trees_within mail) (mail_placements mail) (families 0 none 0 mail)))
  mail_records (Err code) = Err code

  -- the records of a mail and of its parts, each before its own parts, and of all their headers; or the code of the refusal, as
  -- that of a mail with more than `limit` of them
  unfoldable pub records : ℕ → List ℕ → Result (List Part × List HeaderRecord) ℕ
  records limit raw = mail_records (coded (mail_reading known limit raw))
