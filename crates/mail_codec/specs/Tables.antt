-- Single-byte charsets as tables of a caller, and the charsets that a reader knows with them.
use Rattle.std.specs.Prelude.{ℕ, Bool, List, map, Option, None, is_some, option_map, find, encode_utf8_all, if◌then◌else◌}
use Rattle.std.specs.List.{position}
use Rattle.std.specs.Option.{option_or}
use Rattle.mail_codec.specs.Charset.{Charsets, charset_of_label, four_charsets, is_among_labels, single_byte_char, trimmed_label}
use Rattle.mail_codec.specs.declared.charset.tables.SingleByteTable.{SingleByteTable}

-- the character of a byte under a table: a byte below 0x80 is the character with its number, and
-- 0x80 + n the one at n
abbrev pub table_char : SingleByteTable → ℕ → ℕ
table_char table = single_byte_char table.high.now

-- the text of bytes under a table; a byte order mark is read like any other bytes
unfoldable pub table_text : SingleByteTable → List ℕ → List ℕ
table_text table bytes = encode_utf8_all (map (table_char table) bytes)

-- whether a table has the label, after trimming it at both ends; the labels of the table are not
-- trimmed
abbrev pub has_label : List ℕ → SingleByteTable → Bool
has_label label table =
    is_among_labels (map (λ known. known.now) table.labels.now) (trimmed_label label)

-- the index of the first table that has the label, unless one of the four charsets has it
unfoldable pub table_of_label : List SingleByteTable → List ℕ → Option ℕ
table_of_label tables label =
    if is_some (charset_of_label label) then None else position (has_label label) tables

-- the charsets that are known with some tables: the four, and then the tables in order
unfoldable pub charsets_with : List SingleByteTable → Charsets
charsets_with tables label =
    option_or (four_charsets label) (option_map table_text (find (has_label label) tables))
