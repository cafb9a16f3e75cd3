-- The records of the fields of a report, and their strings; the crate's own form.
use Rattle.std.specs.Prelude.{ℕ, suc, ◌+◌, List, [], ◌∷◌, ◌++◌, length, map, option_map, ok_or, Result, Ok, Err}
use Rattle.mail_codec.specs.Charset.{Charsets}
use Rattle.mailparse.specs.Mail.{Tree, root}
use Rattle.mail_read.specs.Reading.{mail_reading}
use Rattle.mail_data.specs.Reports.{report_blocks}
use Rattle.mail_records.specs.Codes.{absent, coded}
use Rattle.mail_records.specs.Results.{no_limit}
use Rattle.mail_records.specs.Rows.{listed}
use Rattle.mail_records.specs.declared.reports.FieldRecord.{FieldRecord}

-- a field: the index of its block, its name and its value
pub record Entry : Type 0 where
  pub block : ℕ
  pub name : List ℕ
  pub value : List ℕ

-- its strings
abbrev pub entry_text : Entry → List ℕ
entry_text entry = entry.name ++ entry.value

-- its record, if its strings begin at this offset
abbrev pub entry_record : ℕ → Entry → FieldRecord
entry_record at entry = record {
  block = entry.block;
  name_start = at;
  name_end = at + length entry.name;
  value_start = at + length entry.name;
  value_end = at + length entry.name + length entry.value;
}

-- the entry of a field of the block with this index, and those of all its fields
abbrev pub block_entry : ℕ → List ℕ × List ℕ → Entry
block_entry index field = record { block = index; name = field.0; value = field.1 }

abbrev pub block_entries : ℕ → List (List ℕ × List ℕ) → List Entry
block_entries index fields = map (block_entry index) fields

-- the entries of blocks, the first of which has this index
abbrev pub entries_from : ℕ → List (List (List ℕ × List ℕ)) → List Entry
entries_from index [] = []
entries_from index (block ∷ blocks) = block_entries index block ++ entries_from (suc index) blocks

-- the records of the fields of blocks, and their strings
abbrev pub blocks_read : List (List (List ℕ × List ℕ)) → List FieldRecord × List ℕ
blocks_read blocks = listed entry_record entry_text (entries_from 0 blocks)

-- Under the charsets that are known.
module _ (known : Charsets) where
  -- the records of the report that a part which was read is
  abbrev pub part_report : Result Tree ℕ → Result (List FieldRecord × List ℕ) ℕ
  part_report (Ok part) = ok_or (option_map blocks_read (report_blocks known (root part))) absent
  part_report (Err code) = Err code

  -- the records of the report that the part with these bytes is, or the code of the refusal
  unfoldable pub report : List ℕ → Result (List FieldRecord × List ℕ) ℕ
  report raw = part_report (coded (mail_reading known no_limit raw))
