-- The records of the files in a text, and their strings; the crate's own form.
use Rattle.std.specs.Prelude.{ℕ, ◌+◌, Bool, true, false, List, ◌++◌, length, is_some}
use Rattle.mail_codec.specs.Uuencode.{Span}
use Rattle.mail_read.specs.Files.{text_of_octets}
use Rattle.mail_data.specs.TextFiles.{TextFile, file_bytes, text_files}
use Rattle.mail_records.specs.Rows.{listed}
use Rattle.mail_records.specs.declared.text_files.TextFileRecord.{TextFileRecord}

-- the range of bytes that begin at this offset
abbrev pub range_at : ℕ → List ℕ → ℕ × ℕ
range_at at bytes = (at, at + length bytes)

-- 1 if something is so, and 0 if it is not
abbrev pub number_of : Bool → ℕ
number_of true = 1
number_of false = 0

-- the name of a file
abbrev pub name_text : TextFile → List ℕ
name_text file = text_of_octets file.name

-- the strings of a file: its name, and its bytes
abbrev pub file_text : TextFile → List ℕ
file_text file = name_text file ++ (file_bytes file).bytes

-- the record of these ranges
abbrev pub record_of : Span → ℕ × ℕ → ℕ × ℕ → ℕ → TextFileRecord
record_of block name content damaged = record {
  block_start = block.start;
  block_end = block.end;
  name_start = name.0;
  name_end = name.1;
  content_start = content.0;
  content_end = content.1;
  is_damaged = damaged;
}

-- the record of a file, if its strings begin at this offset
abbrev pub file_record : ℕ → TextFile → TextFileRecord
file_record at file =
    record_of file.block (range_at at (name_text file)) (range_at (at + length (name_text file)) (file_bytes file).bytes) (number_of (is_some (file_bytes file).fault))

-- the records of the files in a text, of which at most this many blocks are read, and their strings
abbrev pub files_read : ℕ → List ℕ → List TextFileRecord × List ℕ
files_read limit text = listed file_record file_text (text_files limit text)
