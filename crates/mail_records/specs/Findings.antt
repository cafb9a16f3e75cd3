-- The records of the findings of a mail, and their strings; the crate's own form.
use Rattle.std.specs.Prelude.{ℕ, ◌+◌, List, ◌++◌, length, Result, Ok, Err}
use Rattle.mail_codec.specs.Charset.{Charsets}
use Rattle.mailparse.specs.Ranges.{Range}
use Rattle.mail_check.specs.Findings.{Finding}
use Rattle.mail_check.specs.Names.{sentence_of, text_of}
use Rattle.mail_check.specs.Reading.{mail_findings}
use Rattle.mail_check.specs.declared.names.Class.{Class}
use Rattle.mail_check.specs.declared.names.Class.TheVariants as class
use Rattle.mail_records.specs.Codes.{coded}
use Rattle.mail_records.specs.Results.{no_limit}
use Rattle.mail_records.specs.Rows.{listed}
use Rattle.mail_records.specs.declared.findings.FindingRecord.{FindingRecord}

-- the number of a class
abbrev pub class_number : Class → ℕ
class_number class.Structure = 0
class_number class.Bytes = 1
class_number class.Name = 2
class_number class.Text = 3
class_number class.Note = 4

-- the strings of a finding: its name, the path of its part, and its sentence
abbrev pub finding_text : Finding → List ℕ
finding_text finding = text_of finding.name ++ (finding.path ++ sentence_of finding.name)

-- the record of a class, a range of the mail, and offsets in the strings
abbrev pub record_of : ℕ → Range → ℕ → ℕ → ℕ → ℕ → FindingRecord
record_of class range name path sentence end = record {
  finding_class = class;
  start = range.start;
  end = range.end;
  name_start = name;
  name_end = path;
  path_start = path;
  path_end = sentence;
  sentence_start = sentence;
  sentence_end = end;
}

-- its record, if its strings begin at this offset
abbrev pub finding_record : ℕ → Finding → FindingRecord
finding_record at finding =
    let path = at + length (text_of finding.name) in
    let sentence = path + length finding.path in
    record_of (class_number finding.class) finding.range at path sentence
    (sentence + length (sentence_of finding.name))

-- the records of findings, and their strings
abbrev pub findings_listed : List Finding → List FindingRecord × List ℕ
findings_listed findings = listed finding_record finding_text findings

-- the records of what was found, or the code of the refusal
abbrev pub found_records : Result (List Finding) ℕ → Result (List FindingRecord × List ℕ) ℕ
found_records (Ok findings) = Ok (findings_listed findings)
found_records (Err code) = Err code

-- the records of the findings of the mail with these bytes, under the charsets that are known, or the code of the refusal
unfoldable pub findings_read : Charsets → List ℕ → Result (List FindingRecord × List ℕ) ℕ
findings_read known raw = found_records (coded (mail_findings known no_limit raw))
