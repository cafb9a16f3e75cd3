-- The records of the recipients of a delivery report, and their strings; the crate's own form.
use Rattle.std.specs.Prelude.{ℕ, ◌+◌, List, [], ◌++◌, length, Option, Some, None, Result, Ok, Err}
use Rattle.mail_codec.specs.Charset.{Charsets}
use Rattle.mailparse.specs.Mail.{Tree}
use Rattle.mail_data.specs.Bounce as report
use Rattle.mail_data.specs.Bounce.{Delivery}
use Rattle.mail_read.specs.Reading.{mail_reading}
use Rattle.mail_records.specs.Codes.{coded}
use Rattle.mail_records.specs.Records.{none}
use Rattle.mail_records.specs.Results.{no_limit}
use Rattle.mail_records.specs.Rows.{listed}
use Rattle.mail_records.specs.declared.recipients.RecipientRecord.{RecipientRecord}

-- the range of a text that begins at this offset, and of one that is missing
abbrev pub range_of : ℕ → Option (List ℕ) → ℕ × ℕ
range_of at (Some text) = (at, at + length text)
range_of at None = (none, none)

-- the bytes of a text; none if it is missing
abbrev pub bytes_of : Option (List ℕ) → List ℕ
bytes_of (Some text) = text
bytes_of None = []

-- the end of the bytes of a text that begins at this offset
abbrev pub after : ℕ → Option (List ℕ) → ℕ
after at text = at + length (bytes_of text)

-- the strings of a recipient: its texts, one after another
abbrev pub delivery_text : Delivery → List ℕ
delivery_text d =
    bytes_of d.final_recipient
    ++ (bytes_of d.original_recipient ++ (bytes_of d.action ++ (bytes_of d.status ++ bytes_of d.diagnostic_code)))

-- the record of these ranges
abbrev pub record_of : ℕ × ℕ → ℕ × ℕ → ℕ × ℕ → ℕ × ℕ → ℕ × ℕ → RecipientRecord
record_of last original action status diagnostic = record {
  final_start = last.0;
  final_end = last.1;
  original_start = original.0;
  original_end = original.1;
  action_start = action.0;
  action_end = action.1;
  status_start = status.0;
  status_end = status.1;
  diagnostic_start = diagnostic.0;
  diagnostic_end = diagnostic.1;
}

-- the record of a recipient, if its strings begin at this offset
abbrev pub delivery_record : ℕ → Delivery → RecipientRecord
delivery_record at d =
    let original = after at d.final_recipient in
    let action = after original d.original_recipient in
    let status = after action d.action in
    record_of (range_of at d.final_recipient) (range_of original d.original_recipient) (range_of action d.action) (range_of status d.status)
    (range_of (after status d.status) d.diagnostic_code)

-- the records of recipients, and their strings
abbrev pub deliveries_read : List Delivery → List RecipientRecord × List ℕ
deliveries_read deliveries = listed delivery_record delivery_text deliveries

-- Under the charsets that are known.
module _ (known : Charsets) where
  -- the records of the recipients that a mail which was read reports
  abbrev pub mail_recipients : Result Tree ℕ → Result (List RecipientRecord × List ℕ) ℕ
  mail_recipients (Ok mail) = Ok (deliveries_read (report.recipients known mail))
  mail_recipients (Err code) = Err code

  -- the records of the recipients that the mail with these bytes reports, or the code of the refusal
  unfoldable pub recipients_read : List ℕ → Result (List RecipientRecord × List ℕ) ℕ
  recipients_read raw = mail_recipients (coded (mail_reading known no_limit raw))
