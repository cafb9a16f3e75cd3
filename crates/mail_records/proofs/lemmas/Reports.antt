-- Lemmas on the records of reports.
use Rattle.std.proofs.Common.{◌≡◌, ℕ, List, [], ◌∷◌, ◌++◌, length, Option, Ok, Err, refl, sym, ap, ◌∙◌}
use Rattle.std.specs.List.{flat_map}
use Rattle.std.specs.Prelude.{ok_or, option_map}
use Rattle.mail_codec.specs.Charset.{Charsets}
use Rattle.mailparse.specs.Mail.{Tree, root}
use Rattle.mailparse.specs.Refusal.{Reads}
use Rattle.mail_read.specs.Reading.{mail_reading}
use Rattle.mail_data.specs.Reports.{report_blocks}
use Rattle.mail_records.specs.Codes.{absent, coded}
use Rattle.mail_records.specs.Reports.{Entry, blocks_read, entry_record, entry_text, part_report, report}
use Rattle.mail_records.specs.Results.{no_limit}
use Rattle.mail_records.specs.Rows.{AreRows, rows_from}
use Rattle.mail_records.specs.declared.reports.FieldRecord.{FieldRecord}
use Rattle.mail_records.specs.declared.rows.Rows.{Rows}
use Rattle.mail_records.proofs.lemmas.Rows.{row-appended, two-texts}

-- a record was appended
pub next_field : (old : Rows FieldRecord) (entries : List Entry) (entry : Entry) (start middle end : ℕ) (mid strings : List ℕ) (records : List FieldRecord)
    → start ≡ length old.strings.items → middle ≡ length mid → end ≡ length strings → mid ≡ old.strings.items ++ entry.name → strings ≡ mid ++ entry.value
    → records ≡ old.records.items ++ record { block = entry.block; name_start = start; name_end = middle; value_start = middle; value_end = end } ∷ []
    → AreRows entry_record entry_text entries old
    → (records ≡ rows_from entry_record entry_text 0 (entries ++ entry ∷ [])) × (strings ≡ flat_map entry_text (entries ++ entry ∷ []))
next_field old entries entry start middle end mid strings records s m e is_mid is_strings is are =
    let texts = two-texts old.strings.items mid strings entry.name entry.value is_mid is_strings in
    let made : ◌≡◌ {A = FieldRecord} (record { block = entry.block; name_start = start; name_end = middle; value_start = middle; value_end = end }) (entry_record (length old.strings.items) entry) =
    (rw (e ∙ texts.1, m ∙ texts.0, s) refl) in
    row-appended entry_record entry_text old entries entry _ records strings made is texts.2 are

-- ---- the report that a part is

-- a part that was read
pub report_is : (known : Charsets) (raw : List ℕ) (t : Tree) (found : Option (List FieldRecord × List ℕ)) → mail_reading known no_limit raw ≡ Ok t
    → found ≡ option_map blocks_read (report_blocks known (root t)) → report known raw ≡ ok_or found absent
unfolding report
report_is known raw t found read are =
    ap (λ (r : Reads Tree). part_report known (coded r)) read ∙ ap (λ (o : Option (List FieldRecord × List ℕ)). ok_or o absent) (sym are)

-- a part that is refused
pub report_refused : (known : Charsets) (raw : List ℕ) (code : ℕ) → coded (mail_reading known no_limit raw) ≡ Err code → report known raw ≡ Err code
unfolding report
report_refused known raw code refused = ap (part_report known) refused
