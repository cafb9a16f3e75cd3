-- The entries so far, and those of the fields that are left.
use Rattle.std.proofs.Common.{◌≡◌, List, ◌++◌, map, drop}
use Rattle.mail_data.specs.ReportViews.{field_view}
use Rattle.mail_records.specs.Reports.{Entry, block_entries, entry_record, entry_text}
use Rattle.mail_records.specs.Rows.{AppendsRows}
use Rattle.mail_records.proofs.reports.push_fields.Given as goal

abbrev pub invariant-loop-field : goal.invariant-loop-field
invariant-loop-field l =
    (done : List Entry) × (done ++ block_entries l.block (map field_view (drop l.field-index l.fields)) ≡ block_entries l.block (map field_view l.fields))
    × AppendsRows entry_record entry_text done l.initial.found l.found
