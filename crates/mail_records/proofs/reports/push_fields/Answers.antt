use Rattle.std.proofs.Common.{ℕ, ◌+◌, List, [], ◌∷◌, map, drop, sym, ap, ◌∙◌, arith}
use Rattle.std.specs.Prelude.{string_bytes}
use Rattle.mail_data.specs.ReportViews.{field_view}
use Rattle.mail_data.specs.declared.reports.Field.{Field}
use Rattle.mail_read.proofs.lemmas.InnerMails.{drop_next}
use Rattle.mail_records.specs.Reports.{block_entries, block_entry, entry_record, entry_text}
use Rattle.mail_records.proofs.lemmas.Rows.{appended-more}
use Rattle.mail_records.proofs.reports.push_fields.Goals as goal

pub loop-field-preserved : goal.loop-field-preserved
loop-field-preserved c =
    let before = c.loop-field.invariant in
    let block = c.args.block in
    let item = c.field-item.result in
    let name = c.as_bytes.result.now in
    let rest = block_entries block (map field_view (drop (c.loop-field.field-index + 1) c.args.fields.now)) in
    let left =
    ap (λ (fs : List Field). block_entries block (map field_view fs)) (drop_next c.args.fields.now c.loop-field.field-index item (omega arith) c.field-item.is)
    ∙ ap (λ (n : List ℕ). block_entry block (n, string_bytes item.value) ∷ rest) (sym c.as_bytes.ensures.value)
    ∙ ap (λ (v : List ℕ). block_entry block (name, v) ∷ rest) (sym c.as_bytes-in-loop-field.ensures.value) in
    appended-more entry_record entry_text c.args.found.now c.loop-field.found c.push_field.new.found before.0
    (block_entry block (name, c.as_bytes-in-loop-field.result.now) ∷ []) _ rest _ left before.1 before.2 c.in_ok-push_field.ensures
