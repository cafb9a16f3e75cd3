use Rattle.std.proofs.Common.{ℕ, ◌+◌, List, ◌++◌, map, drop, sym, ap, subst, ◌∙◌, arith, add-one}
use Rattle.mail_data.specs.ReportViews.{block_view, field_view}
use Rattle.mail_data.specs.declared.reports.Block.{Block}
use Rattle.mail_data.specs.declared.reports.Field.{Field}
use Rattle.mail_read.proofs.lemmas.InnerMails.{drop_next}
use Rattle.mail_records.specs.Reports.{block_entries, entries_from, entry_record, entry_text}
use Rattle.mail_records.specs.Rows.{AppendsRows}
use Rattle.mail_records.proofs.lemmas.Rows.{rows-more}
use Rattle.mail_records.proofs.reports.push_blocks.Goals as goal

pub loop-block-preserved : goal.loop-block-preserved
loop-block-preserved c =
    let before = c.loop-block.invariant in
    let old = c.loop-block.found in
    let new = c.push_fields.new.found in
    let index = c.loop-block.index in
    let own = block_entries index (block_view c.block-item.result) in
    let rest = map block_view (drop (c.loop-block.block-index + 1) c.args.blocks.now) in
    let left =
    ap (λ (bs : List Block). entries_from index (map block_view bs)) (drop_next c.args.blocks.now c.loop-block.block-index c.block-item.result (omega arith) c.block-item.is)
    ∙ ap (λ (n : ℕ). own ++ entries_from n rest) (sym (add-one index)) in
    let appended = subst (λ (fs : List Field). AppendsRows entry_record entry_text (block_entries index (map field_view fs)) old new) c.as_slice.ensures.value c.in_ok-push_fields.ensures in
    (omega (arith, before.0), rows-more entry_record entry_text old new before.1.0 own _ (entries_from (index + 1) rest) _ left before.1.1 before.1.2 appended)
