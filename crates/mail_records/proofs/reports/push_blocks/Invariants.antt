-- The entries so far, and those of the blocks that are left.
use Rattle.std.proofs.Common.{◌≡◌, List, ◌++◌, map, drop}
use Rattle.mail_data.specs.ReportViews.{block_view}
use Rattle.mail_records.specs.Reports.{Entry, entries_from, entry_record, entry_text}
use Rattle.mail_records.specs.Rows.{ListsRows}
use Rattle.mail_records.proofs.reports.push_blocks.Given as goal

abbrev pub invariant-loop-block : goal.invariant-loop-block
invariant-loop-block l =
    (l.index ≡ l.block-index)
    × ((done : List Entry)
    × (done ++ entries_from l.index (map block_view (drop l.block-index l.blocks)) ≡ entries_from 0 (map block_view l.blocks))
    × ListsRows entry_record entry_text done l.initial.found l.found)
