-- The blocks so far, and then those that are left, are all.
use Rattle.std.proofs.Common.{◌≡◌, ◌++◌, map}
use Rattle.mail_data.specs.Reports.{block_fields, blocks}
use Rattle.mail_data.specs.ReportViews.{block_view}
use Rattle.mail_data.proofs.reports.read_blocks.Given as goal

abbrev pub invariant-loop-block : goal.invariant-loop-block
invariant-loop-block g l =
    map block_view l.found.items ++ map (block_fields (g.K.KnownCharsets.known l.known)) (map (λ block. block.now) l.block-iterator.rest.items)
    ≡ map (block_fields (g.K.KnownCharsets.known l.known)) (blocks l.report)
