-- The blocks so far, and then those of the rest, are all blocks.
use Rattle.std.proofs.Common.{◌≡◌, ◌++◌, map, length}
use Rattle.mail_data.specs.Reports.{blocks}
use Rattle.mail_data.proofs.reports.blocks.Given as goal

abbrev pub invariant-pieces : goal.invariant-pieces
invariant-pieces l = map (λ block. block.now) l.found.items ++ blocks l.rest ≡ blocks l.report

abbrev pub decreases-pieces : goal.decreases-pieces
decreases-pieces l = length l.rest
