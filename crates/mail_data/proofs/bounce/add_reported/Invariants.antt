-- The recipients so far, and then those of the blocks that are left, are the old ones and then those of all blocks.
use Rattle.std.proofs.Common.{◌≡◌, ◌++◌, map}
use Rattle.std.specs.Prelude.{flat_map}
use Rattle.mail_data.specs.Bounce.{delivery_or_none}
use Rattle.mail_data.specs.BounceViews.{delivery}
use Rattle.mail_data.specs.Reports.{blocks}
use Rattle.mail_data.proofs.bounce.add_reported.Given as goal

abbrev pub invariant-loop-block : goal.invariant-loop-block
invariant-loop-block g l =
    map delivery l.found.items ++ flat_map (delivery_or_none (g.K.KnownCharsets.known l.known)) (map (λ block. block.now) l.block-iterator.rest.items)
    ≡ map delivery l.fn.found.items ++ flat_map (delivery_or_none (g.K.KnownCharsets.known l.known)) (blocks l.report)
