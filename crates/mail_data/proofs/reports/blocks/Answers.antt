use Rattle.std.proofs.Common.{List, ℕ, Bor, map, ap, ◌∙◌}
use Rattle.std.proofs.lemmas.List.{map_push}
use Rattle.mail_data.specs.Reports.{blocks}
use Rattle.mail_data.proofs.lemmas.Reports.{blocks-shorter, blocks-pushed, blocks-passed, blocks-end}
use Rattle.mail_data.proofs.reports.blocks.Goals as goal

-- the bytes of a slice
abbrev now_of : Bor (List ℕ) → List ℕ
now_of slice = slice.now

pub pieces-preserved-in_ok-push : goal.pieces-preserved-in_ok-push
pieces-preserved-in_ok-push c =
    blocks-pushed c.pieces.rest.now c.cut_block.result.0.now c.cut_block.result.1.now (map now_of c.pieces.found.items) (map now_of c.push.new.self.items)
    (blocks c.args.report.now) c.is_empty.result c.is_empty-in-pieces.result c.is_empty.ensures c.pieces-test.true c.cut_block.ensures.block c.cut_block.ensures.after
    c.is_empty-in-pieces.ensures c.if-not-is_empty.true (ap (map now_of) c.in_ok-push.ensures.items ∙ map_push now_of c.pieces.found.items c.cut_block.result.0)
    c.pieces.invariant

pub pieces-smaller : goal.pieces-smaller
pieces-smaller c = blocks-shorter c.pieces.rest.now c.cut_block.result.1.now c.is_empty.result c.is_empty.ensures c.pieces-test.true c.cut_block.ensures.after

pub pieces-preserved : goal.pieces-preserved
pieces-preserved c =
    blocks-passed c.pieces.rest.now c.cut_block.result.0.now c.cut_block.result.1.now (map now_of c.pieces.found.items) (blocks c.args.report.now) c.is_empty.result
    c.is_empty-in-pieces.result c.is_empty.ensures c.pieces-test.true c.cut_block.ensures.block c.cut_block.ensures.after c.is_empty-in-pieces.ensures
    c.if-not-is_empty.false c.pieces.invariant

pub returns : goal.returns
returns c =
    blocks-end c.pieces.rest.now (map now_of c.pieces.found.items) (blocks c.args.report.now) c.is_empty.result c.is_empty.ensures c.pieces-test.false c.pieces.invariant
