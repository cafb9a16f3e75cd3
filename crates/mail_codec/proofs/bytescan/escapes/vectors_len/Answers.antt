use Rattle.std.proofs.Common.{◌-◌, length, sym, arith}
use Rattle.mail_codec.specs.Escapes.{may_need_escape}
use Rattle.mail_codec.proofs.lemmas.PlacesSearches.{lane_is, lane_found, lane_passed, last_chunk}
use Rattle.mail_codec.proofs.bytescan.escapes.vectors_len.Goals as goal

pub overflow_add-result : goal.overflow_add-result
overflow_add-result c =
    let lane = lane_is may_need_escape c.args.bytes.now c.vectors.at _ _ (omega arith) c.escape_lanes.ensures c.first_lane-place.ensures in
    omega (arith, lane.1)

pub overflow_add-result-2 : goal.overflow_add-result-2
overflow_add-result-2 c =
    let lane = lane_is may_need_escape c.args.bytes.now (length c.args.bytes.now - 16) _ _ (omega (arith, c.requires)) c.escape_lanes-2.ensures c.first_lane.ensures in
    omega (arith, lane.1)

pub returns-then-place-ne-LANES-clause-least : goal.returns-then-place-ne-LANES-clause-least
returns-then-place-ne-LANES-clause-least c =
    lane_found may_need_escape c.args.bytes.now c.vectors.at _ _ (omega arith) c.escape_lanes.ensures c.first_lane-place.ensures _ c.vectors.invariant c.if-place-ne-LANES.true

pub returns-then-place-ne-LANES-clause-bounds : goal.returns-then-place-ne-LANES-clause-bounds
returns-then-place-ne-LANES-clause-bounds c =
    let lane = lane_is may_need_escape c.args.bytes.now c.vectors.at _ _ (omega arith) c.escape_lanes.ensures c.first_lane-place.ensures in
    omega (arith, lane.1)

pub vectors-preserved : goal.vectors-preserved
vectors-preserved c =
    lane_passed may_need_escape c.args.bytes.now c.vectors.at _ _ (omega arith) c.escape_lanes.ensures c.first_lane-place.ensures _ c.vectors.invariant c.if-place-ne-LANES.false

pub returns-clause-least : goal.returns-clause-least
returns-clause-least c =
    let last = length c.args.bytes.now - 16 in
    let lane = lane_is may_need_escape c.args.bytes.now last _ _ (omega (arith, c.requires)) c.escape_lanes-2.ensures c.first_lane.ensures in
    sym (last_chunk may_need_escape c.args.bytes.now 16 c.vectors.at last c.first_lane.result c.vectors.invariant (omega (arith, c.requires)) (omega arith) lane.0)

pub returns-clause-bounds : goal.returns-clause-bounds
returns-clause-bounds c =
    let last = length c.args.bytes.now - 16 in
    let lane = lane_is may_need_escape c.args.bytes.now last _ _ (omega (arith, c.requires)) c.escape_lanes-2.ensures c.first_lane.ensures in
    omega (arith, lane.1, c.requires)
