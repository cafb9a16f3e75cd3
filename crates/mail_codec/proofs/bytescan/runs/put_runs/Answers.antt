use Rattle.std.proofs.Common.{length, drop, ap, ◌∙◌, arith}
use Rattle.std.proofs.lemmas.List.{length-drop, take_rest}
use Rattle.mail_codec.specs.private.Runs.{ends_run, without_ends}
use Rattle.mail_codec.proofs.lemmas.PlacesSearches.{lane_is}
use Rattle.mail_codec.proofs.lemmas.Runs.{vector_kept, vector_ended}
use Rattle.mail_codec.proofs.lemmas.Written.{written_rest}
use Rattle.mail_codec.proofs.bytescan.runs.put_runs.Goals as goal

pub overflow_add-len : goal.overflow_add-len
overflow_add-len c =
    let lane = lane_is (ends_run c.args.end) c.args.bytes.now c.vectors.at _ _ (omega (arith, c.vectors.invariant.within)) c.end_lanes.ensures c.first_lane-place.ensures in
    omega (arith, lane.1, c.vectors.invariant.few)

pub overflow_add-at : goal.overflow_add-at
overflow_add-at c =
    let lane = lane_is (ends_run c.args.end) c.args.bytes.now c.vectors.at _ _ (omega (arith, c.vectors.invariant.within)) c.end_lanes.ensures c.first_lane-place.ensures in
    omega (arith, lane.1)

pub overflow_add-at-then-place-ne-LANES : goal.overflow_add-at-then-place-ne-LANES
overflow_add-at-then-place-ne-LANES c =
    let lane = lane_is (ends_run c.args.end) c.args.bytes.now c.vectors.at _ _ (omega (arith, c.vectors.invariant.within)) c.end_lanes.ensures c.first_lane-place.ensures in
    omega (arith, lane.1)

pub vectors-preserved-then-place-ne-LANES : goal.vectors-preserved-then-place-ne-LANES
vectors-preserved-then-place-ne-LANES c =
    let h = c.vectors.invariant in
    let lane = lane_is (ends_run c.args.end) c.args.bytes.now c.vectors.at _ _ (omega (arith, c.vectors.invariant.within)) c.end_lanes.ensures c.first_lane-place.ensures in
    vector_ended c.args.end c.args.bytes.now c.vectors.output c.vectors.len c.vectors.at h c.first_lane-place.result (omega (arith, h.within)) (omega (arith, h.within, h.few, c.requires)) lane.0
    (omega (arith, lane.1, c.if-place-ne-LANES.true))

pub vectors-preserved : goal.vectors-preserved
vectors-preserved c =
    let h = c.vectors.invariant in
    let lane = lane_is (ends_run c.args.end) c.args.bytes.now c.vectors.at _ _ (omega (arith, c.vectors.invariant.within)) c.end_lanes.ensures c.first_lane-place.ensures in
    vector_kept c.args.end c.args.bytes.now c.vectors.output c.vectors.len c.vectors.at h (omega (arith, h.within)) (omega (arith, h.within, h.few, c.requires)) (omega (arith, lane.0, c.if-place-ne-LANES.false))

pub returns-clause-written : goal.returns-clause-written
returns-clause-written c =
    let bytes = c.args.bytes.now in
    let at = c.vectors.at in
    let h = c.vectors.invariant in
    let rest = take_rest bytes at in
    written_rest c.vectors.len c.put_few.result c.vectors.output c.put_few.new.output
    (omega (arith, ap length rest, length-drop at bytes, c.put_few.ensures.bounds, h.within, h.few, c.requires)) c.put_few.auto.output (without_ends c.args.end (drop at bytes))
    (c.put_few.ensures.written ∙ ap (without_ends c.args.end) rest)
    ∙ h.so_far
