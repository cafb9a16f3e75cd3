use Rattle.std.proofs.Common.{Bool, ℕ, ◌==◌, ◌||◌, ◌-◌, length, sym, arith}
use Rattle.mail_codec.proofs.lemmas.PlacesSearches.{lane_is, lane_found, lane_passed, last_chunk}
use Rattle.mail_codec.proofs.bytescan.alternatives.vectors_len.Goals as goal

abbrev is_either : ℕ → ℕ → ℕ → Bool
is_either first second b = b == first || b == second

pub overflow_add-result : goal.overflow_add-result
overflow_add-result c =
    let lane = lane_is (is_either c.args.first c.args.second) c.args.bytes.now c.vectors.at _ _ (omega arith) c.either_lanes.ensures c.first_lane-place.ensures in
    omega (arith, lane.1)

pub overflow_add-result-2 : goal.overflow_add-result-2
overflow_add-result-2 c =
    let lane = lane_is (is_either c.args.first c.args.second) c.args.bytes.now (length c.args.bytes.now - 16) _ _ (omega (arith, c.requires)) c.either_lanes-2.ensures c.first_lane.ensures in
    omega (arith, lane.1)

pub returns-then-place-ne-LANES : goal.returns-then-place-ne-LANES
returns-then-place-ne-LANES c =
    let lane = lane_is (is_either c.args.first c.args.second) c.args.bytes.now c.vectors.at _ _ (omega arith) c.either_lanes.ensures c.first_lane-place.ensures in
    record {
      least = lane_found (is_either c.args.first c.args.second) c.args.bytes.now c.vectors.at _ _ (omega arith) c.either_lanes.ensures c.first_lane-place.ensures _ c.vectors.invariant c.if-place-ne-LANES.true;
      bounds = omega (arith, lane.1);
    }

pub vectors-preserved : goal.vectors-preserved
vectors-preserved c =
    lane_passed (is_either c.args.first c.args.second) c.args.bytes.now c.vectors.at _ _ (omega arith) c.either_lanes.ensures c.first_lane-place.ensures _ c.vectors.invariant c.if-place-ne-LANES.false

pub returns : goal.returns
returns c =
    let last = length c.args.bytes.now - 16 in
    let test = is_either c.args.first c.args.second in
    let lane = lane_is test c.args.bytes.now last _ _ (omega (arith, c.requires)) c.either_lanes-2.ensures c.first_lane.ensures in
    record {
      least = sym (last_chunk test c.args.bytes.now 16 c.vectors.at last c.first_lane.result c.vectors.invariant (omega (arith, c.requires)) (omega arith) lane.0);
      bounds = omega (arith, lane.1, c.requires);
    }
