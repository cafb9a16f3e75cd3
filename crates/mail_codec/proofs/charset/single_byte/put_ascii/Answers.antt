use Rattle.std.proofs.Common.{arith}
use Rattle.std.specs.Prelude.{nat_le}
use Rattle.mail_codec.proofs.lemmas.PlacesSearches.{lane_is}
use Rattle.mail_codec.proofs.lemmas.Written.{stored_lanes}
use Rattle.mail_codec.proofs.lemmas.CharsetSingleByte.{ascii_more}
use Rattle.mail_codec.proofs.charset.single_byte.put_ascii.Goals as goal

pub overflow_add-result : goal.overflow_add-result
overflow_add-result c =
    let lane = lane_is (λ b. nat_le 128 b) c.args.bytes.now c.vectors.at _ _ (omega (arith, c.vectors.invariant.within)) c.lanes_from.ensures c.first_lane-lane.ensures in
    omega (arith, lane.1)

pub returns-then-lane-ne-LANES-clause-bounds : goal.returns-then-lane-ne-LANES-clause-bounds
returns-then-lane-ne-LANES-clause-bounds c =
    let lane = lane_is (λ b. nat_le 128 b) c.args.bytes.now c.vectors.at _ _ (omega (arith, c.vectors.invariant.within)) c.lanes_from.ensures c.first_lane-lane.ensures in
    omega (arith, c.vectors.invariant.within, lane.1)

pub returns-then-lane-ne-LANES-clause-ascii : goal.returns-then-lane-ne-LANES-clause-ascii
returns-then-lane-ne-LANES-clause-ascii c =
    let lane = lane_is (λ b. nat_le 128 b) c.args.bytes.now c.vectors.at _ _ (omega (arith, c.vectors.invariant.within)) c.lanes_from.ensures c.first_lane-lane.ensures in
    ascii_more c.args.bytes.now c.vectors.at c.first_lane-lane.result lane.0 lane.1 c.vectors.invariant.ascii

pub returns-then-lane-ne-LANES-clause-written : goal.returns-then-lane-ne-LANES-clause-written
returns-then-lane-ne-LANES-clause-written c =
    let lane = lane_is (λ b. nat_le 128 b) c.args.bytes.now c.vectors.at _ _ (omega (arith, c.vectors.invariant.within)) c.lanes_from.ensures c.first_lane-lane.ensures in
    stored_lanes 16 c.vectors.at c.first_lane-lane.result c.vectors.output c.args.bytes.now c.vectors.invariant.written (omega (arith, c.vectors.invariant.within, c.requires.capacity)) (omega (arith, c.vectors.invariant.within)) lane.1

pub vectors-preserved : goal.vectors-preserved
vectors-preserved c =
    let lane = lane_is (λ b. nat_le 128 b) c.args.bytes.now c.vectors.at _ _ (omega (arith, c.vectors.invariant.within)) c.lanes_from.ensures c.first_lane-lane.ensures in
    record {
      within = omega (arith, c.vectors.invariant.within);
      ascii = ascii_more c.args.bytes.now c.vectors.at 16 (omega (arith, lane.0, c.if-lane-ne-LANES.false)) (omega arith) c.vectors.invariant.ascii;
      written = stored_lanes 16 c.vectors.at 16 c.vectors.output c.args.bytes.now c.vectors.invariant.written (omega (arith, c.vectors.invariant.within, c.requires.capacity)) (omega (arith, c.vectors.invariant.within)) (omega arith);
    }
