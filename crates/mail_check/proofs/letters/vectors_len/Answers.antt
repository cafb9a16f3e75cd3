use Rattle.std.proofs.Common.{not, length-drop, arith}
use Rattle.mail_codec.proofs.lemmas.PlacesSearches.{lane_is, lane_found, lane_passed}
use Rattle.mail_check.specs.Bodies.{is_letter}
use Rattle.mail_check.proofs.letters.vectors_len.Goals as goal

pub overflow_add-result : goal.overflow_add-result
overflow_add-result c =
    let lane = lane_is (λ b. not (is_letter b)) c.args.bytes.now c.vectors.at _ _ (omega arith) c.others.ensures c.first_lane-place.ensures in
    omega (arith, lane.1)

pub overflow_add-result-2 : goal.overflow_add-result-2
overflow_add-result-2 c = omega (arith, c.tail_len.ensures.bounds, length-drop c.vectors.at c.args.bytes.now)

pub returns-then-place-ne-LANES-clause-least : goal.returns-then-place-ne-LANES-clause-least
returns-then-place-ne-LANES-clause-least c =
    lane_found (λ b. not (is_letter b)) c.args.bytes.now c.vectors.at _ _ (omega arith) c.others.ensures c.first_lane-place.ensures _ c.vectors.invariant c.if-place-ne-LANES.true

pub returns-then-place-ne-LANES-clause-bounds : goal.returns-then-place-ne-LANES-clause-bounds
returns-then-place-ne-LANES-clause-bounds c =
    let lane = lane_is (λ b. not (is_letter b)) c.args.bytes.now c.vectors.at _ _ (omega arith) c.others.ensures c.first_lane-place.ensures in
    omega (arith, lane.1)

pub vectors-preserved : goal.vectors-preserved
vectors-preserved c =
    lane_passed (λ b. not (is_letter b)) c.args.bytes.now c.vectors.at _ _ (omega arith) c.others.ensures c.first_lane-place.ensures _ c.vectors.invariant c.if-place-ne-LANES.false
