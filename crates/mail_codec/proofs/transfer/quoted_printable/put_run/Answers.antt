use Rattle.std.proofs.Common.{length, take, ap, ◌∙◌, arith}
use Rattle.std.proofs.lemmas.List.{length-drop, take_rest}
use Rattle.mail_codec.specs.Places.{begins, first_place}
use Rattle.mail_codec.specs.private.QuotedPrintable.{is_special}
use Rattle.mail_codec.proofs.lemmas.Written.{stored_lanes, copied_rest}
use Rattle.mail_codec.proofs.lemmas.PlacesSearches.{lane_is, lane_found, lane_passed}
use Rattle.mail_codec.proofs.transfer.quoted_printable.put_run.Goals as goal

pub returns-then-place-ne-LANES-clause-written : goal.returns-then-place-ne-LANES-clause-written
returns-then-place-ne-LANES-clause-written c =
    let lane = lane_is is_special c.args.bytes.now c.vectors.at _ _ (omega (arith, c.vectors.invariant.passed.within)) c.either_lanes.ensures c.first_lane-place.ensures in
    stored_lanes 16 c.vectors.at c.first_lane-place.result c.vectors.output c.args.bytes.now c.vectors.invariant.written (omega (arith, c.vectors.invariant.passed.within, c.requires)) (omega (arith, c.vectors.invariant.passed.within)) lane.1

pub returns-then-place-ne-LANES-clause-least : goal.returns-then-place-ne-LANES-clause-least
returns-then-place-ne-LANES-clause-least c =
    lane_found is_special c.args.bytes.now c.vectors.at _ _ (omega (arith, c.vectors.invariant.passed.within)) c.either_lanes.ensures c.first_lane-place.ensures _ c.vectors.invariant.passed c.if-place-ne-LANES.true

pub returns-then-place-ne-LANES-clause-bounds : goal.returns-then-place-ne-LANES-clause-bounds
returns-then-place-ne-LANES-clause-bounds c =
    let lane = lane_is is_special c.args.bytes.now c.vectors.at _ _ (omega (arith, c.vectors.invariant.passed.within)) c.either_lanes.ensures c.first_lane-place.ensures in
    omega (arith, c.vectors.invariant.passed.within, lane.1)

pub vectors-preserved : goal.vectors-preserved
vectors-preserved c =
    record {
      passed = lane_passed is_special c.args.bytes.now c.vectors.at _ _ (omega (arith, c.vectors.invariant.passed.within)) c.either_lanes.ensures c.first_lane-place.ensures _ c.vectors.invariant.passed c.if-place-ne-LANES.false;
      written = stored_lanes 16 c.vectors.at 16 c.vectors.output c.args.bytes.now c.vectors.invariant.written (omega (arith, c.vectors.invariant.passed.within, c.requires)) (omega (arith, c.vectors.invariant.passed.within)) (omega arith);
    }

pub returns-clause-written : goal.returns-clause-written
returns-clause-written c =
    let bytes = c.args.bytes.now in
    let at = c.vectors.at in
    let rest = take_rest bytes at in
    copied_rest at c.put_words.result c.vectors.output c.put_words.new.output
    (omega (arith, ap length rest, length-drop at bytes, c.put_words.ensures.bounds, c.vectors.invariant.passed.within, c.requires)) c.put_words.auto.output bytes c.vectors.invariant.written
    (c.put_words.ensures.written ∙ ap (take c.put_words.result) rest)

pub returns-clause-least : goal.returns-clause-least
returns-clause-least c =
    let same = ap (first_place (begins is_special)) (take_rest c.args.bytes.now c.vectors.at) in
    omega (arith, c.vectors.invariant.passed.later, c.put_words.ensures.least, same)

pub returns-clause-bounds : goal.returns-clause-bounds
returns-clause-bounds c =
    omega (arith, c.put_words.ensures.bounds, ap length (take_rest c.args.bytes.now c.vectors.at), length-drop c.vectors.at c.args.bytes.now, c.vectors.invariant.passed.within)
