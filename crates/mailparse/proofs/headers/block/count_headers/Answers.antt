use Rattle.std.proofs.Common.{ℕ, Ok, ap, ◌∙◌, arith}
use Rattle.std.proofs.lemmas.List.{take_rest}
use Rattle.mailparse.specs.Header.{Header}
use Rattle.mailparse.proofs.lemmas.Block.{place_further}
use Rattle.mailparse.proofs.lemmas.Limit.{met_at_end, met_if_refused, met_if_header_refused, met_with-more}
use Rattle.mailparse.proofs.headers.block.count_headers.Goals as goal

pub returns-in-Ok-Some : goal.returns-in-Ok-Some
returns-in-Ok-Some c =
    let ends = rw take_rest at c.in-Ok-Some.ensures in
    met_at_end c.args.raw.now c.loop-length.count c.loop-length.place c.loop-length.invariant.all c.in-Ok-Some.field-0-0 (ends ∙ ap (λ o. Ok o) c.in-Ok-Some.field-0-is)

pub returns-in-Err : goal.returns-in-Err
returns-in-Err c =
    let refused = rw take_rest at c.in-Err.ensures in
    met_if_refused c.args.raw.now c.loop-length.count c.loop-length.place c.loop-length.invariant.all c.in-Err.field-0 refused

pub returns-in_default : goal.returns-in_default
returns-in_default c =
    let ends = rw take_rest at c.in-Ok-None.ensures in
    let refused = rw take_rest at c.in_default.ensures.read in
    met_if_header_refused c.args.raw.now c.loop-length.count c.loop-length.place c.loop-length.invariant.all c.in_default.field-0 (ends ∙ ap (λ o. Ok o) c.in-Ok-None.field-0-is) refused

pub loop-length-preserved : goal.loop-length-preserved
loop-length-preserved c =
    let raw = c.args.raw.now in
    let place = c.loop-length.place in
    let ends = rw take_rest at c.in-Ok-None.ensures in
    let none = ends ∙ ap (λ o. Ok o) c.in-Ok-None.field-0-is in
    let found = rw take_rest at c.in-Ok.ensures.read in
    let header : Header × ℕ = (c.in-Ok.field-0-0, c.in-Ok.length) in
    let moves = place_further raw place header c.loop-length.invariant.within none found in
    let more = moves.0 in
    let fewer = c.loop-length.invariant.fewer in
    record {
      within = moves.1;
      fewer = omega arith;
      all = met_with-more raw c.loop-length.count place header none found ∙ c.loop-length.invariant.all;
    }
