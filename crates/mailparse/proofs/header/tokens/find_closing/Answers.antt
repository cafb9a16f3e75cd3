use Rattle.std.proofs.Common.{◌≡◌, ◌≢◌, ◌<◌, ◌≤◌, ◌+◌, true, false, [], ◌∷◌, length, drop, sym, ◌∙◌, arith}
use Rattle.std.specs.Str.{chars}
use Rattle.mail_codec.specs.Places.{has_prefix, place_from}
use Rattle.mailparse.specs.Tokens.{begins_with_boundary}
use Rattle.mailparse.proofs.lemmas.Cuts.{closing_from_pair, closing_here, closing_next, boundary_after}
use Rattle.mailparse.proofs.lemmas.Tokens.{pair_within}
use Rattle.mailparse.proofs.header.tokens.find_closing.Goals as goal

pub loop-at-init : goal.loop-at-init
loop-at-init c =
    let found : place_from (has_prefix (63 ∷ 61 ∷ [])) c.args.line.now c.args.from ≡ c.find_two-at.result = cc in
    let p = closing_from_pair c.args.line.now c.args.from c.find_two-at.result c.requires.within found in
    record { in_line = p.0; found = p.1; same = p.2 }

pub range_from-requires : goal.range_from-requires
range_from-requires c = λ _.
    let some : c.loop-at.at ≢ length c.args.line.now = omega arith in
    let has_prefix = pair_within 63 61 c.args.line.now c.loop-at.at c.loop-at.at c.loop-at.invariant.in_line c.loop-at.invariant.found some in
    boundary_after c.args.line.now c.loop-at.at 61 c.utf8.line has_prefix.1 has_prefix.3 (omega arith)

pub returns-then-begins_with_boundary : goal.returns-then-begins_with_boundary
returns-then-begins_with_boundary c =
    let at : c.loop-at.at < length c.args.line.now = omega arith in
    let beside : begins_with_boundary (chars (drop (c.loop-at.at + 2) c.args.line.now)) ≡ true = cc in
    sym (closing_here c.args.line.now c.loop-at.at at c.loop-at.invariant.found beside) ∙ c.loop-at.invariant.same

pub loop-at-preserved : goal.loop-at-preserved
loop-at-preserved c =
    let at : c.loop-at.at < length c.args.line.now = omega arith in
    let beside : begins_with_boundary (chars (drop (c.loop-at.at + 2) c.args.line.now)) ≡ false = cc in
    let next : c.loop-at.at + 1 ≤ length c.args.line.now = omega arith in
    let found : place_from (has_prefix (63 ∷ 61 ∷ [])) c.args.line.now (c.loop-at.at + 1) ≡ c.find_two-at-in-loop-at.result = cc in
    let p = closing_from_pair c.args.line.now (c.loop-at.at + 1) c.find_two-at-in-loop-at.result next found in
    record {
      in_line = p.0;
      found = p.1;
      same = p.2 ∙ sym (closing_next c.args.line.now c.loop-at.at at beside) ∙ c.loop-at.invariant.same;
    }
