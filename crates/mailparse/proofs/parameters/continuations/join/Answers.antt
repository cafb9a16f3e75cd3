use Rattle.std.proofs.Common.{◌≡◌, ◌<◌, ◌-◌, ◌^◌, length, Some, None, cond, sym, ap, ◌∙◌, arith}
use Rattle.std.proofs.lemmas.Result.{IfOk-weaker}
use Rattle.std.specs.Str.{bytes_eq}
use Rattle.mailparse.specs.Continuations.{joined, most_sections, sections_of}
use Rattle.mailparse.specs.Sections.{section_name}
use Rattle.mailparse.specs.private.Continuations.{joined_with, without_sections}
use Rattle.mailparse.specs.private.Sections.{section_view, stored_section}
use Rattle.mailparse.proofs.lemmas.ContinuationsJoining.{most, sections_are, sections_none, sections_some, sections_end}
use Rattle.mailparse.proofs.lemmas.ContinuationsTaken.{next_stands, taken_next, taken_none}
use Rattle.mailparse.proofs.parameters.continuations.join.Goals as goal

pub returns-in_default : goal.returns-in_default
returns-in_default g c =
    let at = stored_section g.C.Decode.text c.args.sections.now in
    let base = c.args.base.now in
    let count = c.loop-count.count in
    let below : count < 2 ^ 64 = let l = c.loop-count-test.true in omega (arith, l) in
    let name : c.as_str.result.now ≡ section_name base count = c.as_str.ensures.value ∙ c.in_ok-name.ensures.ok in
    let none = sym (next_stands at (stored_section g.C.Decode.text c.loop-count.sections) base count below c.loop-count.invariant.left) ∙ ap (stored_section g.C.Decode.text c.loop-count.sections) (sym name)
    ∙ sym c.in_default.ensures.taken in
    let end = sections_none at base (most_sections - count) count none in
    let long = ap length end in
    let whole : count ≡ length (sections_of at base) = omega (arith, long, c.loop-count.invariant.count, ap length (sections_are at base)) in
    record {
      text = IfOk-weaker c.finish.result _ _ (λ text is. is ∙ ap (joined_with g.C.Decode.text c.loop-count.joining) (sym end) ∙ c.loop-count.invariant.text ∙ ap joined (sym (sections_are at base))) c.finish.ensures;
      left = IfOk-weaker c.finish.result _ _
          (λ text is q.
          taken_none at base count q (stored_section g.C.Decode.text c.loop-count.sections q) _ (c.loop-count.invariant.left q) none
          (c.in_default.ensures.left q ∙ ap (λ n. cond (bytes_eq n q) None (stored_section g.C.Decode.text c.loop-count.sections q)) name)
          ∙ ap (λ n. without_sections at base n q) whole)
          c.finish.ensures;
    }

pub loop-count-preserved : goal.loop-count-preserved
loop-count-preserved g c =
    let at = stored_section g.C.Decode.text c.args.sections.now in
    let base = c.args.base.now in
    let count = c.loop-count.count in
    let below : count < 2 ^ 64 = let l = c.loop-count-test.true in omega (arith, l) in
    let name : c.as_str.result.now ≡ section_name base count = c.as_str.ensures.value ∙ c.in_ok-name.ensures.ok in
    let some : at (section_name base count) ≡ Some (section_view g.C.Decode.text c.in-Some.section) =
    sym (next_stands at (stored_section g.C.Decode.text c.loop-count.sections) base count below c.loop-count.invariant.left) ∙ ap (stored_section g.C.Decode.text c.loop-count.sections) (sym name)
    ∙ sym c.in-Some.ensures.taken in
    let step = sections_some at base most_sections count (section_view g.C.Decode.text c.in-Some.section) (omega (arith, most, c.loop-count-test.true)) some in
    record {
      bound = omega (arith, c.loop-count-test.true);
      left = λ q.
          taken_next at base count q (stored_section g.C.Decode.text c.loop-count.sections q) _ below (c.loop-count.invariant.left q)
          (c.in-Some.ensures.left q ∙ ap (λ n. cond (bytes_eq n q) None (stored_section g.C.Decode.text c.loop-count.sections q)) name);
      text = sym (c.in_ok-push.ensures _) ∙ ap (joined_with g.C.Decode.text c.loop-count.joining) (sym step) ∙ c.loop-count.invariant.text;
      count = let long = ap length step in omega (arith, long, c.loop-count.invariant.count);
    }

pub returns : goal.returns
returns g c =
    let at = stored_section g.C.Decode.text c.args.sections.now in
    let base = c.args.base.now in
    let end = sections_end at base most_sections c.loop-count.count (omega (arith, most, c.loop-count-test.false)) in
    let long = ap length end in
    let whole : c.loop-count.count ≡ length (sections_of at base) = omega (arith, long, c.loop-count.invariant.count, ap length (sections_are at base)) in
    record {
      text = IfOk-weaker c.finish-2.result _ _ (λ text is. is ∙ ap (joined_with g.C.Decode.text c.loop-count.joining) (sym end) ∙ c.loop-count.invariant.text ∙ ap joined (sym (sections_are at base))) c.finish-2.ensures;
      left = IfOk-weaker c.finish-2.result _ _ (λ text is q. c.loop-count.invariant.left q ∙ ap (λ n. without_sections at base n q) whole) c.finish-2.ensures;
    }
