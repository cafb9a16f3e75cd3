use Rattle.std.proofs.Common.{◌≡◌, true, sym, ◌∙◌}
use Rattle.std.proofs.lemmas.List.{nil_from_length}
use Rattle.std.proofs.lemmas.Str.{IsUtf8-past_char}
use Rattle.mail_read.proofs.lemmas.lenient.Repairs.{goes_on, missing-end, missing-next, missing-one, missing-stop, stops, stops-equals, stops-left, stops-semicolon}
use Rattle.mail_read.proofs.lenient.repairs.missing_apostrophes.Goals.{then-left-eq0-via-then-left-eq0, then-left-eq0-via-else-left-eq0+then-c-eq59, then-left-eq0-via-else-left-eq0+else-c-eq59+then-c-eq61}
use Rattle.mail_read.proofs.lenient.repairs.missing_apostrophes.Goals as goal

pub returns-then-left-eq0 : goal.returns-then-left-eq0
returns-then-left-eq0 c =
    let rest = c.loop-c.c-iterator.rest.now in
    let next = c.next.new.self.rest.now in
    let left = c.loop-c.left in
    let stop : stops left c.in-Some.c ≡ true = elim c.then-left-eq0.branch [
      | then-left-eq0-via-then-left-eq0 w ↦ stops-left left c.in-Some.c w.if-left-eq0.true
      | then-left-eq0-via-else-left-eq0+then-c-eq59 w ↦ stops-semicolon left c.in-Some.c w.if-left-eq0.false w.if-c-eq59.true
      | then-left-eq0-via-else-left-eq0+else-c-eq59+then-c-eq61 w ↦ stops-equals left c.in-Some.c w.if-left-eq0.false w.if-c-eq59.false w.if-c-eq61.true
    ] in
    sym (missing-stop rest next left c.in-Some.c c.loop-c.invariant.utf8 c.in-Some.ensures.steps.0 stop) ∙ c.loop-c.invariant.same

pub loop-c-preserved-then-c-eq39 : goal.loop-c-preserved-then-c-eq39
loop-c-preserved-then-c-eq39 c =
    let rest = c.loop-c.c-iterator.rest.now in
    let next = c.next.new.self.rest.now in
    let on = goes_on c.loop-c.left c.in-Some.c c.if-left-eq0.false c.if-c-eq59.false c.if-c-eq61.false in
    record {
      utf8 = IsUtf8-past_char rest next c.in-Some.c c.loop-c.invariant.utf8 c.in-Some.ensures.steps.0;
      same = missing-one rest next c.loop-c.left c.in-Some.c c.loop-c.invariant.utf8 c.in-Some.ensures.steps.0 on c.if-c-eq39.true
          ∙ c.loop-c.invariant.same;
    }

pub loop-c-preserved : goal.loop-c-preserved
loop-c-preserved c =
    let rest = c.loop-c.c-iterator.rest.now in
    let next = c.next.new.self.rest.now in
    let on = goes_on c.loop-c.left c.in-Some.c c.if-left-eq0.false c.if-c-eq59.false c.if-c-eq61.false in
    record {
      utf8 = IsUtf8-past_char rest next c.in-Some.c c.loop-c.invariant.utf8 c.in-Some.ensures.steps.0;
      same = missing-next rest next c.loop-c.left c.in-Some.c c.loop-c.invariant.utf8 c.in-Some.ensures.steps.0 on c.if-c-eq39.false
          ∙ c.loop-c.invariant.same;
    }

pub returns : goal.returns
returns c = sym (missing-end c.loop-c.c-iterator.rest.now c.loop-c.left (nil_from_length _ c.in-None.ensures.steps.0.0)) ∙ c.loop-c.invariant.same
