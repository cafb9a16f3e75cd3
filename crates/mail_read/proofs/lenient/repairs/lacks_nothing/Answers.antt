use Rattle.std.proofs.Common.{◌≡◌, false, true, sym, ◌∙◌}
use Rattle.std.proofs.lemmas.List.{nil_from_length}
use Rattle.std.proofs.lemmas.Str.{IsUtf8-past_char}
use Rattle.mail_read.specs.lenient.Repairs.{may_follow}
use Rattle.mail_read.proofs.lemmas.lenient.Repairs.{lacks-end, lacks-next, lacks-stop}
use Rattle.mail_read.proofs.lenient.repairs.lacks_nothing.Goals as goal

pub returns-then-not-may_follow : goal.returns-then-not-may_follow
returns-then-not-may_follow c =
    let rest = c.loop-c.c-iterator.rest.now in
    let next = c.next.new.self.rest.now in
    let other : may_follow c.loop-c.position c.in-Some.c ≡ false = sym c.may_follow.ensures ∙ c.if-not-may_follow.true in
    sym (lacks-stop rest next c.loop-c.position c.in-Some.c c.loop-c.invariant.utf8 c.in-Some.ensures.steps.0 other) ∙ c.loop-c.invariant.same

pub loop-c-preserved : goal.loop-c-preserved
loop-c-preserved c =
    let rest = c.loop-c.c-iterator.rest.now in
    let next = c.next.new.self.rest.now in
    let is : may_follow c.loop-c.position c.in-Some.c ≡ true = sym c.may_follow.ensures ∙ c.if-not-may_follow.false in
    record {
      utf8 = IsUtf8-past_char rest next c.in-Some.c c.loop-c.invariant.utf8 c.in-Some.ensures.steps.0;
      same = lacks-next rest next c.loop-c.position _ c.in-Some.c c.loop-c.invariant.utf8 c.in-Some.ensures.steps.0 is c.after-position.ensures
          ∙ c.loop-c.invariant.same;
    }

pub returns : goal.returns
returns c =
    c.is_empty.ensures
    ∙ lacks-end c.loop-c.position c.loop-c.c-iterator.rest.now c.missing_at_end.result.now (nil_from_length _ c.in-None.ensures.steps.0.0) c.missing_at_end.ensures
    ∙ c.loop-c.invariant.same
