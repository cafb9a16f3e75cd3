use Rattle.std.proofs.Common.{◌≡◌, false, true, sym, ◌∙◌}
use Rattle.std.proofs.lemmas.List.{nil_from_length}
use Rattle.std.proofs.lemmas.Str.{IsUtf8-past_char}
use Rattle.mail_read.specs.lenient.Repairs.{is_name}
use Rattle.mail_read.proofs.lemmas.lenient.Repairs.{ends_name-end, ends_name-next, ends_name-other}
use Rattle.mail_read.proofs.lenient.repairs.ends_name.Goals as goal

pub returns-then-not-is_name : goal.returns-then-not-is_name
returns-then-not-is_name c =
    let rest = c.loop-c.c-iterator.rest.now in
    let next = c.next.new.self.rest.now in
    let other : is_name c.in-Some.c ≡ false = sym c.is_name.ensures ∙ c.if-not-is_name.true in
    sym (ends_name-other rest next c.in-Some.c c.loop-c.invariant.utf8 c.in-Some.ensures.steps.0 other) ∙ c.loop-c.invariant.same

pub loop-c-preserved : goal.loop-c-preserved
loop-c-preserved c =
    let rest = c.loop-c.c-iterator.rest.now in
    let next = c.next.new.self.rest.now in
    let is : is_name c.in-Some.c ≡ true = sym c.is_name.ensures ∙ c.if-not-is_name.false in
    record {
      utf8 = IsUtf8-past_char rest next c.in-Some.c c.loop-c.invariant.utf8 c.in-Some.ensures.steps.0;
      same = ends_name-next rest next c.in-Some.c c.loop-c.invariant.utf8 c.in-Some.ensures.steps.0 is ∙ c.loop-c.invariant.same;
    }

pub returns : goal.returns
returns c = sym (ends_name-end c.loop-c.c-iterator.rest.now (nil_from_length _ c.in-None.ensures.steps.0.0)) ∙ c.loop-c.invariant.same
