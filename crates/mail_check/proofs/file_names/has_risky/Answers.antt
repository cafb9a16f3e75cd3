use Rattle.std.proofs.Common.{◌≡◌, Bool, true, false, ◌||◌, ◌∙◌, sym, ap}
use Rattle.std.specs.List.{list_any}
use Rattle.std.specs.Str.{chars}
use Rattle.std.proofs.lemmas.List.{nil_from_length}
use Rattle.std.proofs.lemmas.Str.{IsUtf8-past_char, chars-nil, chars_past_char}
use Rattle.mail_check.specs.FileNames.{is_risky}
use Rattle.mail_check.proofs.file_names.has_risky.Goals as goal

pub returns-then-is_risky : goal.returns-then-is_risky
returns-then-is_risky c =
    let rest = c.loop-c.c-iterator.rest.now in
    let next = c.next.new.self.rest.now in
    let past = chars_past_char rest next c.in-Some.c c.loop-c.invariant.utf8 c.in-Some.ensures.steps.0 in
    let is : is_risky c.in-Some.c ≡ true = sym c.is_risky.ensures ∙ c.if-is_risky.true in
    sym (ap (list_any is_risky) past ∙ ap (λ (b : Bool). b || list_any is_risky (chars next)) is) ∙ c.loop-c.invariant.same

pub loop-c-preserved : goal.loop-c-preserved
loop-c-preserved c =
    let rest = c.loop-c.c-iterator.rest.now in
    let next = c.next.new.self.rest.now in
    let past = chars_past_char rest next c.in-Some.c c.loop-c.invariant.utf8 c.in-Some.ensures.steps.0 in
    let is : is_risky c.in-Some.c ≡ false = sym c.is_risky.ensures ∙ c.if-is_risky.false in
    record {
      utf8 = IsUtf8-past_char rest next c.in-Some.c c.loop-c.invariant.utf8 c.in-Some.ensures.steps.0;
      same = sym (ap (list_any is_risky) past ∙ ap (λ (b : Bool). b || list_any is_risky (chars next)) is) ∙ c.loop-c.invariant.same;
    }

pub returns : goal.returns
returns c =
    let none = nil_from_length _ c.in-None.ensures.steps.0.0 in
    sym (ap (list_any is_risky) (ap chars none ∙ chars-nil)) ∙ c.loop-c.invariant.same
