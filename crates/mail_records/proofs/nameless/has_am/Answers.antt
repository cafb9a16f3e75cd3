use Rattle.std.proofs.Common.{◌||◌, ◌+◌, length, drop, sym, ap, ◌∙◌, arith, length-drop}
use Rattle.std.proofs.lemmas.List.{take_rest}
use Rattle.mail_records.specs.Nameless.{has_am_after}
use Rattle.mail_records.proofs.lemmas.Nameless.{am-found, am-not_found}
use Rattle.mail_records.proofs.nameless.has_am.Goals as goal

pub returns-then-is_a_before : goal.returns-then-is_a_before
returns-then-is_a_before c =
    let rest = drop (c.in-Some.place + 1) c.letters.rest.now in
    let at = am-found c.args.text.now c.letters.rest.now c.in-Some.place (sym c.in-Some.is ∙ c.find_either.ensures) c.letters.invariant.same in
    sym (at.0 ∙ ap (λ t. t || has_am_after 0 rest) (sym c.is_a_before.ensures ∙ c.if-is_a_before.true))

pub overflow_add-rest : goal.overflow_add-rest
overflow_add-rest c =
    let at = am-found c.args.text.now c.letters.rest.now c.in-Some.place (sym c.in-Some.is ∙ c.find_either.ensures) c.letters.invariant.same in
    omega (arith, at.1, c.letters.invariant.shorter)

pub letters-preserved : goal.letters-preserved
letters-preserved c =
    let next = c.in-Some.place + 1 in
    let at = am-found c.args.text.now c.letters.rest.now c.in-Some.place (sym c.in-Some.is ∙ c.find_either.ensures) c.letters.invariant.same in
    let whole = take_rest c.letters.rest.now next in
    let cut = length-drop next c.letters.rest.now in
    record {
      shorter = omega (arith, cut, ap length whole, c.letters.invariant.shorter);
      same = ap (has_am_after 0) whole
          ∙ sym (at.0 ∙ ap (λ t. t || has_am_after 0 (drop next c.letters.rest.now)) (sym c.is_a_before.ensures ∙ c.if-is_a_before.false));
    }

pub returns : goal.returns
returns c = am-not_found c.args.text.now c.letters.rest.now (sym c.in_default.is ∙ c.find_either.ensures) c.letters.invariant.same
