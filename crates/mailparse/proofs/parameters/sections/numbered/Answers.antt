use Rattle.std.proofs.Common.{Some, None, sym, ap, ◌∙◌, arith, option_map}
use Rattle.mailparse.proofs.lemmas.SectionsNumbers.{number_parsed, number_refused, numbered_no_star, numbered_cut, last_star}
use Rattle.mailparse.proofs.parameters.sections.numbered.Goals as goal

pub returns-in_err-base : goal.returns-in_err-base
returns-in_err-base c = ap (option_map (λ n. (n.0.now, n.1))) c.from_residual.ensures ∙ sym (numbered_no_star c.args.name.now c.in_err-base.ensures.cases)

pub returns-in-Ok : goal.returns-in-Ok
returns-in-Ok c =
    let s = c.in_ok-base.ensures.cases in
    let cut = last_star c.args.name.now s.0 s.1 s.2.0 s.2.1 (omega (arith, s.2.1.ends, s.7)) in
    sym (numbered_cut c.args.name.now c.in_ok-base.base.now c.in_ok-base.text.now (Some c.in-Ok.number)
    (cut.0, cut.1 ∙ sym s.3, cut.2 ∙ sym s.4) (number_parsed c.in_ok-base.text.now c.in-Ok.number c.in-Ok.ensures.value.0))

pub returns-in-Err : goal.returns-in-Err
returns-in-Err c =
    let s = c.in_ok-base.ensures.cases in
    let cut = last_star c.args.name.now s.0 s.1 s.2.0 s.2.1 (omega (arith, s.2.1.ends, s.7)) in
    sym (numbered_cut c.args.name.now c.in_ok-base.base.now c.in_ok-base.text.now None
    (cut.0, cut.1 ∙ sym s.3, cut.2 ∙ sym s.4) (number_refused c.in_ok-base.text.now c.in-Err.ensures.value.0))
