use Rattle.std.proofs.Common.{sym, ◌∙◌, arith}
use Rattle.mail_read.proofs.lemmas.lenient.Usual.{run-step, run-stop}
use Rattle.mail_read.proofs.lenient.usual.run_end.Goals as goal

pub loop-at-preserved : goal.loop-at-preserved
loop-at-preserved c =
    let next = run-step c.args.bytes.now c.loop-at.at (sym c.is_in_run.ensures ∙ c.loop-at-test.true) in
    record { within = omega (arith, next.0); same = sym next.1 ∙ c.loop-at.invariant.same }

pub returns-clause-end : goal.returns-clause-end
returns-clause-end c =
    sym (run-stop c.args.bytes.now c.loop-at.at c.loop-at.invariant.within (sym c.is_in_run.ensures ∙ c.loop-at-test.false)) ∙ c.loop-at.invariant.same
