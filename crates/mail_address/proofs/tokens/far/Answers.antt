use Rattle.std.proofs.lemmas.List.{take_rest}
use Rattle.mail_address.proofs.lemmas.Tokens.{RunsTo-more, RunsTo-end}
use Rattle.mail_address.proofs.tokens.far.Goals as goal

pub steps-preserved : goal.steps-preserved
steps-preserved g c = RunsTo-more _ _ c.steps.rest.now _ c.pass-len.result c.steps.invariant c.pass-len.ensures.value c.if-len-eq0.false c.pass-len.ensures.bounds (take_rest c.steps.rest.now c.pass-len.result)

pub returns-then-len-eq0-clause-value : goal.returns-then-len-eq0-clause-value
returns-then-len-eq0-clause-value g c = RunsTo-end _ _ c.steps.rest.now c.pass-len.result c.steps.invariant c.pass-len.ensures.value c.if-len-eq0.true
