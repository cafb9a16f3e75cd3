-- The bytes taken so far and those that the run takes of the rest are the whole run.
use Rattle.std.proofs.Common.{length}
use Rattle.mail_address.proofs.lemmas.Tokens.{RunsTo}
use Rattle.mail_address.proofs.tokens.far.Given as goal

abbrev pub invariant-steps : goal.invariant-steps
invariant-steps g l = RunsTo (g.S.Steps.passes l.step) l.bytes l.rest

abbrev pub decreases-steps : goal.decreases-steps
decreases-steps g l = length l.rest
