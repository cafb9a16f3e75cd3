use Rattle.std.proofs.Common.{inl, inr, refl, sym, ◌∙◌}
use Rattle.mail_read.proofs.lemmas.lenient.Usual.{at_byte, usual-name}
use Rattle.mail_read.proofs.lenient.usual.name_start.Goals as goal

pub returns-then-is_at-clause-same : goal.returns-then-is_at-clause-same
returns-then-is_at-clause-same c = usual-name c.args.bytes.now c.args.at (sym c.is_at.ensures ∙ c.if-is_at.true)

pub returns-then-is_at-clause-cut : goal.returns-then-is_at-clause-cut
returns-then-is_at-clause-cut c = inr (at_byte 32 c.args.bytes.now c.args.at (sym c.is_at.ensures ∙ c.if-is_at.true))

pub returns-else-is_at-clause-cut : goal.returns-else-is_at-clause-cut
returns-else-is_at-clause-cut c = inl refl
