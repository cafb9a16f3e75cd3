use Rattle.std.proofs.Common.{sym, ◌∙◌}
use Rattle.mail_read.proofs.lemmas.lenient.Usual.{usual-type, usual-value}
use Rattle.mail_read.proofs.lemmas.lenient.UsualTypes.{one-word, two-words}
use Rattle.mail_read.proofs.lenient.usual.words_end.Goals as goal

pub returns-then-not-is_at-clause-usual : goal.returns-then-not-is_at-clause-usual
returns-then-not-is_at-clause-usual c = usual-value c.args.bytes.now c.run_end-first.result c.run_end-first.ensures.end

pub returns-clause-usual : goal.returns-clause-usual
returns-clause-usual c =
    usual-type c.args.bytes.now c.run_end-first.result c.run_end.result c.run_end-first.ensures.end (sym c.is_at.ensures ∙ c.if-not-is_at.false) c.run_end.ensures.end

pub returns-then-not-is_at-clause-value : goal.returns-then-not-is_at-clause-value
returns-then-not-is_at-clause-value c = one-word c.args.bytes.now c.run_end-first.result c.run_end-first.ensures.end

pub returns-clause-value : goal.returns-clause-value
returns-clause-value c =
    two-words c.args.bytes.now c.run_end-first.result c.run_end.result c.run_end-first.ensures.end (sym c.is_at.ensures ∙ c.if-not-is_at.false) c.run_end.ensures.end
    c.run_end.ensures.bounds
