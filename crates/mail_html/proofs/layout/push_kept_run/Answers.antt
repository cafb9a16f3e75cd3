use Rattle.std.proofs.Common.{arith}
use Rattle.mail_html.proofs.lemmas.Layout.{kept_pushed}
use Rattle.mail_html.proofs.layout.push_kept_run.Goals as goal

pub returns-clause-pushed : goal.returns-clause-pushed
returns-clause-pushed c = rw (c.in_ok-extend_from_slice.ensures.items, c.in_ok-push_gap.ensures) (kept_pushed c.args.text.now.items c.args.bytes.now c.args.before _ (omega (arith, c.if-taken-eq0.false)) c.kept_length-taken.ensures.value)
