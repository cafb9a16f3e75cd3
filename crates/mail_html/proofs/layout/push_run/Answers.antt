use Rattle.std.proofs.Common.{◌∙◌, sym}
use Rattle.mail_html.proofs.lemmas.Layout.{run_pushed}
use Rattle.mail_html.proofs.layout.push_run.Goals as goal

pub returns-clause-pushed : goal.returns-clause-pushed
returns-clause-pushed c = rw (c.in_ok-extend_from_slice.ensures.items, c.in_ok-push_gap.ensures) (run_pushed c.args.text.now.items c.args.bytes.now c.args.before _ c.requires (sym c.is_ascii_whitespace.ensures.value ∙ c.if-is_ascii_whitespace.false) c.run_length-taken.ensures.value)
