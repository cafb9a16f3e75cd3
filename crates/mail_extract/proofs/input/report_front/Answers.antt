use Rattle.std.proofs.Common.{sym, ◌∙◌}
use Rattle.mail_extract.proofs.lemmas.Input.{front_clean, front_refused}
use Rattle.mail_extract.proofs.input.report_front.Goals as goal

pub returns-then-is_all_whitespace : goal.returns-then-is_all_whitespace
returns-then-is_all_whitespace g c = front_clean _ c.args.front.now _ (sym c.is_all_whitespace.ensures ∙ c.if-is_all_whitespace.true)

pub returns : goal.returns
returns g c = front_refused _ c.args.front.now _ _ _ (sym c.is_all_whitespace.ensures ∙ c.if-is_all_whitespace.false) c.report_refused.ensures
