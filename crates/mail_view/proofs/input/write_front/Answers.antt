use Rattle.std.proofs.Common.{sym, ◌∙◌}
use Rattle.mail_view.proofs.lemmas.Input.{front_written}
use Rattle.mail_view.proofs.input.write_front.Goals as goal

pub returns : goal.returns
returns g c = front_written _ _ _ _ (sym c.is_all_whitespace.ensures ∙ c.if-is_all_whitespace.false) c.in_ok-write_refusal.ensures c.in_ok-write_empty_line.ensures
