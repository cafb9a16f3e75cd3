use Rattle.std.proofs.Common.{refl, sym, ◌∙◌}
use Rattle.mail_data.proofs.lemmas.Mailbox.{front_length-none, front_length-some}
use Rattle.mail_data.proofs.mailbox.front_length.Goals as goal

pub returns-then-is_separator-clause-value : goal.returns-then-is_separator-clause-value
returns-then-is_separator-clause-value c = front_length-none c.args.bytes.now (sym c.if-is_separator.true ∙ c.is_separator.ensures)

pub returns-clause-value : goal.returns-clause-value
returns-clause-value c =
    front_length-some c.args.bytes.now _ c.mail_length-length.result c.empty_line.result (sym c.if-is_separator.false ∙ c.is_separator.ensures)
    c.mail_length-length.ensures.value refl c.empty_line.ensures.value
