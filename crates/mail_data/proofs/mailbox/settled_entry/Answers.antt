use Rattle.std.proofs.Common.{◌<◌, List, ℕ, length, sym, subst, ◌∙◌}
use Rattle.mail_data.specs.MailboxFormats.{length_in}
use Rattle.mail_data.proofs.lemmas.Mailbox.{next-shorter}
use Rattle.mail_data.proofs.mailbox.settled_entry.Goals as goal

pub returns-then-is_before_text-clause-shorter : goal.returns-then-is_before_text-clause-shorter
returns-then-is_before_text-clause-shorter c =
    subst (λ (rest : List ℕ). length rest < length c.args.bytes.now) (sym c.cut_entry-entry.ensures.after)
    (next-shorter (length_in c.args.format) c.args.bytes.now (sym c.is_separator.ensures ∙ c.if-not-is_separator.false))
