use Rattle.std.proofs.Common.{◌∷◌, ℕ, List, sym, ap, ◌∙◌, arith, length}
use Rattle.mail_data.specs.Mailbox.{Entry, next_by}
use Rattle.mail_data.specs.MailboxFormats.{entries_from_in, length_in}
use Rattle.mail_data.proofs.lemmas.Mailbox.{entries-none, entries-some}
use Rattle.mail_data.proofs.mailbox.MailboxIterator.next.Goals as goal

pub returns-then-not-is_separator-clause-steps : goal.returns-then-not-is_separator-clause-steps
returns-then-not-is_separator-clause-steps c =
    let none = entries-none (length_in c.args.self.now.format) c.args.self.now.rest.now (sym c.is_separator.ensures ∙ c.if-not-is_separator.true) in
    (none, none)

pub returns-clause-steps : goal.returns-clause-steps
returns-clause-steps c =
    let format = c.args.self.now.format in
    entries-some (length_in format) c.args.self.now.rest.now (sym c.is_separator.ensures ∙ c.if-not-is_separator.false)
    ∙ ap (λ (e : Entry). e ∷ entries_from_in format (next_by (length_in format) c.args.self.now.rest.now)) (sym c.cut_entry-entry.ensures.entry)
    ∙ ap (λ (r : List ℕ). c.cut_entry-entry.result.0 ∷ entries_from_in format r) (sym c.cut_entry-entry.ensures.after)

pub returns-clause-goes : goal.returns-clause-goes
returns-clause-goes c =
    let fewer = ap length (returns-clause-steps c) in
    record { on = λ _. (tt, tt, omega arith); keeps = tt; rests = λ _. tt }
