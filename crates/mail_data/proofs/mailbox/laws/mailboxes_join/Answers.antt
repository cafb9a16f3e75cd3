use Rattle.mail_data.proofs.lemmas.MailboxJoined.{entries-joined}
use Rattle.mail_data.proofs.mailbox.laws.mailboxes_join.Goals as goal

pub returns : goal.returns
returns c = λ first second opens ends follows. entries-joined first second opens ends follows
