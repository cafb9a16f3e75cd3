use Rattle.mail_data.proofs.lemmas.MailboxOffsets.{all-there, range-there}
use Rattle.mail_data.proofs.mailbox.laws.mails_are_at_their_offsets.Goals as goal

pub returns : goal.returns
returns c = record { all = all-there; range = range-there }
