use Rattle.mail_data.proofs.lemmas.MailboxRange.{range-found}
use Rattle.mail_data.proofs.mailbox.laws.mailbox_range_stays.Goals as goal

pub returns : goal.returns
returns c = λ bytes from to within. range-found bytes from to within
