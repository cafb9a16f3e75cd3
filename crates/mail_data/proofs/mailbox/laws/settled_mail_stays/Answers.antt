use Rattle.mail_data.proofs.lemmas.MailboxFormats.{settled_in-stays}
use Rattle.mail_data.proofs.mailbox.laws.settled_mail_stays.Goals as goal

pub returns : goal.returns
returns c = λ format read more rest entry is. settled_in-stays format read more rest entry is
