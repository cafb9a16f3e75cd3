use Rattle.mail_data.proofs.lemmas.MailboxFound.{front-stays}
use Rattle.mail_data.proofs.mailbox.laws.settled_front_stays.Goals as goal

pub returns : goal.returns
returns c = λ read more is. front-stays read more is
