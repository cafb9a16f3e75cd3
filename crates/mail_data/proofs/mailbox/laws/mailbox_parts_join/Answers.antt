use Rattle.mail_data.proofs.lemmas.MailboxParts.{parts-joined}
use Rattle.mail_data.proofs.mailbox.laws.mailbox_parts_join.Goals as goal

pub returns : goal.returns
returns c = λ bytes count some. parts-joined bytes count some
