use Rattle.mail_data.proofs.lemmas.QuotedLines.{plain-stays}
use Rattle.mail_data.proofs.mailbox.laws.plain_mail_stays.Goals as goal

pub returns : goal.returns
returns c = λ mail plain. plain-stays mail plain
