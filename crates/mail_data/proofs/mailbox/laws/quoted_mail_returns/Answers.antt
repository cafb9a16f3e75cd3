use Rattle.mail_data.proofs.lemmas.QuotedLines.{quoted-returns}
use Rattle.mail_data.proofs.mailbox.laws.quoted_mail_returns.Goals as goal

pub returns : goal.returns
returns c = λ mail. quoted-returns mail
