use Rattle.mail_clean.proofs.lemmas.PlainValues.{disposition_read}
use Rattle.mail_clean.proofs.laws.parameters.plain_dispositions_are_read.Goals as goal

pub returns : goal.returns
returns c = disposition_read
