use Rattle.mail_clean.proofs.lemmas.PlainValues.{type_read}
use Rattle.mail_clean.proofs.laws.parameters.plain_types_are_read.Goals as goal

pub returns : goal.returns
returns c = type_read
