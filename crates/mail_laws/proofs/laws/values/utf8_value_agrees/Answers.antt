use Rattle.mailparse.proofs.lemmas.ValuePlain.{strict_agrees, strict_succeeds}
use Rattle.mail_laws.proofs.laws.values.utf8_value_agrees.Goals as goal

pub returns : goal.returns
returns c = record { agrees = strict_agrees; succeeds = strict_succeeds }
