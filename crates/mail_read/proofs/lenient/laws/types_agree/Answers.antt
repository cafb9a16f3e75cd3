use Rattle.mail_read.proofs.lemmas.lenient.Agreement.{types-agree, values-agree}
use Rattle.mail_read.proofs.lenient.laws.types_agree.Goals as goal

pub returns : goal.returns
returns c = record { texts = types-agree; values = values-agree }
