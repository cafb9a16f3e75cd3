use Rattle.mail_read.proofs.lemmas.lenient.Values.{plain-agree}
use Rattle.mail_read.proofs.lenient.laws.plain_values_agree.Goals as goal

pub returns : goal.returns
returns c = plain-agree
