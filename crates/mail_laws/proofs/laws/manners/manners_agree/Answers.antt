use Rattle.mail_laws.proofs.lemmas.Manners.{strict-same, mails-agree}
use Rattle.mail_laws.proofs.laws.manners.manners_agree.Goals as goal

pub returns : goal.returns
returns c = record { strict = strict-same; others = mails-agree }
