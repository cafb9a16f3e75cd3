use Rattle.mail_laws.proofs.lemmas.LenientAgreement.{strict-mails-agree}
use Rattle.mail_laws.proofs.laws.manners.strict_mails_are_read_alike.Goals as goal

pub returns : goal.returns
returns c = strict-mails-agree
