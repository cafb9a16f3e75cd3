use Rattle.mail_check_laws.proofs.lemmas.Mails.{mail_strict}
use Rattle.mail_check_laws.proofs.laws.strict.clean_mails_are_strict.Goals as goal

pub returns : goal.returns
returns c = mail_strict
