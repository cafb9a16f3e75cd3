use Rattle.mail_clean.proofs.lemmas.MeantMails.{mail_meant}
use Rattle.mail_clean.proofs.laws.strict_mails.strict_types_are_meant.Goals as goal

pub returns : goal.returns
returns c = mail_meant
