use Rattle.mail_clean.proofs.lemmas.CleanMails.{clean_mails_agree}
use Rattle.mail_clean.proofs.laws.manners.clean_mails_are_read_alike.Goals as goal

pub returns : goal.returns
returns c = clean_mails_agree
