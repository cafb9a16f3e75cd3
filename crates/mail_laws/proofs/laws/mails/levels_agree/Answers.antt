use Rattle.mail_laws.proofs.lemmas.Mail.{read_mail_in-agrees, read_mail_in-limited}
use Rattle.mail_laws.proofs.laws.mails.levels_agree.Goals as goal

pub returns : goal.returns
returns c = record { read = read_mail_in-agrees; refused = read_mail_in-limited }
