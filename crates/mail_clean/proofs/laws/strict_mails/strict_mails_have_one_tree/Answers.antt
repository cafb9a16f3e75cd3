use Rattle.mail_clean.proofs.lemmas.WholeMails.{mail_is_read, message_read, one_mail, one_message}
use Rattle.mail_clean.proofs.laws.strict_mails.strict_mails_have_one_tree.Goals as goal

pub returns : goal.returns
returns c = record { messages = message_read; read = mail_is_read; one_message = one_message; unique = one_mail }
