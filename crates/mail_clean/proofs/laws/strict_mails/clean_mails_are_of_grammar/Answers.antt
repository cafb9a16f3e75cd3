use Rattle.mail_clean.proofs.lemmas.WholeMails.{clean_is_mail, mail_is_clean}
use Rattle.mail_clean.proofs.laws.strict_mails.clean_mails_are_of_grammar.Goals as goal

pub returns : goal.returns
returns c = record { read = clean_is_mail; clean = mail_is_clean }
