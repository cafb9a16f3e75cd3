use Rattle.mail_check_laws.proofs.lemmas.Inside.{within_strict}
use Rattle.mail_check_laws.proofs.laws.strict.clean_mails_are_strict_inside.Goals as goal

pub returns : goal.returns
returns c = within_strict
