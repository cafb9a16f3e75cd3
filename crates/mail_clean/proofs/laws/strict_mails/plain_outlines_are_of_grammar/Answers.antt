use Rattle.mail_clean.proofs.lemmas.PlainOutlines.{plain_is_mail}
use Rattle.mail_clean.proofs.laws.strict_mails.plain_outlines_are_of_grammar.Goals as goal

pub returns : goal.returns
returns c = plain_is_mail
