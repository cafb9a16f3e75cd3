use Rattle.mail_check_laws.proofs.laws.strict_values.texts_are_strict.Goals as goal
use Rattle.mail_check_laws.proofs.lemmas.Charsets.{charset_strict}
use Rattle.mail_check_laws.proofs.lemmas.Texts.{text_strict}

pub returns-clause-charset : goal.returns-clause-charset
returns-clause-charset c = charset_strict

pub returns-clause-text : goal.returns-clause-text
returns-clause-text c = text_strict
