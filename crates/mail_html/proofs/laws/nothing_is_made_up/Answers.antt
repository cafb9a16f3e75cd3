use Rattle.mail_html.proofs.lemmas.Provenance.{linked_of, made_of}
use Rattle.mail_html.proofs.laws.nothing_is_made_up.Goals as goal

pub returns-clause-text : goal.returns-clause-text
returns-clause-text c = made_of

pub returns-clause-links : goal.returns-clause-links
returns-clause-links c = linked_of
