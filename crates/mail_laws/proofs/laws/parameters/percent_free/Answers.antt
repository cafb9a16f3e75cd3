use Rattle.mail_laws.proofs.lemmas.Percent as lemma
use Rattle.mail_laws.proofs.laws.parameters.percent_free.Goals as goal

pub returns : goal.returns
returns c = lemma.percent_free
