use Rattle.mail_laws.proofs.lemmas.CharsetSources.{candidates_formed}
use Rattle.mail_laws.proofs.laws.parameters.candidates_have_a_form.Goals as goal

pub returns : goal.returns
returns c = candidates_formed
