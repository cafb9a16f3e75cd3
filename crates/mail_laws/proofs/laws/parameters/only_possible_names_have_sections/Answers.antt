use Rattle.mail_laws.proofs.lemmas.CharsetSources.{looked_at}
use Rattle.mail_laws.proofs.laws.parameters.only_possible_names_have_sections.Goals as goal

pub returns : goal.returns
returns c = looked_at
