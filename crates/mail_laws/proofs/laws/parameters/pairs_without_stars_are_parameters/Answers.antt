use Rattle.mail_laws.proofs.lemmas.StarFree.{star_free_pairs_are_parameters}
use Rattle.mail_laws.proofs.laws.parameters.pairs_without_stars_are_parameters.Goals as goal

pub returns : goal.returns
returns c = star_free_pairs_are_parameters
