use Rattle.mail_check.proofs.lemmas.Paths.{paths_are_of_parts}
use Rattle.mail_check.proofs.laws.findings_have_the_paths_of_their_parts.Goals as goal

pub returns : goal.returns
returns c = paths_are_of_parts
