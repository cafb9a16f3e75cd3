use Rattle.mailparse.proofs.lemmas.ContinuationsJoining.{joined_run}
use Rattle.mail_laws.proofs.lemmas.Runs.{walked}
use Rattle.mail_laws.proofs.laws.parameters.runs_are_read_once.Goals as goal

pub returns : goal.returns
returns c = record { walk = λ sections. (walked sections).0; adjacent = joined_run }
