use Rattle.mail_laws.proofs.lemmas.Placement.{placements-ranges, placements-bytes, placements-bodies}
use Rattle.mail_laws.proofs.laws.mails.placements_are_exact.Goals as goal

pub returns : goal.returns
returns c = record { ranges = λ known greatest mail parsed ranges read found. placements-ranges known greatest mail parsed read ranges found; messages = placements-bytes; bodies = placements-bodies }
