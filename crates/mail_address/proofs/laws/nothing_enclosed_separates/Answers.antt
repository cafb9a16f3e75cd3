use Rattle.mail_address.proofs.lemmas.Enclosed.{enclosed-passed, pair-passed}
use Rattle.mail_address.proofs.laws.nothing_enclosed_separates.Goals as goal

pub returns : goal.returns
returns c = record { enclosed = enclosed-passed; quoted = pair-passed }
