use Rattle.mail_laws.proofs.lemmas.InnerMails.{part-bodies-at, parts-at}
use Rattle.mail_laws.proofs.laws.inside.parts_are_at_their_offsets.Goals as goal

pub returns : goal.returns
returns c = record { messages = parts-at; bodies = part-bodies-at }
