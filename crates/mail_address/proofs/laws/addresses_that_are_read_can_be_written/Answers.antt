use Rattle.mail_address.specs.Accepted.{IsAccepted}
use Rattle.mail_address.proofs.lemmas.Accepted.{single-accepted}
use Rattle.mail_address.proofs.lemmas.GrammarLists.{addresses-have, named-have}
use Rattle.mail_address.proofs.laws.addresses_that_are_read_can_be_written.Goals as goal

pub returns : goal.returns
returns c = record { value = addresses-have IsAccepted single-accepted; headers = named-have IsAccepted single-accepted }
