use Rattle.mail_address.specs.Accepted.{IsAccepted}
use Rattle.mail_address.proofs.lemmas.Lenient.{all_accepted, lenient-have, lenient_named-have}
use Rattle.mail_address.proofs.laws.lenient_addresses_can_be_written.Goals as goal

pub returns : goal.returns
returns c = record { value = lenient-have IsAccepted all_accepted; headers = lenient_named-have IsAccepted all_accepted }
