use Rattle.mail_address.proofs.lemmas.MakeUp.{elements-in_order}
use Rattle.mail_address.proofs.laws.elements_are_in_order.Goals as goal

pub returns : goal.returns
returns c = elements-in_order
