use Rattle.mail_address.specs.Addresses.{addresses}
use Rattle.mail_address.specs.Lenient.{joined}
use Rattle.mail_address.proofs.lemmas.Lenient.{lenient-in_order}
use Rattle.mail_address.proofs.lemmas.LenientCommas.{joined-in_order}
use Rattle.mail_address.proofs.lemmas.MakeUp.{elements-in_order}
use Rattle.mail_address.proofs.laws.lenient_elements_are_in_order.Goals as goal

pub returns : goal.returns
returns c = λ raw. lenient-in_order 0 raw (joined raw (addresses raw)) (joined-in_order raw 0 (addresses raw) (elements-in_order raw))
