use Rattle.mail_address.proofs.lemmas.MakeUp.{elements-make_up}
use Rattle.mail_address.proofs.laws.elements_make_up_the_text.Goals as goal

pub returns : goal.returns
returns c = elements-make_up
