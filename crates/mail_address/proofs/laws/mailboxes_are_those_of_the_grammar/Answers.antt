use Rattle.mail_address.proofs.lemmas.GrammarLists.{elements-follow}
use Rattle.mail_address.proofs.lemmas.GrammarRead.{mailbox-one}
use Rattle.mail_address.proofs.laws.mailboxes_are_those_of_the_grammar.Goals as goal

pub returns : goal.returns
returns c = record { elements = elements-follow; one = mailbox-one }
