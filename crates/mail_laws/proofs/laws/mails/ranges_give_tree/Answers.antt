use Rattle.mail_laws.proofs.lemmas.RangeTree.{ranges_in-there}
use Rattle.mail_laws.proofs.laws.mails.ranges_give_tree.Goals as goal

pub returns : goal.returns
returns c = ranges_in-there
