use Rattle.mail_address.proofs.lemmas.Groups.{group-alone, group-separated, groups-follow}
use Rattle.mail_address.proofs.laws.groups_are_those_of_the_grammar.Goals as goal

pub returns : goal.returns
returns c = record { elements = groups-follow; first = group-separated; alone = group-alone }
