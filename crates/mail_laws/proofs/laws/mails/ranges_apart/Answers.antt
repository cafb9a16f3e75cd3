use Rattle.mail_laws.proofs.lemmas.RangeTree.{ranges_in-nested, ranges_in-apart, ranges_in-once}
use Rattle.mail_laws.proofs.laws.mails.ranges_apart.Goals as goal

pub returns : goal.returns
returns c = record { nested = ranges_in-nested; apart = ranges_in-apart; once = ranges_in-once }
