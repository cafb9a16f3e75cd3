use Rattle.mailparse.proofs.lemmas.Bound.{read_mail_as-bounded}
use Rattle.mail_laws.proofs.lemmas.RangeTree.{ranges_as-there, ranges_as-nested, ranges_as-apart}
use Rattle.mail_laws.proofs.laws.manners.manners_keep_ranges.Goals as goal

pub returns : goal.returns
returns c = record { there = ranges_as-there; nested = ranges_as-nested; apart = ranges_as-apart; bounded = read_mail_as-bounded }
