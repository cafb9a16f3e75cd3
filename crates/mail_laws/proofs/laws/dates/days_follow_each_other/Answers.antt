use Rattle.mail_laws.proofs.lemmas.Date.{in_month, to_next_month, to_next_year}
use Rattle.mail_laws.proofs.laws.dates.days_follow_each_other.Goals as goal

pub returns : goal.returns
returns c = record { in_month = in_month; to_next_month = to_next_month; to_next_year = to_next_year }
