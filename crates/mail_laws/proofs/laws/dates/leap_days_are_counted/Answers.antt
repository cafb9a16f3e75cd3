use Rattle.mail_laws.proofs.lemmas.Date.{leap_days}
use Rattle.mail_laws.proofs.laws.dates.leap_days_are_counted.Goals as goal

pub returns : goal.returns
returns c = leap_days
