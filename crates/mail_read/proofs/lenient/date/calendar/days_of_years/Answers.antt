use Rattle.std.proofs.Common.{arith}
use Rattle.mail_read.proofs.lemmas.lenient.Date.{days_of_years-closed}
use Rattle.mail_read.proofs.lenient.date.calendar.days_of_years.Goals as goal

pub returns-clause-value : goal.returns-clause-value
returns-clause-value c = omega (arith, days_of_years-closed c.args.count)
