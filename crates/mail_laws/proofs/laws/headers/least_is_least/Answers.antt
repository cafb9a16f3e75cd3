use Rattle.mail_laws.proofs.lemmas.Least.{least-is_least, least-only}
use Rattle.mail_laws.proofs.laws.headers.least_is_least.Goals as goal

pub returns : goal.returns
returns c = record { least = least-is_least; only = least-only }
