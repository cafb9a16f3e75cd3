use Rattle.mail_laws.proofs.lemmas.Limits.{only_many, programs_only_many}
use Rattle.mail_laws.proofs.lemmas.Manners.{nothing-refused}
use Rattle.mail_laws.proofs.laws.manners.nothing_is_refused.Goals as goal

pub returns : goal.returns
returns c = record { read = nothing-refused; limited = only_many; programs = programs_only_many }
