use Rattle.std.proofs.Common.{refl}
use Rattle.mail_read.proofs.lemmas.lenient.Agreement.{kept-deep, kept-refused}
use Rattle.mail_read.proofs.lenient.laws.refusals_are_reported.Goals as goal

pub returns-clause-whole : goal.returns-clause-whole
returns-clause-whole c = λ bytes. (refl, refl)

pub returns-clause-refused : goal.returns-clause-refused
returns-clause-refused c = kept-refused

pub returns-clause-deep : goal.returns-clause-deep
returns-clause-deep c = kept-deep
