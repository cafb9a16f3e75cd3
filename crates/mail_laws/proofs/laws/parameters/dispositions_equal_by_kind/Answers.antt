use Rattle.mail_laws.proofs.lemmas.Disposition.{equal_by_kind}
use Rattle.mail_laws.proofs.laws.parameters.dispositions_equal_by_kind.Goals as goal

pub returns : goal.returns
returns c = equal_by_kind
