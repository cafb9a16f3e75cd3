use Rattle.mailparse.proofs.lemmas.ValuePlain.{lenient_value-plain}
use Rattle.mail_laws.proofs.laws.values.plain_value_reads_as_itself.Goals as goal

pub returns : goal.returns
returns c = lenient_value-plain
