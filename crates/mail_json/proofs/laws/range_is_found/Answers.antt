use Rattle.mail_json.proofs.lemmas.Range.{range_found}
use Rattle.mail_json.proofs.laws.range_is_found.Goals as goal

pub returns : goal.returns
returns c = range_found
