use Rattle.mail_json.proofs.lemmas.Range.{parts_lines}
use Rattle.mail_json.proofs.laws.parts_join.Goals as goal

pub returns : goal.returns
returns c = parts_lines
