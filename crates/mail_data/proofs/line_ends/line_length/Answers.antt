use Rattle.mail_data.proofs.lemmas.LineEnds.{line_length-some, line_length-none}
use Rattle.mail_data.proofs.line_ends.line_length.Goals as goal

pub returns-in-Some-clause-value : goal.returns-in-Some-clause-value
returns-in-Some-clause-value c = line_length-some c.args.bytes.now c.in-Some.place c.in-Some.ensures

pub returns-in-None-clause-value : goal.returns-in-None-clause-value
returns-in-None-clause-value c = line_length-none c.args.bytes.now c.in-None.ensures
