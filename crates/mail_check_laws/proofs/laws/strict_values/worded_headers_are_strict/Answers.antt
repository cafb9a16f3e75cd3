use Rattle.mail_check_laws.proofs.laws.strict_values.worded_headers_are_strict.Goals as goal
use Rattle.mail_check_laws.proofs.lemmas.Worded.{sender_names, worded_names}

pub returns-clause-sender : goal.returns-clause-sender
returns-clause-sender c = sender_names

pub returns-clause-worded : goal.returns-clause-worded
returns-clause-worded c = worded_names
