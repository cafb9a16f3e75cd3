use Rattle.std.proofs.Common.{lit<}
use Rattle.std.proofs.lemmas.Str.Pattern.{split_once_first}
use Rattle.mail_read.proofs.lemmas.lenient.Ids.{opening-found, opening-pieces}
use Rattle.mail_read.proofs.lenient.ids.cut_at_opening.Goals as goal

pub returns-clause-pieces : goal.returns-clause-pieces
returns-clause-pieces c = opening-pieces c.args.text.now _ (split_once_first 60 c.args.text.now _ c.split_once.ensures.cases (lit< tt))

pub returns-clause-opened : goal.returns-clause-opened
returns-clause-opened c = opening-found c.args.text.now _ (split_once_first 60 c.args.text.now _ c.split_once.ensures.cases (lit< tt))
