use Rattle.std.proofs.Common.{None, lit<}
use Rattle.std.proofs.lemmas.Str.Pattern.{split_once_first}
use Rattle.mail_read.proofs.lemmas.lenient.Ids.{closing-none}
use Rattle.mail_read.proofs.lenient.ids.before_closing.Goals as goal

pub returns-in_default-clause-closed : goal.returns-in_default-clause-closed
returns-in_default-clause-closed c = closing-none c.args.text.now (split_once_first 62 c.args.text.now None c.in_default.ensures.cases (lit< tt))
