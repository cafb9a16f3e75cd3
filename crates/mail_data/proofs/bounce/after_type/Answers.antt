use Rattle.std.proofs.Common.{None, lit<}
use Rattle.std.proofs.lemmas.Str.Pattern.{split_once_first}
use Rattle.mail_data.proofs.lemmas.Bounce.{after_type-none}
use Rattle.mail_data.proofs.bounce.after_type.Goals as goal

pub returns-in-None : goal.returns-in-None
returns-in-None c = after_type-none c.args.text.now (split_once_first 59 c.args.text.now None c.in-None.ensures.cases (lit< tt))
