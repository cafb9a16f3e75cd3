use Rattle.std.proofs.Common.{lit<}
use Rattle.std.proofs.lemmas.Str.Pattern.{ends_char}
use Rattle.mail_data.proofs.lemmas.Flowed.{ends-decided}
use Rattle.mail_data.proofs.flowed.ends_in_space.Goals as goal

pub returns : goal.returns
returns c = ends-decided 32 c.args.text.now c.ends_with.result (ends_char 32 c.args.text.now c.ends_with.result c.ends_with.ensures.cases (lit< tt))
