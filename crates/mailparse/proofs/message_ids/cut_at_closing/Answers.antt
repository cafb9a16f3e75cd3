use Rattle.std.proofs.Common.{lit<}
use Rattle.std.proofs.lemmas.Str.Pattern.{split_once_first}
use Rattle.mailparse.proofs.lemmas.MessageIds.{cut_from_closing}
use Rattle.mailparse.proofs.message_ids.cut_at_closing.Goals as goal

pub returns : goal.returns
returns c = cut_from_closing c.args.text.now _ (split_once_first 62 c.args.text.now _ c.split_once.ensures.cases (lit< tt))
