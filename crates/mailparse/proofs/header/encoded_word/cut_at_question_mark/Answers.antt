use Rattle.std.proofs.Common.{lit<}
use Rattle.std.proofs.lemmas.Str.Pattern.{split_once_first}
use Rattle.mailparse.proofs.lemmas.EncodedWord.{cut_from_split}
use Rattle.mailparse.proofs.header.encoded_word.cut_at_question_mark.Goals as goal

pub returns : goal.returns
returns c = cut_from_split c.args.text.now _ (split_once_first 63 c.args.text.now _ c.split_once.ensures.cases (lit< tt))
