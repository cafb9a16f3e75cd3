use Rattle.std.proofs.lemmas.Str.Pattern.{split_once_first}
use Rattle.mail_data.proofs.lemmas.AddressEscapes.{cut_at-is, pieces-at}
use Rattle.mail_data.proofs.bounce.address_escapes.cut_at.Goals as goal

pub returns-clause-value : goal.returns-clause-value
returns-clause-value c =
    cut_at-is c.args.delimiter c.args.text.now _ (split_once_first c.args.delimiter c.args.text.now _ c.split_once.ensures.cases c.requires.ascii)

pub returns-clause-pieces : goal.returns-clause-pieces
returns-clause-pieces c =
    pieces-at c.args.delimiter c.args.text.now _ (split_once_first c.args.delimiter c.args.text.now _ c.split_once.ensures.cases c.requires.ascii)
