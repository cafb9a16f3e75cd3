use Rattle.std.proofs.Common.{Some, None, lit<}
use Rattle.std.proofs.lemmas.Str.Pattern.{split_once_first}
use Rattle.mail_read.proofs.lemmas.FileTexts.{untagged-one}
use Rattle.mail_read.proofs.files.left_over.untagged.Goals as goal

pub returns-in-None : goal.returns-in-None
returns-in-None c =
    let first = split_once_first 39 c.args.value.now (Some (c.in-Some.field-0-0, c.in-Some.rest)) c.in-Some.ensures.cases (lit< tt) in
    untagged-one c.args.value.now c.in-Some.rest.now (split_once_first 39 c.in-Some.rest.now None c.in-None.ensures.cases (lit< tt)) first.2
