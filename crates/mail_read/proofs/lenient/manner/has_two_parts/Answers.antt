use Rattle.std.proofs.Common.{Some, lit<}
use Rattle.std.proofs.lemmas.Bool.{and_from}
use Rattle.std.proofs.lemmas.Str.Pattern.{split_once_first}
use Rattle.mail_read.proofs.lemmas.lenient.Manner.{lenient_name-two}
use Rattle.mail_read.proofs.lenient.manner.has_two_parts.Goals as goal

pub returns-then-is_trimmed : goal.returns-then-is_trimmed
returns-then-is_trimmed c = λ second.
    let parts = split_once_first 47 c.args.name.now (Some (c.in-Some.main, c.in-Some.sub)) c.in-Some.ensures.cases (lit< tt) in
    lenient_name-two c.args.name.now _ _ parts.0 parts.1 parts.2
    (and_from _ _ (c.is_trimmed.ensures c.if-is_trimmed.true) (c.is_trimmed-then-is_trimmed.ensures second))
