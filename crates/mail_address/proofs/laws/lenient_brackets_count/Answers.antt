use Rattle.mail_address.proofs.lemmas.Brackets.{brackets-count, brackets-have}
use Rattle.mail_address.proofs.laws.lenient_brackets_count.Goals as goal

pub returns : goal.returns
returns c = record { text = brackets-count; elements = brackets-have }
