use Rattle.mail_laws.proofs.lemmas.Spans.{spans-cover}
use Rattle.mail_laws.proofs.laws.headers.block_covers.Goals as goal

pub returns : goal.returns
returns c = spans-cover
