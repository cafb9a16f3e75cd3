use Rattle.mailparse.proofs.lemmas.Bound.{read_mail_in-bounded}
use Rattle.mail_laws.proofs.laws.mails.nodes_bounded.Goals as goal

pub returns : goal.returns
returns c = read_mail_in-bounded
