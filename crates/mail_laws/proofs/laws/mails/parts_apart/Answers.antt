use Rattle.mailparse.proofs.lemmas.Ranges.{cut_of-apart}
use Rattle.mailparse.proofs.lemmas.Block.{read_headers-bounded}
use Rattle.mail_laws.proofs.laws.mails.parts_apart.Goals as goal

pub returns : goal.returns
returns c = λ ctype bytes block read. cut_of-apart ctype bytes block.index (read_headers-bounded bytes block read).index
