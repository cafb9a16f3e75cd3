use Rattle.mailparse.proofs.lemmas.Block.{read_header-bounds}
use Rattle.mail_laws.proofs.laws.headers.header_consumes.Goals as goal

pub returns : goal.returns
returns c = λ raw header taken e. read_header-bounds raw (header, taken) e
