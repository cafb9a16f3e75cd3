use Rattle.std.proofs.Common.{refl}
use Rattle.mail_address.proofs.lemmas.EncodeRead.{caller_knows}
use Rattle.mail_address.proofs.lemmas.WriterRead.{written-reads}
use Rattle.mail_address.proofs.laws.written_addresses_read_back.Goals as goal

pub returns : goal.returns
returns c = record { shown = λ known list knows texts able. written-reads known knows list texts able; four = refl; tables = caller_knows }
