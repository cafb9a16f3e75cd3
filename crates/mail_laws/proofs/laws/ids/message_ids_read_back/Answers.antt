use Rattle.mail_laws.proofs.lemmas.Ids.{reads_back, reads_only}
use Rattle.mail_laws.proofs.laws.ids.message_ids_read_back.Goals as goal

pub returns : goal.returns
returns c = record { read = reads_back; only = reads_only }
