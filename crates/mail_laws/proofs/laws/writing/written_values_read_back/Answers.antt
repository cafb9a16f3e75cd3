use Rattle.mail_address.proofs.lemmas.EncodeRead.{caller_reads, written_reads_back}
use Rattle.mail_laws.proofs.laws.writing.written_values_read_back.Goals as goal

pub returns : goal.returns
returns c = record { shown = written_reads_back; tables = caller_reads }
