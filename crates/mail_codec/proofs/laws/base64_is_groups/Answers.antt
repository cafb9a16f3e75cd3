use Rattle.mail_codec.proofs.lemmas.Base64Law.{base64_reads, base64_faults}
use Rattle.mail_codec.proofs.laws.base64_is_groups.Goals as goal

pub returns-clause-read : goal.returns-clause-read
returns-clause-read c = base64_reads

pub returns-clause-faults : goal.returns-clause-faults
returns-clause-faults c = base64_faults
