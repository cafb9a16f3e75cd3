use Rattle.mail_records.proofs.lemmas.Buffer.{ends_given}
use Rattle.mail_c.proofs.rocktray_header.Goals as goal

pub returns : goal.returns
returns c = (c.charsets.result, ends_given _ c.value.result _ _ _ _ _ c.value.ensures c.write_result.ensures)
