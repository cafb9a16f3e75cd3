use Rattle.mail_records.proofs.lemmas.Buffer.{ends_given}
use Rattle.mail_c.proofs.rocktray_file_name.Goals as goal

pub returns : goal.returns
returns c = (c.charsets.result, ends_given _ c.file_name.result _ _ _ _ _ c.file_name.ensures c.write_result.ensures)
