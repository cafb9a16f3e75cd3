use Rattle.mail_records.proofs.lemmas.Buffer.{ends_given}
use Rattle.mail_c.proofs.rocktray_raw_header.Goals as goal

pub returns : goal.returns
returns c = ends_given _ c.raw_value.result _ _ _ _ _ c.raw_value.ensures c.write_result.ensures
