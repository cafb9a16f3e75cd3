use Rattle.mail_records.proofs.lemmas.Buffer.{ends_given}
use Rattle.mail_c.proofs.rocktray_unquoted.Goals as goal

pub returns : goal.returns
returns c = ends_given _ c.unquoted.result _ _ _ _ _ c.unquoted.ensures c.write_result.ensures
