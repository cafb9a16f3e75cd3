use Rattle.mail_records.proofs.lemmas.Buffer.{ends_given}
use Rattle.mail_c.proofs.rocktray_safe_name.Goals as goal

pub returns : goal.returns
returns c = ends_given _ c.safe_name.result _ _ _ _ _ c.safe_name.ensures c.write_result.ensures
