use Rattle.mail_records.proofs.lemmas.Buffer.{ends_given}
use Rattle.mail_c.proofs.rocktray_ids.Goals as goal

pub returns : goal.returns
returns c = ends_given _ c.ids.result _ _ _ _ _ c.ids.ensures c.write_result.ensures
