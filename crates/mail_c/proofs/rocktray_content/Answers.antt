use Rattle.mail_records.proofs.lemmas.Buffer.{ends_given}
use Rattle.mail_c.proofs.rocktray_content.Goals as goal

pub returns : goal.returns
returns c = ends_given _ c.content.result _ _ _ _ _ c.content.ensures c.write_result.ensures
