use Rattle.mail_records.proofs.lemmas.Ranges.{ends_decoded}
use Rattle.mail_c.proofs.rocktray_body.Goals as goal

pub returns : goal.returns
returns c = ends_decoded _ _ _ _ c.body.result _ c.body.ensures c.write_decoded.ensures
