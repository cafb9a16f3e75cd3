use Rattle.mail_records.proofs.lemmas.Buffer.{ends_given}
use Rattle.mail_c.proofs.rocktray_bounced_id.Goals as goal

pub returns : goal.returns
returns c = (c.charsets.result, ends_given _ c.bounced_id.result _ _ _ _ _ c.bounced_id.ensures c.write_result.ensures)
