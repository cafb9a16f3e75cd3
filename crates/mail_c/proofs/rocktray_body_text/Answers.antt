use Rattle.mail_records.proofs.lemmas.Ranges.{ends_decoded}
use Rattle.mail_c.proofs.rocktray_body_text.Goals as goal

pub returns : goal.returns
returns c = (c.charsets.result, ends_decoded _ _ _ _ c.body_text-found.result _ c.body_text-found.ensures c.write_decoded.ensures)
