use Rattle.mail_records.proofs.lemmas.Buffer.{ends_given}
use Rattle.mail_c.proofs.rocktray_body_charset.Goals as goal

pub returns : goal.returns
returns c = (c.charsets.result, ends_given _ c.body_charset-found.result _ _ _ _ _ c.body_charset-found.ensures c.write_result.ensures)
