use Rattle.mail_records.proofs.lemmas.Buffer.{ends_given}
use Rattle.mail_c.proofs.rocktray_readable_text.Goals as goal

pub returns : goal.returns
returns c = (c.charsets.result, c.standard-references.result, ends_given _ c.readable-found.result _ _ _ _ _ c.readable-found.ensures c.write_result.ensures)
