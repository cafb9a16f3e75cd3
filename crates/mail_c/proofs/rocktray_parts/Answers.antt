use Rattle.mail_records.specs.RecordViews.{lists}
use Rattle.mail_records.proofs.lemmas.Records.{ends_both}
use Rattle.mail_c.proofs.rocktray_parts.Goals as goal

pub returns : goal.returns
returns c = (c.charsets.result, ends_both lists _ _ _ c.mail_records-found.result _ c.mail_records-found.ensures c.write_records.ensures)
