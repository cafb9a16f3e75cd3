use Rattle.mail_records.specs.Rows.{rows_view}
use Rattle.mail_records.proofs.lemmas.Records.{ends_both}
use Rattle.mail_c.proofs.rocktray_addresses.Goals as goal

pub returns : goal.returns
returns c = (c.charsets.result, ends_both rows_view _ _ _ c.addresses-found.result _ c.addresses-found.ensures c.write_rows.ensures)
