use Rattle.mail_records.specs.Rows.{rows_view}
use Rattle.mail_records.proofs.lemmas.Records.{ends_both}
use Rattle.mail_c.proofs.rocktray_text_files.Goals as goal

pub returns : goal.returns
returns c = ends_both rows_view _ _ _ c.text_file_records-found.result _ c.text_file_records-found.ensures c.write_rows.ensures
