use Rattle.mail_records.proofs.lemmas.Buffer.{ends_given}
use Rattle.mail_c.proofs.rocktray_html_text.Goals as goal

pub returns : goal.returns
returns c = (c.standard-references.result, ends_given _ c.text_of_html-found.result _ _ _ _ _ c.text_of_html-found.ensures c.write_result.ensures)
