use Rattle.mail_records.proofs.lemmas.Texts.{is_no_text, is_text}
use Rattle.mail_records.proofs.results.text_in.Goals as goal

pub returns-in-Ok : goal.returns-in-Ok
returns-in-Ok c = is_text c.args.bytes.now _ c.in-Ok.ensures.cases.0 c.in-Ok.ensures.cases.1

pub returns-in-Err : goal.returns-in-Err
returns-in-Err c = is_no_text c.args.bytes.now c.in-Err.ensures.cases.0
