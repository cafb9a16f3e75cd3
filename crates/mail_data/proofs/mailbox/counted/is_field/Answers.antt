use Rattle.mail_data.proofs.lemmas.CountedMails.{is_field-read}
use Rattle.mail_data.proofs.mailbox.counted.is_field.Goals as goal

pub returns : goal.returns
returns c = is_field-read c.args.bytes.now c.min.result c.is_same.result c.min.ensures c.is_same.ensures
