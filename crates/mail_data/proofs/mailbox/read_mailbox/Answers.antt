use Rattle.mail_data.specs.MailboxFormats.{length_in}
use Rattle.mail_data.proofs.lemmas.Mailbox.{mailbox-whole}
use Rattle.mail_data.proofs.lemmas.MailboxFormats.{in-opens}
use Rattle.mail_data.proofs.mailbox.read_mailbox.Goals as goal

pub returns-clause-whole : goal.returns-clause-whole
returns-clause-whole c = mailbox-whole (length_in c.args.format) c.args.bytes.now _ _ c.front_length.result (in-opens c.args.format) c.front_length.ensures.value c.split_at.ensures.front c.split_at.ensures.back
