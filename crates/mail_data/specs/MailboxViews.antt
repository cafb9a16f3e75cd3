-- What a contract sees of a mailbox.
use Rattle.std.specs.Prelude.{List}
use Rattle.mail_data.specs.Mailbox.{Entry}
use Rattle.mail_data.specs.MailboxFormats.{entries_from_in}
use Rattle.mail_data.specs.declared.mailbox.Mailbox.{Mailbox}

-- the mails that an iterator over a mailbox has still to give
abbrev pub entries_left : Mailbox → List Entry
entries_left mails = entries_from_in mails.format mails.rest.now
