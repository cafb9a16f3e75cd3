use Rattle.std.proofs.Common.{ap, ◌∙◌}
use Rattle.mail_data.specs.MailboxViews.{entries_left}
use Rattle.mail_data.specs.MailboxFormats.{entries_in}
use Rattle.mail_data.specs.declared.mailbox.formats.Format.{Format}
use Rattle.mail_records.specs.Numbers.{format_named}
use Rattle.mail_records.proofs.lemmas.Mailbox.{offsets_returned}
use Rattle.mail_records.proofs.numbers.next_mail.Goals as goal

pub returns : goal.returns
returns c =
    let bytes = c.args.mailbox.now in
    let mails = c.read_mailbox-mails in
    offsets_returned (format_named c.args.is_counted) bytes c.front-front.result.now (entries_left mails.result) (entries_left c.next.new.self) c.in-Some.entry _ _ _ _ _
    (c.front-front.ensures ∙ mails.ensures.front) (mails.ensures.read ∙ ap (λ (f : Format). entries_in f bytes) c.format_named.ensures)
    c.in-Some.ensures.steps c.separator.ensures c.mail.ensures c.ending.ensures
