use Rattle.std.proofs.Common.{◌∙◌}
use Rattle.mail_data.specs.MailboxViews.{entries_left}
use Rattle.mail_view.proofs.lemmas.Input.{mailbox_written}
use Rattle.mail_view.proofs.input.write_mailbox.Goals as goal

pub returns : goal.returns
returns g c =
    mailbox_written c.args.references.now (g.K.KnownCharsets.known c.args.known.now) c.args.limit c.args.format _ _ _ c.args.input.now c.front-front.result.now (entries_left c.read_mailbox-mails.result)
    _ _ _ c.and.ensures (c.front-front.ensures ∙ c.read_mailbox-mails.ensures.front) c.read_mailbox-mails.ensures.read c.in_ok-outcome.ensures
    c.in_ok-write_mails.ensures
