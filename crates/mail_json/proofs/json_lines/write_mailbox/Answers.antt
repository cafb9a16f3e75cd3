use Rattle.std.proofs.Common.{◌++◌, ◌∙◌, ap, option_map}
use Rattle.std.proofs.KnownBytes.{Appends-trans}
use Rattle.mail_walk.specs.Kind.{format_of}
use Rattle.mail_json.specs.Options.{options_of}
use Rattle.mail_data.specs.MailboxViews.{entries_left}
use Rattle.mail_data.specs.MailboxFormats.{entries_in}
use Rattle.mail_data.specs.declared.mailbox.formats.Format.{Format}
use Rattle.mail_json.specs.Written.{is_clean}
use Rattle.mail_json.proofs.lemmas.JsonLines.{mailbox_lines}
use Rattle.mail_json.proofs.json_lines.write_mailbox.Goals as goal

pub returns : goal.returns
returns g c =
    let front = c.in_ok-written.ensures in
    let mails = c.in_ok-write_mails.ensures in (
      front.0 ++ mails.0,
      mailbox_lines (options_of (g.K.KnownCharsets.known c.args.source.known.now) c.args.source.options) (format_of c.args.source.kind) (option_map (λ name. name.now) c.args.source.file) c.args.selection c.args.input.now c.front-front.result.now (entries_left c.read_mailbox-mails.result)
          (is_clean c.in_ok-written.written) (is_clean c.in_ok-write_mails.field-0) (is_clean c.and.result) front.0 mails.0 c.and.ensures (c.front-front.ensures ∙ c.read_mailbox-mails.ensures.front)
          (c.read_mailbox-mails.ensures.read ∙ ap (λ (f : Format). entries_in f c.args.input.now) c.format.ensures) front.1 mails.1,
      Appends-trans _ _ _ front.0 mails.0 front.2 mails.2,
    )
