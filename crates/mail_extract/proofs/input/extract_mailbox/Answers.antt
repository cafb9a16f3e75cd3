use Rattle.std.proofs.Common.{option_map, ap, ◌∙◌}
use Rattle.mail_data.specs.MailboxFormats.{entries_in}
use Rattle.mail_data.specs.MailboxViews.{entries_left}
use Rattle.mail_data.specs.declared.mailbox.formats.Format.{Format}
use Rattle.mail_walk.specs.Kind.{format_of}
use Rattle.mail_extract.specs.ChoiceViews.{options_view}
use Rattle.mail_extract.specs.Input.{AreMails, IsMailbox, Only, Then, front_lines}
use Rattle.mail_extract.proofs.lemmas.Input.{front_saved, mailbox_is}
use Rattle.mail_extract.proofs.lemmas.Saves.{saved_as, saved_then}
use Rattle.mail_extract.proofs.input.extract_mailbox.Goals as goal

pub returns : goal.returns
returns g c =
    let file = option_map (λ name. name.now) c.args.source.file in
    let mails = c.read_mailbox-mails in
    let front = c.front.result.now in
    let options = options_view c.args.source.options in
    let known = g.K.KnownCharsets.known c.args.source.known.now in
    let format = format_of c.args.source.kind in
    let First = Only (front_lines file front) in
    let Others = AreMails file g.D.Directory.can_fail options known format 1 (entries_left mails.result) in
    saved_as _ _ _ _ _ _ _ (Then First Others) (IsMailbox file g.D.Directory.can_fail options known format c.args.input.now)
    (mailbox_is file g.D.Directory.can_fail (options_view c.args.source.options) (g.K.KnownCharsets.known c.args.source.known.now) (format_of c.args.source.kind) c.args.input.now front (entries_left mails.result)
    (c.front.ensures ∙ mails.ensures.front) (mails.ensures.read ∙ ap (λ (f : Format). entries_in f c.args.input.now) c.format.ensures))
    (saved_then _ _ _ _ _ _ _ _ _ c.in_ok-outcome.outcome c.in_ok-extract_mails.field-0 c.and.result First Others c.and.ensures (front_saved file front _ _ _ _ c.in_ok-outcome.outcome c.in_ok-outcome.ensures)
    c.in_ok-extract_mails.ensures)
