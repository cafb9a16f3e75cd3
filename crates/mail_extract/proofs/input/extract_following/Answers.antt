use Rattle.std.proofs.Common.{◌++◌, ◌-◌, drop, length, option_map, take, ◌∙◌}
use Rattle.std.proofs.lemmas.List.{take_rest}
use Rattle.mail_walk.specs.Kind.{format_of}
use Rattle.mail_extract.specs.ChoiceViews.{options_view}
use Rattle.mail_data.specs.MailboxFormats.{entries_in}
use Rattle.mail_extract.specs.Input.{AreMails, IsMailbox, Only, Then, front_lines}
use Rattle.mail_extract.proofs.lemmas.Input.{front_after, front_saved, mailbox_is}
use Rattle.mail_extract.proofs.lemmas.Saves.{saved_as, saved_then}
use Rattle.mail_extract.proofs.input.extract_following.Goals as goal

pub returns : goal.returns
returns g c =
    let file = option_map (λ name. name.now) c.args.source.file in
    let read = c.args.read.now in
    let front = c.front-front.result.now in
    let rest = c.in_ok-extract_rest.ensures in
    let options = options_view c.args.source.options in
    let known = g.K.KnownCharsets.known c.args.source.known.now in
    let format = format_of c.args.source.kind in
    let slice = take (length read - length front) (drop (length front) read) in
    let mails = entries_in format (slice ++ rest.0) in
    let First = Only (front_lines file front) in
    let Others = AreMails file g.D.Directory.can_fail options known format 1 mails in
    let same = front_after (format_of c.args.source.kind) read front _ rest.0 c.requires (c.front-front.ensures ∙ c.read_mailbox.ensures.front) (take_rest read (length front)) in (
      rest.0,
      rest.1,
      rest.2,
      saved_as _ _ _ _ _ _ _ (Then First Others) (IsMailbox file g.D.Directory.can_fail options known format (read ++ rest.0))
          (mailbox_is file g.D.Directory.can_fail (options_view c.args.source.options) (g.K.KnownCharsets.known c.args.source.known.now) (format_of c.args.source.kind) (read ++ rest.0) front mails same.0 same.1)
          (saved_then _ _ _ _ _ _ _ _ _ c.in_ok-outcome.outcome c.in_ok-extract_rest.field-0 c.and.result First Others c.and.ensures (front_saved file front _ _ _ _ c.in_ok-outcome.outcome c.in_ok-outcome.ensures) rest.3),
    )
