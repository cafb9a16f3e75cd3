use Rattle.std.proofs.Common.{[], Some, ap, option_map}
use Rattle.mail_data.specs.MailboxFormats.{mail_in}
use Rattle.mail_data.specs.MailboxViews.{entries_left}
use Rattle.mail_walk.specs.Kind.{format_of}
use Rattle.mail_extract.specs.ChoiceViews.{options_view}
use Rattle.mail_extract.specs.Input.{AreMails, IsMail}
use Rattle.mail_extract.proofs.lemmas.Input.{mails_as, mails_next, mails_none}
use Rattle.mail_extract.proofs.lemmas.Saves.{before_end, before_more, before_start}
use Rattle.mail_extract.proofs.input.extract_mails.Goals as goal

pub loop-entry-init : goal.loop-entry-init
loop-entry-init g c =
    let file = option_map (λ name. name.now) c.args.source.file in
    let options = options_view c.args.source.options in
    let known = g.K.KnownCharsets.known c.args.source.known.now in
    let format = format_of c.args.source.kind in
    let Mails = AreMails file g.D.Directory.can_fail options known format c.args.first in
    let left = entries_left c.into_iter-entry-iterator.result in
    before_start _ _ _ (λ later. Mails (entries_left c.args.mails)) (λ later. Mails left)
    (λ later. mails_as file g.D.Directory.can_fail options known format c.args.first left (entries_left c.args.mails) (ap entries_left c.into_iter-entry-iterator.ensures.into_iter_gives))

pub loop-entry-preserved : goal.loop-entry-preserved
loop-entry-preserved g c =
    let file = option_map (λ name. name.now) c.args.source.file in
    let options = options_view c.args.source.options in
    let known = g.K.KnownCharsets.known c.args.source.known.now in
    let format = format_of c.args.source.kind in
    let Mails = AreMails file g.D.Directory.can_fail options known format in
    let number = c.loop-entry.number in
    let left = entries_left c.loop-entry.entry-iterator in
    let rest = entries_left c.next.new.self in
    let entry = c.in-Some.entry in
    before_more _ _ _ _ _ _ _ _ _ _ _ _ (λ later. Mails c.args.first (entries_left c.args.mails)) (λ later. Mails number left) (λ later. Mails c.next_number-number.result rest)
    (IsMail file g.D.Directory.can_fail options known (Some number) (mail_in format entry.mail)) c.and-outcome.ensures
    (λ later. mails_next file g.D.Directory.can_fail options known format number c.next_number-number.result left rest entry c.next_number-number.ensures c.in-Some.ensures.steps)
    c.in_ok-extract_entry.ensures c.loop-entry.invariant

pub returns : goal.returns
returns g c =
    let file = option_map (λ name. name.now) c.args.source.file in
    let options = options_view c.args.source.options in
    let known = g.K.KnownCharsets.known c.args.source.known.now in
    let format = format_of c.args.source.kind in
    let Mails = AreMails file g.D.Directory.can_fail options known format in
    let left = entries_left c.loop-entry.entry-iterator in
    before_end _ _ _ _ _ _ _ (λ later. Mails c.args.first (entries_left c.args.mails)) (λ later. Mails c.loop-entry.number left) []
    (mails_none file g.D.Directory.can_fail options known format c.loop-entry.number left c.in-None.ensures.steps.0) c.loop-entry.invariant
