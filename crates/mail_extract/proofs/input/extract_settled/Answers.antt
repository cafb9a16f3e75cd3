use Rattle.std.proofs.Common.{◌≡◌, ◌∷◌, ◌++◌, Some, option_map, subst, sym}
use Rattle.mail_data.specs.MailboxFormats.{entries_in, mail_in}
use Rattle.mail_data.specs.declared.mailbox.formats.Format.{Format}
use Rattle.mail_data.proofs.lemmas.MailboxFormats.{settled_in-stays}
use Rattle.mail_walk.specs.Kind.{format_of}
use Rattle.mail_extract.specs.ChoiceViews.{options_view}
use Rattle.mail_extract.specs.Input.{IsMail}
use Rattle.mail_extract.proofs.lemmas.Input.{Mails, mails_next}
use Rattle.mail_extract.proofs.lemmas.Saves.{before_more, before_start}
use Rattle.mail_extract.proofs.input.extract_settled.Goals as goal

pub mails-init : goal.mails-init
mails-init g c =
    let Here =
    Mails (option_map (λ name. name.now) c.args.source.file) g.D.Directory.can_fail (options_view c.args.source.options) (g.K.KnownCharsets.known c.args.source.known.now) (format_of c.args.source.kind)
    c.args.first c.args.bytes.now in
    before_start _ _ _ Here Here (λ later files from lines next now h. h)

pub mails-preserved : goal.mails-preserved
mails-preserved g c =
    let file = option_map (λ name. name.now) c.args.source.file in
    let options = options_view c.args.source.options in
    let known = g.K.KnownCharsets.known c.args.source.known.now in
    let format = format_of c.args.source.kind in
    let number = c.mails.number in
    let left = c.mails.rest.now in
    let rest = c.in-Some.after.now in
    let entry = c.in-Some.entry in
    before_more _ _ _ _ _ _ _ _ _ _ _ _ (Mails file g.D.Directory.can_fail options known format c.args.first c.args.bytes.now) (Mails file g.D.Directory.can_fail options known format number left)
    (Mails file g.D.Directory.can_fail options known format c.next_number-number.result rest)
    (IsMail file g.D.Directory.can_fail options known (Some number) (mail_in format entry.mail)) c.and-outcome.ensures
    (λ later. mails_next file g.D.Directory.can_fail options known format number c.next_number-number.result (entries_in format (left ++ later)) (entries_in format (rest ++ later)) entry c.next_number-number.ensures
    (subst (λ (f : Format). entries_in f (left ++ later) ≡ entry ∷ entries_in f (rest ++ later)) c.format-format.ensures
    (settled_in-stays c.format-format.result left later rest entry (sym c.in-Some.ensures.value))))
    c.in_ok-extract_entry.ensures c.mails.invariant
