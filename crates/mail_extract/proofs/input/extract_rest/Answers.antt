use Rattle.std.proofs.Common.{◌++◌, [], List, ℕ, ap, option_map, ◌∙◌}
use Rattle.std.proofs.KnownBytes.{Consumes-nil, Consumes-trans}
use Rattle.mail_data.specs.MailboxFormats.{entries_in}
use Rattle.mail_data.specs.MailboxViews.{entries_left}
use Rattle.mail_data.specs.declared.mailbox.formats.Format.{Format}
use Rattle.mail_walk.specs.Kind.{format_of}
use Rattle.mail_extract.specs.ChoiceViews.{options_view}
use Rattle.mail_extract.proofs.lemmas.Input.{Mails, follows_end, follows_settled, mails_as}
use Rattle.mail_extract.proofs.lemmas.Saves.{before_start}
use Rattle.mail_extract.proofs.input.extract_rest.Goals as goal

pub loop-turn-init : goal.loop-turn-init
loop-turn-init g c =
    let file = option_map (λ name. name.now) c.args.source.file in
    let options = options_view c.args.source.options in
    let known = g.K.KnownCharsets.known c.args.source.known.now in
    let format = format_of c.args.source.kind in
    let pending = c.in_ok-pending.pending.items in (
      [],
      Consumes-nil (g.R.Read.remaining c.args.reader.now),
      before_start _ _ _ (Mails file g.D.Directory.can_fail options known format 1 c.args.read.now) (Mails file g.D.Directory.can_fail options known format 1 pending)
          (λ later. mails_as file g.D.Directory.can_fail options known format 1 (entries_in format (pending ++ later)) (entries_in format (c.args.read.now ++ later))
          (ap (λ (bs : List ℕ). entries_in format (bs ++ later)) (c.in_ok-pending.ensures.items_if_clones_equal (λ x y same. same)))),
    )

pub loop-turn-preserved : goal.loop-turn-preserved
loop-turn-preserved g c =
    let here = c.loop-turn.invariant in
    let taken = c.in_ok-has_ended.ensures in
    let settled = c.in_ok-settled.settled in (
      here.0 ++ taken.0,
      Consumes-trans _ _ _ here.0 taken.0 here.1 taken.1,
      follows_settled (option_map (λ name. name.now) c.args.source.file) g.D.Directory.can_fail (options_view c.args.source.options) (g.K.KnownCharsets.known c.args.source.known.now) (format_of c.args.source.kind)
          _ _ _ _ _ _ _ _ _ _ _ _ c.and-outcome.result c.args.read.now here.0 taken.0 c.loop-turn.pending.items c.as_slice-bytes.result.now settled.rest.now c.in_ok-pending-2.pending.items c.loop-turn.number settled.number
          c.and-outcome.ensures (c.as_slice-bytes.ensures.value ∙ taken.2) (c.in_ok-pending-2.ensures.items_if_clones_equal (λ x y same. same)) c.in_ok-flush.ensures c.in_ok-settled.ensures.saved here.2,
    )

pub returns-then-has_ended : goal.returns-then-has_ended
returns-then-has_ended g c =
    let here = c.loop-turn.invariant in
    let taken = c.in_ok-has_ended.ensures in
    let mails = c.read_mailbox-mails in (
      here.0 ++ taken.0,
      Consumes-trans _ _ _ here.0 taken.0 here.1 taken.1,
      taken.3 c.if-has_ended.true,
      follows_end (option_map (λ name. name.now) c.args.source.file) g.D.Directory.can_fail (options_view c.args.source.options) (g.K.KnownCharsets.known c.args.source.known.now) (format_of c.args.source.kind)
          _ _ _ _ _ _ _ _ _ _ _ c.and.result c.args.read.now here.0 taken.0 c.loop-turn.pending.items c.read_until.new.bytes.items (entries_left mails.result) c.loop-turn.number c.and.ensures taken.2
          (mails.ensures.read ∙ ap (λ (f : Format). entries_in f c.as_slice-bytes.result.now) c.format-format.ensures ∙ ap (entries_in (format_of c.args.source.kind)) c.as_slice-bytes.ensures.value)
          c.in_ok-extract_mails.ensures here.2,
    )
