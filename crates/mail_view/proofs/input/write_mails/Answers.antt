use Rattle.std.proofs.Common.{[], ap, refl, subst}
use Rattle.std.proofs.KnownBytes.{Appends-nil, Appends-trans}
use Rattle.std.specs.Io.KnownBytes.{Appends}
use Rattle.mail_data.specs.MailboxViews.{entries_left}
use Rattle.mail_view.specs.Input.{mails_lines, mails_outcome}
use Rattle.mail_view.specs.Line.{lines_text}
use Rattle.mail_view.proofs.lemmas.Input.{mails_next, mails_end, outcome_next, outcome_end}
use Rattle.mail_view.proofs.input.write_mails.Goals as goal

pub loop-entry-init : goal.loop-entry-init
loop-entry-init g c =
    let known = g.K.KnownCharsets.known c.args.known.now in
    let all = ap entries_left c.into_iter-entry-iterator.ensures.into_iter_gives in (
      [],
      Appends-nil (g.W.Write.contents c.args.out.now),
      ap (λ es. lines_text (mails_lines c.args.references.now known c.args.limit c.args.format 1 es)) all,
      ap (mails_outcome known c.args.limit c.args.format) all,
    )

pub loop-entry-preserved : goal.loop-entry-preserved
loop-entry-preserved g c =
    let known = g.K.KnownCharsets.known c.args.known.now in
    let here = c.loop-entry.invariant in
    let entry = c.in_ok-write_entry.ensures in
    let all = entries_left c.args.mails in (
      _,
      Appends-trans _ _ _ _ _ here.1 (Appends-trans _ _ _ _ _ c.in_ok-write_number.ensures (Appends-trans _ _ _ _ _ entry.1 c.in_ok-write_empty_line.ensures)),
      mails_next c.args.references.now known c.args.limit c.args.format here.0 _ c.loop-entry.number _ c.in-Some.entry (entries_left c.loop-entry.entry-iterator) (entries_left c.next.new.self)
          (lines_text (mails_lines c.args.references.now known c.args.limit c.args.format 1 all)) c.saturating_add-number.ensures c.in-Some.ensures.steps refl here.2,
      outcome_next c.args.references.now known c.args.limit c.args.format c.loop-entry.outcome _ c.and-outcome.result c.in-Some.entry (entries_left c.loop-entry.entry-iterator) (entries_left c.next.new.self)
          (mails_outcome known c.args.limit c.args.format all) c.in-Some.ensures.steps entry.0 c.and-outcome.ensures here.3,
    )

pub returns : goal.returns
returns g c =
    let known = g.K.KnownCharsets.known c.args.known.now in
    let here = c.loop-entry.invariant in
    let left = entries_left c.loop-entry.entry-iterator in (
      outcome_end c.args.references.now known c.args.limit c.args.format c.loop-entry.outcome left _ c.in-None.ensures.steps.0 here.3,
      subst (λ t. Appends (g.W.Write.contents c.args.out.now) (g.W.Write.contents c.loop-entry.out) t) (mails_end c.args.references.now known c.args.limit c.args.format here.0 c.loop-entry.number left _ c.in-None.ensures.steps.0 here.2) here.1,
    )
