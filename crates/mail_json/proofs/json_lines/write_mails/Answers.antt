use Rattle.std.proofs.Common.{[], ◌++◌, ap, option_map}
use Rattle.std.proofs.KnownBytes.{Appends-nil, Appends-trans}
use Rattle.mail_walk.specs.Kind.{format_of}
use Rattle.mail_json.specs.Options.{options_of}
use Rattle.mail_data.specs.MailboxViews.{entries_left}
use Rattle.mail_json.specs.Written.{is_clean}
use Rattle.mail_json.proofs.lemmas.JsonLines.{lines_end, lines_more, lines_start}
use Rattle.mail_json.proofs.json_lines.write_mails.Goals as goal

pub loop-entry-init : goal.loop-entry-init
loop-entry-init g c = (
  [],
  Appends-nil (g.W.Write.contents c.args.out.now),
  lines_start (options_of (g.K.KnownCharsets.known c.args.source.known.now) c.args.source.options) (format_of c.args.source.kind) (option_map (λ name. name.now) c.args.source.file) c.args.first.selection c.args.first.at
      (entries_left c.args.mails) (entries_left c.into_iter-entry-iterator.result) (ap entries_left c.into_iter-entry-iterator.ensures.into_iter_gives),
)

pub loop-entry-preserved : goal.loop-entry-preserved
loop-entry-preserved g c =
    let here = c.loop-entry.invariant in
    let line = c.in_ok-write_entry.ensures in
    let after = c.after-next in (
      here.0 ++ line.0,
      Appends-trans _ _ _ here.0 line.0 here.1 line.2,
      lines_more (options_of (g.K.KnownCharsets.known c.args.source.known.now) c.args.source.options) (format_of c.args.source.kind) (option_map (λ name. name.now) c.args.source.file) c.args.first.selection c.args.first.at c.loop-entry.next.selection
          after.result.selection c.loop-entry.next.at after.result.at (entries_left c.args.mails) (entries_left c.loop-entry.entry-iterator) (entries_left c.next.new.self)
          c.in-Some.entry (is_clean c.loop-entry.written) (is_clean c.in_ok-write_entry.field-0) (is_clean c.and-written.result) here.0 line.0 c.and-written.ensures after.ensures.fits c.in-Some.ensures.steps after.ensures.selection after.ensures.at line.1 here.2,
    )

pub returns : goal.returns
returns g c =
    let here = c.loop-entry.invariant in (
      here.0,
      lines_end (options_of (g.K.KnownCharsets.known c.args.source.known.now) c.args.source.options) (format_of c.args.source.kind) (option_map (λ name. name.now) c.args.source.file) c.args.first.selection c.args.first.at c.loop-entry.next.selection
          c.loop-entry.next.at (entries_left c.args.mails) (entries_left c.loop-entry.entry-iterator) (is_clean c.loop-entry.written) here.0 c.in-None.ensures.steps.0 here.2,
      here.1,
    )
