use Rattle.std.proofs.Common.{◌++◌, [], ap, option_map, refl, sym, ◌∙◌}
use Rattle.std.proofs.KnownBytes.{Appends-nil, Appends-trans, Consumes-nil, Consumes-trans}
use Rattle.std.proofs.lemmas.List.{append-nil}
use Rattle.mail_walk.specs.Kind.{format_of}
use Rattle.mail_json.specs.Options.{options_of}
use Rattle.mail_data.specs.MailboxViews.{entries_left}
use Rattle.mail_data.specs.MailboxFormats.{entries_in}
use Rattle.mail_data.specs.declared.mailbox.formats.Format.{Format}
use Rattle.mail_json.specs.Written.{is_clean}
use Rattle.mail_json.proofs.lemmas.Stream.{ends_here, ends_past, follows_end, follows_more, follows_past, follows_settled, follows_start, left_of}
use Rattle.mail_json_text.proofs.lemmas.Written.{appends_as}
use Rattle.mail_json.proofs.stream.write_rest.Goals as goal

pub loop-turn-init : goal.loop-turn-init
loop-turn-init g c = (
  [],
  [],
  Consumes-nil (g.R.Read.remaining c.args.reader.now),
  Appends-nil (g.W.Write.contents c.args.out.now),
  follows_start (options_of (g.K.KnownCharsets.known c.args.source.known.now) c.args.source.options) (format_of c.args.source.kind) (option_map (λ name. name.now) c.args.source.file) c.args.first.selection c.args.first.at c.args.read.now c.in_ok-pending.pending.items
      (c.in_ok-pending.ensures.items_if_clones_equal (λ x y same. same)),
  refl,
)

pub returns-then-is_past : goal.returns-then-is_past
returns-then-is_past g c =
    let here = c.loop-turn.invariant in
    let past = sym c.is_past.ensures ∙ c.if-is_past.true in
    let later = left_of (g.R.Read.remaining c.loop-turn.reader) in (
      here.0,
      later,
      here.2,
      ends_past c.args.first.selection c.loop-turn.next.selection c.loop-turn.next.at (g.R.Read.remaining c.loop-turn.reader) here.5 past,
      here.1,
      follows_past (options_of (g.K.KnownCharsets.known c.args.source.known.now) c.args.source.options) (format_of c.args.source.kind) (option_map (λ name. name.now) c.args.source.file) c.args.first.selection c.args.first.at c.args.read.now here.0 later
          c.loop-turn.next.selection c.loop-turn.next.at c.loop-turn.pending.items (is_clean c.loop-turn.written) here.1 past here.4,
      here.3,
    )

pub returns-then-has_ended : goal.returns-then-has_ended
returns-then-has_ended g c =
    let here = c.loop-turn.invariant in
    let taken = c.in_ok-has_ended.ensures in
    let lines = c.in_ok-write_mails.ensures in
    let mails = c.read_mailbox-mails in (
      here.0 ++ taken.0,
      [],
      Consumes-trans _ _ _ here.0 taken.0 here.2 taken.1,
      ends_here c.args.first.selection _ (taken.3 c.if-has_ended.true),
      here.1 ++ lines.0,
      follows_end (options_of (g.K.KnownCharsets.known c.args.source.known.now) c.args.source.options) (format_of c.args.source.kind) (option_map (λ name. name.now) c.args.source.file) c.args.first.selection c.args.first.at c.args.read.now here.0 taken.0
          c.loop-turn.next.selection c.loop-turn.next.at c.loop-turn.pending.items c.read_until.new.bytes.items (entries_left mails.result) (is_clean c.loop-turn.written) (is_clean c.in_ok-write_mails.field-0) (is_clean c.and.result) here.1
          lines.0 c.and.ensures taken.2
          (mails.ensures.read ∙ ap (λ (f : Format). entries_in f c.as_slice.result.now) c.format-format.ensures ∙ ap (entries_in (format_of c.args.source.kind)) c.as_slice.ensures.value)
          lines.1 here.4,
      Appends-trans _ _ _ here.1 lines.0 here.3 lines.2,
    )

pub loop-turn-preserved : goal.loop-turn-preserved
loop-turn-preserved g c =
    let options = options_of (g.K.KnownCharsets.known c.args.source.known.now) c.args.source.options in
    let file = option_map (λ name. name.now) c.args.source.file in
    let first = c.args.first in
    let next = c.loop-turn.next in
    let here = c.loop-turn.invariant in
    let taken = c.in_ok-has_ended.ensures in
    let settled = c.in_ok-settled.settled in
    let written = c.in_ok-settled.ensures.written in
    let bytes = c.as_slice-bytes.result.now in
    let read = follows_more options (format_of c.args.source.kind) file first.selection first.at c.args.read.now here.0 taken.0 next.selection next.at c.loop-turn.pending.items bytes (is_clean c.loop-turn.written)
    here.1 (c.as_slice-bytes.ensures.value ∙ taken.2) here.4 in
    let flushed = Appends-trans _ _ _ written.0 [] written.1 c.in_ok-flush.ensures in (
      here.0 ++ taken.0,
      here.1 ++ written.0,
      Consumes-trans _ _ _ here.0 taken.0 here.2 taken.1,
      Appends-trans _ _ _ here.1 written.0 here.3 (appends_as _ _ (written.0 ++ []) written.0 (append-nil written.0) flushed),
      follows_settled options (format_of c.args.source.kind) file first.selection first.at c.args.read.now (here.0 ++ taken.0) next.selection settled.next.selection next.at settled.next.at bytes
          settled.rest.now c.in_ok-pending-2.pending.items (is_clean c.loop-turn.written) (is_clean settled.written) (is_clean c.and-written.result) here.1 written.0 c.and-written.ensures (c.in_ok-pending-2.ensures.items_if_clones_equal (λ x y same. same)) written.2 read,
      written.3 ∙ here.5,
    )
