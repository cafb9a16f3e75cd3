use Rattle.std.proofs.Common.{◌≡◌, [], ◌∷◌, ◌++◌, ap, option_map, refl, subst, sym, ◌∙◌}
use Rattle.std.proofs.KnownBytes.{Appends-nil, Appends-trans}
use Rattle.mail_walk.specs.Kind.{format_of}
use Rattle.mail_json.specs.Options.{options_of}
use Rattle.mail_data.specs.MailboxFormats.{entries_in}
use Rattle.mail_data.specs.declared.mailbox.formats.Format.{Format}
use Rattle.mail_data.proofs.lemmas.MailboxFormats.{settled_in-stays}
use Rattle.mail_json.specs.Selection.{is_range}
use Rattle.mail_json.specs.Written.{is_clean}
use Rattle.mail_json.proofs.lemmas.JsonLines.{lines_more, lines_start, range_next}
use Rattle.mail_json.proofs.stream.write_settled.Goals as goal

pub mails-init : goal.mails-init
mails-init g c = (
  [],
  Appends-nil (g.W.Write.contents c.args.out.now),
  λ more. lines_start (options_of (g.K.KnownCharsets.known c.args.source.known.now) c.args.source.options) (format_of c.args.source.kind) (option_map (λ name. name.now) c.args.source.file) c.args.first.selection
      c.args.first.at (entries_in (format_of c.args.source.kind) (c.args.bytes.now ++ more)) (entries_in (format_of c.args.source.kind) (c.args.bytes.now ++ more)) refl,
  refl,
)

pub mails-preserved : goal.mails-preserved
mails-preserved g c =
    let here = c.mails.invariant in
    let line = c.in_ok-write_entry.ensures in
    let next = c.mails.next in
    let after = c.after-next in
    let rest = c.in-Some.after.now in (
      here.0 ++ line.0,
      Appends-trans _ _ _ here.0 line.0 here.1 line.2,
      λ more. lines_more (options_of (g.K.KnownCharsets.known c.args.source.known.now) c.args.source.options) (format_of c.args.source.kind) (option_map (λ name. name.now) c.args.source.file) c.args.first.selection c.args.first.at next.selection
          after.result.selection next.at after.result.at (entries_in (format_of c.args.source.kind) (c.args.bytes.now ++ more)) (entries_in (format_of c.args.source.kind) (c.mails.rest.now ++ more)) (entries_in (format_of c.args.source.kind) (rest ++ more))
          c.in-Some.entry (is_clean c.mails.written) (is_clean c.in_ok-write_entry.field-0) (is_clean c.and-written.result) here.0 line.0 c.and-written.ensures after.ensures.fits
          (subst (λ (f : Format). entries_in f (c.mails.rest.now ++ more) ≡ c.in-Some.entry ∷ entries_in f (rest ++ more)) c.format-format.ensures
          (settled_in-stays c.format-format.result c.mails.rest.now more rest c.in-Some.entry (sym c.in-Some.ensures.value)))
          after.ensures.selection after.ensures.at line.1 (here.2 more),
      ap is_range after.ensures.selection ∙ range_next next.selection ∙ here.3,
    )
