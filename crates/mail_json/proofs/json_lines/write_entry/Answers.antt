use Rattle.std.proofs.Common.{[], option_map, sym, ◌∙◌}
use Rattle.std.proofs.KnownBytes.{Appends-nil}
use Rattle.mail_json.specs.Options.{options_of}
use Rattle.mail_data.specs.MailboxFormats.{mail_in}
use Rattle.mail_json.specs.Selection.{is_wanted, number_of}
use Rattle.mail_json.specs.JsonLines.{IsLine, origin_at}
use Rattle.mail_walk.specs.Kind.{format_of}
use Rattle.mail_json.proofs.lemmas.JsonLines.{unwanted_lines, wanted_lines}
use Rattle.mail_json.proofs.json_lines.write_entry.Goals as goal

pub returns-then-is_wanted : goal.returns-then-is_wanted
returns-then-is_wanted g c =
    let next = c.args.next in
    let entry = c.args.entry.now in
    wanted_lines _ _ c.write_wanted.result
    (IsLine (options_of (g.K.KnownCharsets.known c.args.source.known.now) c.args.source.options) (origin_at (option_map (λ name. name.now) c.args.source.file) (number_of next.selection) next.at entry) (mail_in (format_of c.args.source.kind) entry.mail))
    (is_wanted next.selection next.at) (sym c.is_wanted.ensures ∙ c.if-is_wanted.true) c.write_wanted.ensures

pub returns-else-is_wanted : goal.returns-else-is_wanted
returns-else-is_wanted g c =
    let next = c.args.next in
    let entry = c.args.entry.now in (
      [],
      unwanted_lines
          (IsLine (options_of (g.K.KnownCharsets.known c.args.source.known.now) c.args.source.options) (origin_at (option_map (λ name. name.now) c.args.source.file) (number_of next.selection) next.at entry) (mail_in (format_of c.args.source.kind) entry.mail))
          (is_wanted next.selection next.at) (sym c.is_wanted.ensures ∙ c.if-is_wanted.false),
      Appends-nil (g.W.Write.contents c.args.out.now),
    )
