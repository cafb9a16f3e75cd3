use Rattle.std.proofs.Common.{option_map, string_bytes, sym, ap, ◌∙◌}
use Rattle.mailparse.specs.Map.{text_found}
use Rattle.mailparse.specs.Views.{tree_of}
use Rattle.mail_extract.specs.ChoiceViews.{options_view}
use Rattle.mail_extract.proofs.lemmas.Input.{read_ends, refused_ends, refused_read}
use Rattle.mail_extract.proofs.input.extract_one.Goals as goal
use Rattle.mail_parts.specs.DecodedSize.{bounded_reading}

pub returns-in-Ok : goal.returns-in-Ok
returns-in-Ok g c =
    read_ends (option_map (λ name. name.now) c.args.source.file) g.D.Directory.can_fail (options_view c.args.source.options) (g.K.KnownCharsets.known c.args.source.known.now) c.args.number c.args.raw.now _ _ _ _ _ _
    c.extract_mail.result (tree_of c.in-Ok.mail) c.in-Ok.ensures.read c.extract_mail.ensures

pub returns-in-Some : goal.returns-in-Some
returns-in-Some g c =
    let known = g.K.KnownCharsets.known c.args.source.known.now in
    let some = ap text_found (sym c.in-Some.is) ∙ c.in_ok-text-in-Err.ensures.read in
    let read = refused_read c.in-Err.error (bounded_reading known c.args.source.options.limit c.args.source.options.most_bytes c.args.raw.now) (string_bytes c.in-Some.text) some c.in-Err.ensures.read in
    refused_ends (option_map (λ name. name.now) c.args.source.file) g.D.Directory.can_fail (options_view c.args.source.options) known c.args.number c.args.raw.now _ _ _ _
    c.report_refused.result read.0 c.as_str.result.now read.1 (c.as_str.ensures.value ∙ read.2) c.report_refused.ensures
