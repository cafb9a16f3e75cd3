use Rattle.std.proofs.Common.{option_map, refl}
use Rattle.mail_extract.specs.ChoiceViews.{choice_view}
use Rattle.mail_extract.specs.Naming.{Options}
use Rattle.mail_extract.specs.declared.hash.Hashing.TheVariants.{Off}
use Rattle.mail_extract.specs.declared.options.Naming.TheVariants.{BySender}
use Rattle.mail_extract.proofs.lemmas.Only.{missing_only, not_failed, several_only, written_only}
use Rattle.mail_extract.proofs.only.write_only_file.Goals as goal

pub returns-in_default : goal.returns-in_default
returns-in_default g c =
    let options : Options = record { limit = c.args.source.options.limit; most_bytes = c.args.source.options.most_bytes; hashing = Off; naming = BySender; choice = choice_view c.args.source.options.choice } in
    missing_only (option_map (λ name. name.now) c.args.source.file) options (g.K.KnownCharsets.known c.args.source.known.now) c.args.source.kind refl
    c.extract_input.new.target.directory (g.L.Write.contents c.args.lines.now) (g.L.Write.contents c.extract_input.new.out) (g.R.Read.remaining c.args.reader.now)
    (g.R.Read.remaining c.extract_input.new.reader) c.extract_input.new.target.number c.in_ok-outcome.outcome c.in_ok-outcome.ensures
    (g.W.Write.contents c.args.out.now) c.in_default.is

pub returns-in-Failed : goal.returns-in-Failed
returns-in-Failed g c =
    let options : Options = record { limit = c.args.source.options.limit; most_bytes = c.args.source.options.most_bytes; hashing = Off; naming = BySender; choice = choice_view c.args.source.options.choice } in
    several_only (option_map (λ name. name.now) c.args.source.file) options (g.K.KnownCharsets.known c.args.source.known.now) c.args.source.kind refl
    c.extract_input.new.target.directory (g.L.Write.contents c.args.lines.now) (g.L.Write.contents c.extract_input.new.out) (g.R.Read.remaining c.args.reader.now)
    (g.R.Read.remaining c.extract_input.new.reader) c.extract_input.new.target.number c.in_ok-outcome.outcome c.in_ok-outcome.ensures
    (g.W.Write.contents c.args.out.now) c.in-Some.file c.in-Some.is c.in-Failed.is

pub returns : goal.returns
returns g c =
    let options : Options = record { limit = c.args.source.options.limit; most_bytes = c.args.source.options.most_bytes; hashing = Off; naming = BySender; choice = choice_view c.args.source.options.choice } in
    written_only (option_map (λ name. name.now) c.args.source.file) options (g.K.KnownCharsets.known c.args.source.known.now) c.args.source.kind refl
    c.extract_input.new.target.directory (g.L.Write.contents c.args.lines.now) (g.L.Write.contents c.extract_input.new.out) (g.R.Read.remaining c.args.reader.now)
    (g.R.Read.remaining c.extract_input.new.reader) c.extract_input.new.target.number c.in_ok-outcome.outcome c.in_ok-outcome.ensures
    (g.W.Write.contents c.args.out.now) (g.W.Write.contents c.write_all.new.self) c.in-Some.file c.as_slice.result.now c.in-Some.is
    (not_failed c.in_ok-outcome.outcome c.in-Clean.is) c.as_slice.ensures.value c.in_ok-write_all-in-Clean.ensures.bytes
