use Rattle.std.proofs.Common.{option_map}
use Rattle.mail_json.specs.Options.{options_of}
use Rattle.mail_json.proofs.lemmas.Stream.{input_numbered}
use Rattle.mail_json.proofs.stream.write_input.Goals as goal

pub returns : goal.returns
returns g c =
    input_numbered (options_of (g.K.KnownCharsets.known c.args.source.known.now) c.args.source.options) c.args.source.kind (option_map (λ name. name.now) c.args.source.file) _ _ _ _ c.write_chosen.result c.write_chosen.ensures
