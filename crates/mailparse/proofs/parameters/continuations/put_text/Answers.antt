use Rattle.std.specs.String.{string_bytes}
use Rattle.mailparse.proofs.lemmas.Filled.{stored}
use Rattle.mailparse.proofs.parameters.continuations.put_text.Goals as goal

pub returns : goal.returns
returns c = stored string_bytes (string_bytes c.args.name) c.args.texts.now c.insert.new.self c.args.text c.in_ok-insert.ensures.updates
