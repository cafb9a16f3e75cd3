use Rattle.std.specs.Prelude.{codes, string_bytes}
use Rattle.mailparse.proofs.lemmas.Filled.{removed}
use Rattle.mail_read.proofs.lenient.manner.without_boundary.Goals as goal

pub returns : goal.returns
returns c = λ q. removed string_bytes (codes "boundary") c.args.params c.remove.new.self c.remove.ensures.updates q
