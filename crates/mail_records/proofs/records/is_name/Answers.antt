use Rattle.std.proofs.Common.{map, sym, ap, ◌∙◌}
use Rattle.std.specs.Char.{to_ascii_lowercase}
use lib.Pointwise.{bytes_decides}
use Rattle.mail_records.proofs.records.is_name.Goals as goal

pub returns-then-eq : goal.returns-then-eq
returns-then-eq c = λ _. ap (map to_ascii_lowercase) ((bytes_decides c.args.value.now c.args.name.now).0 (sym c.eq.ensures ∙ c.if-eq.true))
