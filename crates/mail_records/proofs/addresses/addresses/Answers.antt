use Rattle.std.proofs.Common.{Ok, sym, ap}
use Rattle.mail_records.proofs.addresses.addresses.Goals as goal

pub returns-in-Ok : goal.returns-in-Ok
returns-in-Ok g c = ap Ok (sym c.in-Ok.ensures)
