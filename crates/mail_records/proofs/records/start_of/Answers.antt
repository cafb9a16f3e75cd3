use Rattle.std.proofs.Common.{sym, ap}
use Rattle.mailparse.specs.Ranges.{Range}
use Rattle.mail_records.proofs.records.start_of.Goals as goal

pub returns : goal.returns
returns c = ap (λ (r : Range). r.start) (sym c.byte_range.ensures)
