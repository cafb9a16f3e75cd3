use Rattle.mail_laws.proofs.lemmas.Limits.{enough, over, read_without}
use Rattle.mail_laws.proofs.laws.manners.limits_count_items.Goals as goal

pub returns : goal.returns
returns c = record { read = enough; refused = over; others = read_without }
