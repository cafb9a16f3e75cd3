use Rattle.std.proofs.Common.{Ok, sym, ap}
use Rattle.mail_records.proofs.text_files.text_file_records.Goals as goal

pub returns-in-Ok : goal.returns-in-Ok
returns-in-Ok c = ap Ok (sym c.in-Ok.ensures)
