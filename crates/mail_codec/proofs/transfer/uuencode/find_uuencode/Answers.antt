use Rattle.std.proofs.Common.{Some, ap, ◌∙◌}
use Rattle.mail_codec.proofs.lemmas.Uuencode.{first_file-is}
use Rattle.mail_codec.proofs.transfer.uuencode.find_uuencode.Goals as goal

pub returns-in-Some-clause-read : goal.returns-in-Some-clause-read
returns-in-Some-clause-read c = ap Some c.file_at.ensures.read ∙ first_file-is c.args.text.now _ c.in-Some.ensures.place

pub returns-in-None-clause-read : goal.returns-in-None-clause-read
returns-in-None-clause-read c = first_file-is c.args.text.now _ c.in-None.ensures.place
