use Rattle.mail_codec.proofs.lemmas.UuencodeLaw.{lines_long, lines_read}
use Rattle.mail_codec.proofs.laws.uuencode_is_undone.Goals as goal

pub returns-clause-bytes : goal.returns-clause-bytes
returns-clause-bytes c pieces rest h = lines_read pieces rest h

pub returns-clause-read : goal.returns-clause-read
returns-clause-read c pieces rest h = lines_long pieces rest h
