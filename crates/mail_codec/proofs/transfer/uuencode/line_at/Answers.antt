use Rattle.mail_codec.proofs.lemmas.Uuencode.{line_at-is}
use Rattle.mail_codec.proofs.transfer.uuencode.line_at.Goals as goal

pub returns-clause-value : goal.returns-clause-value
returns-clause-value c = line_at-is c.args.text.now c.args.at _ c.line_end-end.ensures.value
