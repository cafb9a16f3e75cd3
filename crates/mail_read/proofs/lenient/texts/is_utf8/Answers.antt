use Rattle.std.proofs.Common.{◌∙◌}
use Rattle.mail_read.proofs.lemmas.lenient.Texts.{utf8-decided}
use Rattle.mail_read.proofs.lenient.texts.is_utf8.Goals as goal

pub returns : goal.returns
returns c = c.is_ok.ensures.value ∙ utf8-decided _ c.args.bytes.now _ c.from_utf8.ensures.cases
