use Rattle.std.proofs.Common.{refl}
use Rattle.mail_data.proofs.lemmas.CountedMails.{field_text-trimmed}
use Rattle.mail_data.proofs.mailbox.counted.field_text.Goals as goal

pub returns : goal.returns
returns c = field_text-trimmed c.args.field.now _ c.trim_ascii.result.now c.line_length.result c.min.result c.line_length.ensures.value c.min.ensures refl c.trim_ascii.ensures.value
