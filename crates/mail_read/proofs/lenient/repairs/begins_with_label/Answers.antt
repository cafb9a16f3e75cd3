use Rattle.std.proofs.Common.{sym, ap, ◌∙◌}
use Rattle.std.proofs.lemmas.Str.{encodes-chars}
use Rattle.mailparse.specs.ExtendedValues.{label_in}
use Rattle.mail_read.specs.lenient.Repairs.{is_label}
use Rattle.mail_read.proofs.lenient.repairs.begins_with_label.Goals as goal

pub returns : goal.returns
returns c = c.is_label.ensures ∙ ap is_label (c.label_in.ensures ∙ ap label_in (sym (encodes-chars c.args.text.now c.utf8.text)))
