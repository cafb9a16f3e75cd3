use Rattle.std.proofs.Common.{ap, sym, ◌∙◌}
use Rattle.std.proofs.lemmas.Str.{chars-IsAscii}
use Rattle.mail_read.specs.lenient.Repairs.{lacks_nothing}
use Rattle.mail_read.specs.declared.lenient.repairs.Position.TheVariants.{BeforeWord}
use Rattle.mail_read.proofs.lemmas.lenient.Repairs.{whole-ascii}
use Rattle.mail_read.proofs.lenient.usual.is_usual.Goals as goal

pub returns : goal.returns
returns c = λ is.
    whole-ascii c.args.text.now c.if-not-is_ascii.ensures.cases
    (ap (lacks_nothing BeforeWord) (chars-IsAscii c.args.text.now c.if-not-is_ascii.ensures.cases ∙ sym c.as_bytes-bytes.ensures.value)
    ∙ c.words_end.ensures.usual (c.ends_usually.ensures is))
