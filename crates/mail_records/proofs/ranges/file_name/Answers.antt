use Rattle.std.proofs.Common.{sym, ◌∙◌}
use Rattle.mail_records.proofs.lemmas.Nameless.{nameless-values}
use Rattle.mail_records.proofs.ranges.file_name.Goals as goal

pub returns-then-is_nameless-2 : goal.returns-then-is_nameless-2
returns-then-is_nameless-2 g c =
    nameless-values (g.K.KnownCharsets.known c.args.known.now) c.args.disposition.now c.args.ctype.now
    (sym c.is_nameless.ensures ∙ c.if-is_nameless.true) (sym c.is_nameless-then-is_nameless.ensures ∙ c.if-is_nameless-2.true)
