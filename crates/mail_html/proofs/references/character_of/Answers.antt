use Rattle.std.proofs.Common.{◌∙◌, sym}
use Rattle.mail_html.proofs.lemmas.References.{character_high, character_itself, character_none, character_zero}
use Rattle.mail_html.proofs.references.character_of.Goals as goal

pub returns-then-number-eq0 : goal.returns-then-number-eq0
returns-then-number-eq0 c = character_zero c.args.number c.if-number-eq0.true

pub returns-then-is_high : goal.returns-then-is_high
returns-then-is_high c = character_high c.args.number (c.is_high.ensures.low c.if-is_high.true) (c.is_high.ensures.high c.if-is_high.true)

pub returns-in-Some : goal.returns-in-Some
returns-in-Some c = c.in-Some.ensures.value.1 ∙ character_itself c.args.number c.if-number-eq0.false (sym c.is_high.ensures.value ∙ c.if-is_high.false) c.in-Some.ensures.cases

pub returns-in-None : goal.returns-in-None
returns-in-None c = character_none c.args.number c.if-number-eq0.false c.in-None.ensures.cases
