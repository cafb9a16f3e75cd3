use Rattle.std.proofs.Common.{◌∙◌}
use Rattle.mail_laws.proofs.lemmas.RenderConditions.{utf8_told}
use Rattle.mail_laws.proofs.render.conditions.is_text.Goals as goal

pub returns : goal.returns
returns c = c.is_ok.ensures.value ∙ utf8_told _ _ c.from_utf8.result c.args.bytes.now c.from_utf8.ensures.cases
