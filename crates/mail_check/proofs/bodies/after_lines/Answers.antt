use Rattle.std.proofs.Common.{◌∙◌}
use Rattle.mail_check.proofs.lemmas.Bodies.{groups_skipped, line_end_skipped}
use Rattle.mail_check.proofs.bodies.after_lines.Goals as goal

pub returns-then-end-eq0 : goal.returns-then-end-eq0
returns-then-end-eq0 c = groups_skipped c.lines.rest.now c.letters_len.result c.letters_len.ensures.least c.if-len-eq0.false ∙ c.lines.invariant

pub lines-preserved : goal.lines-preserved
lines-preserved c =
    line_end_skipped _ c.line_end_len-end.result c.line_end_len-end.ensures.value c.if-end-eq0.false
    ∙ groups_skipped c.lines.rest.now c.letters_len.result c.letters_len.ensures.least c.if-len-eq0.false ∙ c.lines.invariant
