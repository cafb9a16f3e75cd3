use Rattle.std.proofs.Common.{◌∙◌, ap}
use Rattle.std.specs.Prelude.{not}
use Rattle.mail_check.proofs.lemmas.Patterns.{no_odd}
use Rattle.mail_check.proofs.scan.odd_escapes.Goals as goal

pub returns-then-is_none-clause-bad : goal.returns-then-is_none-clause-bad
returns-then-is_none-clause-bad c = (no_odd c.args.bytes.now _ c.first_match.ensures.value (c.is_none.ensures ∙ ap not c.if-is_none.true)).0

pub returns-then-is_none-clause-ended : goal.returns-then-is_none-clause-ended
returns-then-is_none-clause-ended c = (no_odd c.args.bytes.now _ c.first_match.ensures.value (c.is_none.ensures ∙ ap not c.if-is_none.true)).1
