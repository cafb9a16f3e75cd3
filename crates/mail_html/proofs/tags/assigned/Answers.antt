use Rattle.std.proofs.Common.{◌∙◌, sym}
use Rattle.std.proofs.lemmas.List.{take_rest}
use Rattle.mail_html.proofs.lemmas.Tags.{assigned_none, assigned_some}
use Rattle.mail_html.proofs.tags.assigned.Goals as goal

pub returns-then-begins_with-clause-value : goal.returns-then-begins_with-clause-value
returns-then-begins_with-clause-value c = assigned_some c.args.bytes.now _ _ _ c.white_length-equals.ensures.value (rw take_rest at c.white_length-white.ensures.value) (rw take_rest at (sym c.begins_with.ensures.value ∙ c.if-begins_with.true)) c.value_from.ensures.value

pub returns-clause-value : goal.returns-clause-value
returns-clause-value c = assigned_none c.args.bytes.now _ c.white_length-equals.ensures.value (rw take_rest at (sym c.begins_with.ensures.value ∙ c.if-begins_with.false))
