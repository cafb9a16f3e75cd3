use Rattle.std.proofs.Common.{◌∙◌, sym}
use Rattle.std.proofs.lemmas.List.{take_rest}
use Rattle.mail_html.proofs.lemmas.Tags.{declared_comment, declared_other}
use Rattle.mail_html.proofs.tags.declaration_length.Goals as goal

pub returns-then-starts_with-clause-value : goal.returns-then-starts_with-clause-value
returns-then-starts_with-clause-value c = declared_comment c.args.bytes.now _ (sym c.starts_with.ensures.value ∙ c.if-starts_with.true) (rw take_rest at c.comment_length.ensures.value)

pub returns-clause-value : goal.returns-clause-value
returns-clause-value c = declared_other c.args.bytes.now _ (sym c.starts_with.ensures.value ∙ c.if-starts_with.false) c.past_byte.ensures.value
