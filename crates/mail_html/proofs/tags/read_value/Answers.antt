use Rattle.std.proofs.Common.{◌∙◌, sym}
use Rattle.std.proofs.lemmas.List.{take_rest}
use Rattle.mail_html.proofs.lemmas.Tags.{value_quoted, value_unquoted}
use Rattle.mail_html.proofs.tags.read_value.Goals as goal

pub returns-then-begins_quote-clause-value : goal.returns-then-begins_quote-clause-value
returns-then-begins_quote-clause-value c = value_quoted c.args.bytes.now _ (sym c.begins_quote.ensures.value ∙ c.if-begins_quote.true) (rw take_rest at c.quoted.ensures.value)

pub returns-clause-value : goal.returns-clause-value
returns-clause-value c = value_unquoted c.args.bytes.now _ (sym c.begins_quote.ensures.value ∙ c.if-begins_quote.false) c.value_length-count.ensures.value
