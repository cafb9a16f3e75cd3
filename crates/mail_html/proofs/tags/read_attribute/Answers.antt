use Rattle.std.proofs.Common.{ℕ, ◌+◌, ap}
use Rattle.std.proofs.lemmas.List.{take_rest}
use Rattle.mail_html.proofs.lemmas.Tags.{attribute_is}
use Rattle.mail_html.proofs.tags.read_attribute.Goals as goal

pub returns-clause-value : goal.returns-clause-value
returns-clause-value c = attribute_is c.args.bytes.now _ _ (ap (λ (n : ℕ). 1 + n) (rw take_rest at c.attribute_length-name.ensures.value)) (rw take_rest at c.assigned-value.ensures.value)
