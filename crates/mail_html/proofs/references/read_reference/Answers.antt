use Rattle.std.proofs.Common.{◌∙◌, sym}
use Rattle.mail_html.proofs.lemmas.References.{reference_name, reference_number}
use Rattle.mail_html.proofs.references.read_reference.Goals as goal

pub returns-then-begins_with-clause-read : goal.returns-then-begins_with-clause-read
returns-then-begins_with-clause-read c = reference_number c.args.references.now c.args.in_value c.args.bytes.now _ (sym c.begins_with.ensures.value ∙ c.if-begins_with.true) c.numeric.ensures.read

pub returns-clause-read : goal.returns-clause-read
returns-clause-read c = reference_name c.args.references.now c.args.in_value c.args.bytes.now _ (sym c.begins_with.ensures.value ∙ c.if-begins_with.false) c.read_named.ensures.read
