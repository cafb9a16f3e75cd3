use Rattle.std.proofs.Common.{◌∙◌, sym}
use Rattle.std.proofs.lemmas.List.{take_rest}
use Rattle.mail_html.proofs.lemmas.References.{numeric_decimal, numeric_hexadecimal}
use Rattle.mail_html.proofs.references.numeric.Goals as goal

pub returns-then-begins_x-clause-read : goal.returns-then-begins_x-clause-read
returns-then-begins_x-clause-read c = numeric_hexadecimal c.args.bytes.now _ _ (rw take_rest at (sym c.begins_x.ensures.value ∙ c.if-begins_x.true)) (rw take_rest at c.hexadecimal_length.ensures.value) c.by_digits.ensures.read

pub returns-clause-read : goal.returns-clause-read
returns-clause-read c = numeric_decimal c.args.bytes.now _ _ (rw take_rest at (sym c.begins_x.ensures.value ∙ c.if-begins_x.false)) (rw take_rest at c.decimal_length.ensures.value) c.by_digits-2.ensures.read
