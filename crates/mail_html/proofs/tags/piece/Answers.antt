use Rattle.std.proofs.Common.{◌∙◌, sym}
use Rattle.mail_html.proofs.lemmas.Tags.{piece_attribute, piece_separator}
use Rattle.mail_html.proofs.tags.piece.Goals as goal

pub returns-then-begins_separator-clause-value : goal.returns-then-begins_separator-clause-value
returns-then-begins_separator-clause-value c = piece_separator c.args.bytes.now (sym c.begins_separator.ensures.value ∙ c.if-begins_separator.true)

pub returns-clause-value : goal.returns-clause-value
returns-clause-value c = piece_attribute c.args.bytes.now _ (sym c.begins_separator.ensures.value ∙ c.if-begins_separator.false) c.read_attribute.ensures.value
