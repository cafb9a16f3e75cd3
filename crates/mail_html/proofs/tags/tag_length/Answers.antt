use Rattle.std.proofs.lemmas.List.{take_rest}
use Rattle.mail_html.proofs.lemmas.Tags.{tag_is}
use Rattle.mail_html.proofs.tags.tag_length.Goals as goal

pub returns-clause-value : goal.returns-clause-value
returns-clause-value c = tag_is c.args.bytes.now _ _ c.requires.name (rw take_rest at c.tag_rest_length.ensures.value)
