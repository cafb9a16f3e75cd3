use Rattle.std.proofs.Common.{◌∙◌, sym}
use Rattle.mail_html.specs.Layout.{state_of}
use Rattle.mail_html.proofs.lemmas.Html.{end_itself, end_skipped, end_tag}
use Rattle.mail_html.proofs.html.push_end.Goals as goal

pub returns-then-begins_letter-clause-read : goal.returns-then-begins_letter-clause-read
returns-then-begins_letter-clause-read c = end_tag (state_of c.args.text.now.items c.args.layout) _ c.args.bytes.now _ _ _ (sym c.begins_letter.ensures.value ∙ c.if-begins_letter.true) c.name_length-name.ensures.value c.kind_of-kind.ensures c.tag_length.ensures.value (c.add_tag.ensures c.args.text.now.items)

pub returns-then-is_empty-clause-read : goal.returns-then-is_empty-clause-read
returns-then-is_empty-clause-read c = end_itself (state_of c.args.text.now.items c.args.layout) c.args.bytes.now _ (sym c.begins_letter.ensures.value ∙ c.if-begins_letter.false) (sym c.if-is_empty.ensures) c.in_ok-literal.ensures

pub returns-clause-read : goal.returns-clause-read
returns-clause-read c = end_skipped (state_of c.args.text.now.items c.args.layout) c.args.bytes.now _ (sym c.begins_letter.ensures.value ∙ c.if-begins_letter.false) (sym c.if-is_empty.ensures) c.past_byte.ensures.value
