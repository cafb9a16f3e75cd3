use Rattle.std.proofs.Common.{◌∙◌, sym}
use Rattle.std.proofs.lemmas.List.{take_rest}
use Rattle.mail_html.specs.Layout.{state_of}
use Rattle.mail_html.proofs.lemmas.Html.{front_markup, front_reference, front_text, text_of}
use Rattle.mail_html.proofs.html.push_front.Goals as goal

pub returns-then-begins_with-clause-read : goal.returns-then-begins_with-clause-read
returns-then-begins_with-clause-read c = front_markup c.args.references.now (state_of c.args.text.now.items c.args.layout) c.args.bytes.now _ (sym c.begins_with.ensures.value ∙ c.if-begins_with.true) (rw take_rest at c.in_ok-markup.ensures.read)

pub returns-then-begins_with-2-clause-read : goal.returns-then-begins_with-2-clause-read
returns-then-begins_with-2-clause-read c = front_reference c.args.references.now (state_of c.args.text.now.items c.args.layout) c.args.bytes.now _ (sym c.begins_with.ensures.value ∙ c.if-begins_with.false) (sym c.begins_with-2.ensures.value ∙ c.if-begins_with-2.true) (rw take_rest at c.in_ok-reference.ensures.read)

pub returns-clause-read : goal.returns-clause-read
returns-clause-read c = front_text c.args.references.now (state_of c.args.text.now.items c.args.layout) c.args.bytes.now _ (sym c.begins_with.ensures.value ∙ c.if-begins_with.false) (sym c.begins_with-2.ensures.value ∙ c.if-begins_with-2.false) (text_of c.args.bytes.now (state_of c.args.text.now.items c.args.layout) _ _ c.text_length-count.ensures.value c.in_ok-literal.ensures)
