use Rattle.std.proofs.Common.{◌∙◌, sym}
use Rattle.std.proofs.lemmas.List.{take_rest}
use Rattle.mail_html.specs.Layout.{state_of}
use Rattle.mail_html.proofs.lemmas.Html.{markup_declared, markup_end, markup_itself, markup_start}
use Rattle.mail_html.proofs.html.push_markup.Goals as goal

pub returns-then-begins_letter-clause-read : goal.returns-then-begins_letter-clause-read
returns-then-begins_letter-clause-read c = markup_start c.args.references.now (state_of c.args.text.now.items c.args.layout) c.args.bytes.now _ (sym c.begins_letter.ensures.value ∙ c.if-begins_letter.true) c.in_ok-start.ensures.read

pub returns-then-begins_with-clause-read : goal.returns-then-begins_with-clause-read
returns-then-begins_with-clause-read c = markup_end c.args.references.now (state_of c.args.text.now.items c.args.layout) c.args.bytes.now _ (sym c.begins_letter.ensures.value ∙ c.if-begins_letter.false) (sym c.begins_with.ensures.value ∙ c.if-begins_with.true) (rw take_rest at c.in_ok-end.ensures.read)

pub returns-then-begins_declaration-clause-read : goal.returns-then-begins_declaration-clause-read
returns-then-begins_declaration-clause-read c = markup_declared c.args.references.now (state_of c.args.text.now.items c.args.layout) c.args.bytes.now _ (sym c.begins_letter.ensures.value ∙ c.if-begins_letter.false) (sym c.begins_with.ensures.value ∙ c.if-begins_with.false) (sym c.begins_declaration.ensures.value ∙ c.if-begins_declaration.true) c.declaration_length.ensures.value

pub returns-clause-read : goal.returns-clause-read
returns-clause-read c = markup_itself c.args.references.now (state_of c.args.text.now.items c.args.layout) c.args.bytes.now _ (sym c.begins_letter.ensures.value ∙ c.if-begins_letter.false) (sym c.begins_with.ensures.value ∙ c.if-begins_with.false) (sym c.begins_declaration.ensures.value ∙ c.if-begins_declaration.false) c.in_ok-literal.ensures
