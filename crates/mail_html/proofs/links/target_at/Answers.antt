use Rattle.std.proofs.Common.{◌∙◌, sym}
use Rattle.std.proofs.lemmas.List.{take_rest}
use Rattle.mail_html.proofs.lemmas.Links.{no_tag, target_of_tag}
use Rattle.mail_html.proofs.links.target_at.Goals as goal

pub returns-then-begins_with : goal.returns-then-begins_with
returns-then-begins_with c =
    target_of_tag c.args.references.now c.args.bytes.now _ (sym c.begins_with.ensures.value ∙ c.if-begins_with.true) (rw take_rest at c.in_ok-target.ensures)

pub returns : goal.returns
returns c = c.new.ensures.items ∙ no_tag c.args.references.now c.args.bytes.now (sym c.begins_with.ensures.value ∙ c.if-begins_with.false)
