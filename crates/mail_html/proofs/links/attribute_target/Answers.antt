use Rattle.std.proofs.Common.{◌∙◌, ap, sym}
use Rattle.std.proofs.lemmas.List.{take_rest}
use Rattle.mail_html.specs.References.{value_text}
use Rattle.mail_html.proofs.lemmas.Links.{no_link, target_of_link}
use Rattle.mail_html.proofs.links.attribute_target.Goals as goal

pub returns-then-has_name : goal.returns-then-has_name
returns-then-has_name c =
    target_of_link c.args.references.now c.args.bytes.now _ (sym c.has_name.ensures.value ∙ c.if-has_name.true)
    (c.in_ok-target.ensures ∙ ap (value_text 0 c.args.references.now) (rw take_rest at c.value_named.ensures))

pub returns : goal.returns
returns c = c.new.ensures.items ∙ no_link c.args.references.now c.args.bytes.now (sym c.has_name.ensures.value ∙ c.if-has_name.false)
