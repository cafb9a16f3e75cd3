use Rattle.std.proofs.Common.{◌∙◌, ap}
use Rattle.std.specs.Option.{unwrap_or}
use Rattle.mail_html.specs.Elements.{kind_of}
use Rattle.mail_html.specs.declared.elements.Kind.TheVariants.{Inline}
use Rattle.mail_html.proofs.elements.kind_of.Goals as goal

pub returns : goal.returns
unfolding kind_of
returns c = c.unwrap_or.ensures ∙ ap (λ o. unwrap_or o Inline) c.look_up.ensures
