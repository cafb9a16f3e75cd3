use Rattle.std.proofs.Common.{◌∙◌, ap, refl, List, ℕ}
use Rattle.std.proofs.lemmas.Str.Ascii.{trim_ascii_is}
use Rattle.mail_html.specs.Html.{bracketed, trimmed}
use Rattle.mail_html.specs.Layout.{with_text}
use Rattle.mail_html.specs.References.{value_text}
use Rattle.mail_html.proofs.html.push_alternative.Goals as goal

pub returns : goal.returns
returns c =
    let alternative = c.as_slice.ensures.value ∙ c.in_ok-alternative.ensures ∙ ap (value_text 0 c.args.references.now) c.value_named.ensures in
    let shown = c.as_slice-2.ensures.value ∙ c.in_ok-shown.ensures ∙ ap bracketed (trim_ascii_is _ _ _ refl c.trim_ascii.ensures.value ∙ ap trimmed alternative) in
    c.in_ok-gap.ensures ∙ ap (λ (xs : List ℕ). with_text c.args.layout.is_kept xs (c.args.text.now.items, c.args.layout.gap)) shown
