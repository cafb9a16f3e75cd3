use Rattle.std.proofs.Common.{◌∙◌, List, ℕ, ap, false}
use Rattle.mail_html.specs.Layout.{Written, with_text}
use Rattle.mail_html.specs.Links.{add_note}
use Rattle.mail_html.specs.declared.layout.Gap.TheVariants.{LineEnd}
use Rattle.mail_html.proofs.links.push_note.Goals as goal

pub returns : goal.returns
unfolding add_note
returns c =
    ap (λ (w : Written). w.0)
    (c.in_ok-push_text.ensures
    ∙ ap (λ (line : List ℕ). with_text false line (c.args.notes.now.items, LineEnd)) (c.as_slice.ensures.value ∙ c.in_ok-line.ensures))
