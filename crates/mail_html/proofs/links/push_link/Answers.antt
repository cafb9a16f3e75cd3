use Rattle.std.proofs.Common.{◌∙◌, List, ℕ, ap, refl, sym}
use Rattle.std.proofs.lemmas.Str.Ascii.{trim_ascii_is}
use Rattle.mail_html.specs.Layout.{Written, state_of, with_text}
use Rattle.mail_html.specs.Links.{add_note}
use Rattle.mail_html.proofs.lemmas.Links.{link_added, link_left_out}
use Rattle.mail_html.proofs.links.push_link.Goals as goal

pub returns-then-is_empty-clause-read : goal.returns-then-is_empty-clause-read
returns-then-is_empty-clause-read c =
    link_left_out c.args.target.now _ _ (trim_ascii_is _ _ _ refl c.trim_ascii-target.ensures.value) (sym c.if-is_empty.ensures)

pub returns-clause-read : goal.returns-clause-read
returns-clause-read c =
    let layout = c.args.layout in
    link_added c.args.target.now c.trim_ascii-target.result.now (state_of c.args.text.now.items layout) _ c.args.notes.now.items _ c.args.count
    (trim_ascii_is _ _ _ refl c.trim_ascii-target.ensures.value) (sym c.if-is_empty.ensures)
    (ap (λ (w : Written). (w.0, w.1, layout.is_kept))
    (c.in_ok-gap.ensures ∙ ap (λ (xs : List ℕ). with_text layout.is_kept xs (c.args.text.now.items, layout.gap)) (c.as_bytes.ensures.value ∙ c.in_ok-mark.ensures.ok)))
    (c.in_ok-push_note.ensures
    ∙ ap (λ (xs : List ℕ). add_note xs c.trim_ascii-target.result.now c.args.notes.now.items) (c.as_bytes-2.ensures.value ∙ c.in_ok-mark.ensures.ok))
