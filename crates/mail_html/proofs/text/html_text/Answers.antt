use Rattle.std.proofs.Common.{◌∙◌, List, ℕ, ap}
use Rattle.std.specs.Str.Lossy.{utf8_lossy}
use Rattle.mail_html.specs.Text.{html_text, written}
use Rattle.mail_html.proofs.text.html_text.Goals as goal

pub returns : goal.returns
unfolding html_text
returns c =
    c.in_ok-text.ensures.lossy ∙ ap utf8_lossy (c.as_slice.ensures.value ∙ c.in_ok-bytes.ensures)
    ∙ ap (λ (xs : List ℕ). utf8_lossy (written c.args.links c.args.references.now xs)) c.as_bytes.ensures.value
