-- The text of HTML, with or without its links.
use Rattle.std.specs.Prelude.{ℕ, false, List, []}
use Rattle.std.specs.Str.Lossy.{utf8_lossy}
use Rattle.mail_html.specs.Html.{state_after}
use Rattle.mail_html.specs.Links.{linked_after, with_notes}
use Rattle.mail_html.specs.declared.layout.Gap.TheVariants.{Nothing}
use Rattle.mail_html.specs.declared.links.Links.{Links}
use Rattle.mail_html.specs.declared.links.Links.TheVariants.{Omitted, Footnotes}
use Rattle.mail_html.specs.declared.references.References.{References}

-- the bytes that are written
abbrev pub written : Links → References → List ℕ → List ℕ
written Omitted references html = (state_after 0 references ([], Nothing, false) html).0
written Footnotes references html =
    let linked = linked_after 0 references (([], Nothing, false), [], 0) html in
    with_notes linked.0.0 linked.1

-- the text of HTML
unfoldable pub html_text : Links → References → List ℕ → List ℕ
html_text links references html = utf8_lossy (written links references html)
