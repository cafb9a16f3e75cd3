-- What the rest makes of the text and its links is that of all bytes, and no more links were found than bytes were read.
use Rattle.std.proofs.Common.{◌≡◌, ◌+◌, ◌≤◌, false, [], length}
use Rattle.mail_html.specs.Layout.{state_of}
use Rattle.mail_html.specs.Links.{linked_after}
use Rattle.mail_html.specs.declared.layout.Gap.TheVariants.{Nothing}
use Rattle.mail_html.proofs.links.linked_bytes.Given as goal

abbrev pub invariant-rest : goal.invariant-rest
invariant-rest l = record {
  few : l.count + length l.rest ≤ length l.html;
  same : linked_after 0 l.references (state_of l.text.items l.layout, l.notes.items, l.count) l.rest
      ≡ linked_after 0 l.references (([], Nothing, false), [], 0) l.html;
}

abbrev pub decreases-rest : goal.decreases-rest
decreases-rest l = length l.rest
