-- What the rest makes of the state is the state after all bytes.
use Rattle.std.proofs.Common.{◌≡◌, false, [], length}
use Rattle.mail_html.specs.Html.{state_after}
use Rattle.mail_html.specs.Layout.{state_of}
use Rattle.mail_html.specs.declared.layout.Gap.TheVariants.{Nothing}
use Rattle.mail_html.proofs.html.text_bytes.Given as goal

abbrev pub invariant-rest : goal.invariant-rest
invariant-rest l = state_after 0 l.references (state_of l.text.items l.layout) l.rest ≡ state_after 0 l.references ([], Nothing, false) l.html

abbrev pub decreases-rest : goal.decreases-rest
decreases-rest l = length l.rest
