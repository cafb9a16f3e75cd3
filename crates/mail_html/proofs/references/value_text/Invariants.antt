-- The text so far, and then that of the rest, is the whole text.
use Rattle.std.proofs.Common.{◌≡◌, ◌++◌, length}
use Rattle.mail_html.specs.References.{value_text}
use Rattle.mail_html.proofs.references.value_text.Given as goal

abbrev pub invariant-rest : goal.invariant-rest
invariant-rest l = l.text.items ++ value_text 0 l.references l.rest ≡ value_text 0 l.references l.bytes

abbrev pub decreases-rest : goal.decreases-rest
decreases-rest l = length l.rest
