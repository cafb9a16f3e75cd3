-- What the rest makes of the text so far is the whole.
use Rattle.std.proofs.Common.{◌≡◌, length}
use Rattle.std.specs.List.{fold}
use Rattle.mail_html.specs.Layout.{with_collapsed}
use Rattle.mail_html.proofs.layout.push_collapsed.Given as goal

abbrev pub invariant-rest : goal.invariant-rest
invariant-rest l = fold with_collapsed (l.text.items, l.gap) l.rest ≡ fold with_collapsed (l.fn.text.items, l.fn.before) l.bytes

abbrev pub decreases-rest : goal.decreases-rest
decreases-rest l = length l.rest
