-- What the rest makes of the text so far is the whole.
use Rattle.std.proofs.Common.{◌≡◌, length}
use Rattle.std.specs.List.{fold}
use Rattle.mail_html.specs.Layout.{with_kept}
use Rattle.mail_html.proofs.layout.push_kept.Given as goal

abbrev pub invariant-rest : goal.invariant-rest
invariant-rest l = fold with_kept (l.text.items, l.gap) l.rest ≡ fold with_kept (l.fn.text.items, l.fn.before) l.bytes

abbrev pub decreases-rest : goal.decreases-rest
decreases-rest l = length l.rest
