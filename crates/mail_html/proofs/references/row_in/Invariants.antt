-- What the groups have, the rest of them has.
use Rattle.std.proofs.Common.{◌≡◌, drop}
use Rattle.std.specs.Prelude.{◌==◌, find, option_and_then}
use Rattle.mail_html.specs.References.{row_among, row_in}
use Rattle.mail_html.proofs.references.row_in.Given as goal

abbrev pub invariant-loop-group : goal.invariant-loop-group
invariant-loop-group l =
    option_and_then (λ group. row_among l.bytes group.1.now) (find (λ group. group.0 == l.first) (drop l.group-index l.groups)) ≡ row_in l.groups l.first l.bytes
