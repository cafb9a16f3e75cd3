-- What the rows have, the rest of them has.
use Rattle.std.proofs.Common.{◌≡◌, drop}
use Rattle.mail_html.specs.References.{row_among}
use Rattle.mail_html.proofs.references.row_among.Given as goal

abbrev pub invariant-loop-row : goal.invariant-loop-row
invariant-loop-row l = row_among l.bytes (drop l.row-index l.rows) ≡ row_among l.bytes l.rows
