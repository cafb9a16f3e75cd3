-- The row is that of the rest of the pattern.
use Rattle.std.proofs.Common.{◌+◌, ◌≤◌, drop, length}
use Rattle.mail_extract.specs.Choice.{fits}
use Rattle.mail_extract.specs.private.Fits.{IsRow}
use Rattle.mail_extract.proofs.pattern.fits.Given as goal

abbrev pub invariant-left : goal.invariant-left
invariant-left l = record {
  bounds : l.left ≤ length l.fn.pattern;
  row : IsRow (fits (drop l.left l.fn.pattern)) l.fn.text (length l.fn.text + 1) l.row.items;
}

abbrev pub decreases-left : goal.decreases-left
decreases-left l = l.left
