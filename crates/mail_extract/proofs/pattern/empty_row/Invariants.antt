-- The shortest rests.
use Rattle.std.proofs.Common.{[], ◌+◌}
use Rattle.mail_extract.specs.Choice.{fits}
use Rattle.mail_extract.specs.private.Fits.{IsRow}
use Rattle.mail_extract.proofs.pattern.empty_row.Given as goal

abbrev pub invariant-loop-byte : goal.invariant-loop-byte
invariant-loop-byte l = IsRow (fits []) l.fn.text (l._byte-index + 1) l.row.items
