-- The first long line of the rest is that of all bytes.
use Rattle.std.proofs.Common.{◌≡◌, ◌≤◌, ◌-◌, drop, length}
use Rattle.mail_check.specs.LineTests.{first_line, is_long_line}
use Rattle.mail_check.proofs.lemmas.LineTests.{onwards}
use Rattle.mail_check.proofs.line_tests.long_line.Given as goal

abbrev pub invariant-windows : goal.invariant-windows
invariant-windows l = record {
  within : l.from ≤ length l.bytes;
  same : first_line is_long_line l.bytes ≡ onwards l.from (first_line is_long_line (drop l.from l.bytes));
}

abbrev pub decreases-windows : goal.decreases-windows
decreases-windows l = length l.bytes - l.from
