use Rattle.std.proofs.Common.{◌≡◌, ◌-◌, ◌<◌, ◌≤◌, length, drop}
use Rattle.mail_charsets.specs.Gb18030.{range_code}
use Rattle.mail_charsets.proofs.gb18030.code.Given as goal

-- the remaining ranges decide
abbrev pub invariant-rows : goal.invariant-rows
invariant-rows l = record {
  within : l.at ≤ length l.ranges;
  few : l.found < 0x11_0000;
  value : range_code (drop l.at l.ranges) l.found l.pointer ≡ range_code l.ranges 0 l.pointer;
}

abbrev pub decreases-rows : goal.decreases-rows
decreases-rows l = length l.ranges - l.at
