use Rattle.std.proofs.Common.{◌≡◌, ◌≢◌, ◌≤◌, ◌<◌, ◌+◌, ◌*◌, ◌-◌, ◌++◌, length, take, drop, None}
use Rattle.mail_codec.specs.QuotedPrintable.{first_escape, quoted_printable}
use Rattle.mail_codec.proofs.transfer.quoted_printable.put_escapes.Given as goal

-- the escapes so far, then the rest, are all
abbrev pub invariant-escapes : goal.invariant-escapes
invariant-escapes l = record {
  within : l.from + 3 * l.count ≤ length l.text;
  fits : l.count ≤ length l.output;
  first : 0 < l.count → first_escape (drop l.from l.text) ≢ None;
  so_far : take l.count l.output ++ quoted_printable (drop (l.from + 3 * l.count) l.text) ≡ quoted_printable (drop l.from l.text);
}

abbrev pub decreases-escapes : goal.decreases-escapes
decreases-escapes l = length l.output - l.count
