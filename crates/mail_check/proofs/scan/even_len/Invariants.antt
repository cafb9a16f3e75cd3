-- No odd end begins before the offset that the vectors have reached.
use Rattle.std.proofs.Common.{◌-◌, ◌≤◌, length}
use Rattle.mail_check.specs.private.Patterns.{is_odd_end}
use Rattle.mail_check.proofs.lemmas.Bytes.{NoneBefore}
use Rattle.mail_check.proofs.scan.even_len.Given as goal

abbrev pub invariant-vectors : goal.invariant-vectors
invariant-vectors l = record {
  within : l.at ≤ length l.bytes;
  none : NoneBefore (is_odd_end l.bytes) l.at;
}

abbrev pub decreases-vectors : goal.decreases-vectors
decreases-vectors l = length l.bytes - l.at
