use Rattle.std.proofs.Common.{length, ◌-◌}
use Rattle.mail_codec.proofs.lemmas.Uuencode.{IsWithin}
use Rattle.mail_codec.proofs.transfer.uuencode.uudecoded_exceeds.Given as goal

abbrev pub invariant-lines : goal.invariant-lines
invariant-lines l = IsWithin l.lines l.at l.limit l.left

abbrev pub decreases-lines : goal.decreases-lines
decreases-lines l = length l.lines - l.at
