use Rattle.std.proofs.Common.{length, ◌-◌}
use Rattle.mail_codec.proofs.lemmas.Uuencode.{IsPassing}
use Rattle.mail_codec.proofs.transfer.uuencode.find_begin.Given as goal

abbrev pub invariant-lines : goal.invariant-lines
invariant-lines l = IsPassing l.text l.at

abbrev pub decreases-lines : goal.decreases-lines
decreases-lines l = length l.text - l.at
