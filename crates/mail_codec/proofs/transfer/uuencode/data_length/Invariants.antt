use Rattle.std.proofs.Common.{length, ◌-◌}
use Rattle.mail_codec.proofs.lemmas.Uuencode.{IsCounting}
use Rattle.mail_codec.proofs.transfer.uuencode.data_length.Given as goal

abbrev pub invariant-lines : goal.invariant-lines
invariant-lines l = IsCounting l.text l.at

abbrev pub decreases-lines : goal.decreases-lines
decreases-lines l = length l.text - l.at
