use Rattle.std.proofs.Common.{length, ◌-◌}
use Rattle.mail_codec.proofs.lemmas.Uuencode.{IsDecoding}
use Rattle.mail_codec.proofs.transfer.uuencode.decode_uuencode.Given as goal

abbrev pub invariant-lines : goal.invariant-lines
invariant-lines l = IsDecoding l.lines l.bytes.items l.at

abbrev pub decreases-lines : goal.decreases-lines
decreases-lines l = length l.lines - l.at
