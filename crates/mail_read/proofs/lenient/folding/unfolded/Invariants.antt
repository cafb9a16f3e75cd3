-- The bytes so far and those of the rest are all.
use Rattle.std.proofs.Common.{◌≡◌, ◌++◌, length}
use Rattle.mail_read.specs.lenient.Folding.{unfolded}
use Rattle.mail_read.proofs.lenient.folding.unfolded.Given as goal

abbrev pub invariant-lines : goal.invariant-lines
invariant-lines l = l.text.items ++ unfolded l.left ≡ unfolded l.bytes

abbrev pub decreases-lines : goal.decreases-lines
decreases-lines l = length l.left
