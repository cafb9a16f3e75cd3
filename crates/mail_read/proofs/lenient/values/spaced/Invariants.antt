-- The bytes so far and those of the rest are all.
use Rattle.std.proofs.Common.{◌≡◌, ◌++◌, drop}
use Rattle.mail_read.specs.lenient.Values.{spaced}
use Rattle.mail_read.proofs.lenient.values.spaced.Given as goal

abbrev pub invariant-loop-byte : goal.invariant-loop-byte
invariant-loop-byte l = l.text.items ++ spaced (drop l.byte-index l.encoded) ≡ spaced l.encoded
