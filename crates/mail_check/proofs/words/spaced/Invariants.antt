-- The bytes so far and those of the rest are all.
use Rattle.std.proofs.Common.{◌≡◌, ◌++◌, drop}
use Rattle.mail_read.specs.lenient.Values.{spaced}
use Rattle.mail_check.proofs.words.spaced.Given as goal

abbrev pub invariant-loop-byte : goal.invariant-loop-byte
invariant-loop-byte l = l.found.items ++ spaced (drop l.byte-index l.text) ≡ spaced l.text
