-- The bytes so far and those of the rest are all.
use Rattle.std.proofs.Common.{◌≡◌, ◌++◌, false, drop}
use Rattle.mail_address.specs.Folding.{without_white}
use Rattle.mail_address.proofs.folding.push_without_white.Given as goal

abbrev pub invariant-loop-byte : goal.invariant-loop-byte
invariant-loop-byte l = l.text.items ++ without_white l.is_quoted (drop l.byte-index l.bytes) ≡ l.fn.text.items ++ without_white false l.bytes
