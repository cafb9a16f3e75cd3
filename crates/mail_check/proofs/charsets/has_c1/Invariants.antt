-- Such a character is among the bytes that are left exactly if it is among all.
use Rattle.std.proofs.Common.{◌≡◌, drop}
use Rattle.mail_check.specs.Charsets.{has_c1_after}
use Rattle.mail_check.proofs.charsets.has_c1.Given as goal

abbrev pub invariant-loop-byte : goal.invariant-loop-byte
invariant-loop-byte l = has_c1_after l.before (drop l.byte-index l.octets) ≡ has_c1_after 0 l.octets
