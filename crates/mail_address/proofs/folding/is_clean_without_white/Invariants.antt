-- The rest decides.
use Rattle.std.proofs.Common.{◌≡◌, false, drop}
use Rattle.mail_address.specs.Folding.{has_no_control, without_white}
use Rattle.mail_address.proofs.folding.is_clean_without_white.Given as goal

abbrev pub invariant-loop-byte : goal.invariant-loop-byte
invariant-loop-byte l = has_no_control (without_white l.is_quoted (drop l.byte-index l.bytes)) ≡ has_no_control (without_white false l.bytes)
