-- The rest decides.
use Rattle.std.proofs.Common.{◌≡◌, length}
use Rattle.mail_address.specs.Folding.{has_no_control, unfolded}
use Rattle.mail_address.proofs.folding.is_unfolded_clean.Given as goal

abbrev pub invariant-bytes : goal.invariant-bytes
invariant-bytes l = has_no_control (unfolded l.left) ≡ has_no_control (unfolded l.bytes)

abbrev pub decreases-bytes : goal.decreases-bytes
decreases-bytes l = length l.left
