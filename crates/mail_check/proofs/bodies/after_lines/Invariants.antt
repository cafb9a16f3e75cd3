-- The state after the rest is the state after all bytes.
use Rattle.std.proofs.Common.{◌≡◌, length}
use Rattle.mail_check.specs.Bodies.{after_bytes}
use Rattle.mail_check.specs.declared.bodies.Base64State.TheVariants.{Start}
use Rattle.mail_check.proofs.bodies.after_lines.Given as goal

abbrev pub invariant-lines : goal.invariant-lines
invariant-lines l = after_bytes Start l.rest ≡ after_bytes Start l.bytes

abbrev pub decreases-lines : goal.decreases-lines
decreases-lines l = length l.rest
