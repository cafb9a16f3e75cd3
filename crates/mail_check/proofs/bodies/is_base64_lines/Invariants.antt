-- The state after the rest is the state after all bytes.
use Rattle.std.proofs.Common.{◌≡◌, drop}
use Rattle.mail_check.specs.Bodies.{after_bytes}
use Rattle.mail_check.specs.declared.bodies.Base64State.TheVariants.{Start}
use Rattle.mail_check.proofs.bodies.is_base64_lines.Given as goal

abbrev pub invariant-loop-byte : goal.invariant-loop-byte
invariant-loop-byte l = after_bytes l.state (drop l.byte-index l.rest) ≡ after_bytes Start l.bytes
