-- The state after the rest is the state after all bytes.
use Rattle.std.proofs.Common.{◌≡◌, drop}
use Rattle.mail_check.specs.Senders.{after_sender_bytes}
use Rattle.mail_check.specs.declared.senders.SenderState.TheVariants.{Front}
use Rattle.mail_check.proofs.senders.is_plain_sender.Given as goal

abbrev pub invariant-loop-byte : goal.invariant-loop-byte
invariant-loop-byte l = after_sender_bytes l.state (drop l.byte-index l.bytes) ≡ after_sender_bytes Front l.bytes
