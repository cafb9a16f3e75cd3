-- The state after the rest is the state after all bytes.
use Rattle.std.proofs.Common.{◌≡◌, drop}
use Rattle.mail_extract.specs.Stray.{after_bytes}
use Rattle.mail_extract.specs.declared.stray.LineState.TheVariants.{Start}
use Rattle.mail_extract.proofs.stray.has_stray_line.Given as goal

abbrev pub invariant-loop-byte : goal.invariant-loop-byte
invariant-loop-byte l = after_bytes l.state (drop l.byte-index l.block) ≡ after_bytes Start l.block
