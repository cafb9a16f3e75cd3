-- The state after the rest is the state after all bytes.
use Rattle.std.proofs.Common.{◌≡◌, drop}
use Rattle.mail_check.specs.Charsets.{after_pair_bytes}
use Rattle.mail_check.specs.declared.charsets.PairState.TheVariants.{Whole}
use Rattle.mail_check.proofs.charsets.are_pairs.Given as goal

abbrev pub invariant-loop-byte : goal.invariant-loop-byte
invariant-loop-byte l = after_pair_bytes l.state (drop l.byte-index l.octets) ≡ after_pair_bytes Whole l.octets
