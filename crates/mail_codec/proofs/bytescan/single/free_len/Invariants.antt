use Rattle.std.proofs.Common.{◌==◌, length, ◌-◌}
use Rattle.mail_codec.specs.Places.{begins, first_place}
use Rattle.mail_codec.proofs.lemmas.Places.{PassedTo}
use Rattle.mail_codec.proofs.bytescan.single.free_len.Given as goal

abbrev pub invariant-blocks-2 : goal.invariant-blocks-2
invariant-blocks-2 l = PassedTo (begins (λ b. b == l.wanted)) l.bytes (first_place (begins (λ b. b == l.wanted)) l.bytes) l.at

abbrev pub decreases-blocks-2 : goal.decreases-blocks-2
decreases-blocks-2 l = length l.bytes - l.at
