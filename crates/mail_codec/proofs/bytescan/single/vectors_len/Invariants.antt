use Rattle.std.proofs.Common.{◌==◌, length, ◌-◌}
use Rattle.mail_codec.specs.Places.{begins, first_place}
use Rattle.mail_codec.proofs.lemmas.Places.{PassedTo}
use Rattle.mail_codec.proofs.bytescan.single.vectors_len.Given as goal

abbrev pub invariant-vectors : goal.invariant-vectors
invariant-vectors l = PassedTo (begins (λ b. b == l.wanted)) l.bytes (first_place (begins (λ b. b == l.wanted)) l.bytes) l.at

abbrev pub decreases-vectors : goal.decreases-vectors
decreases-vectors l = length l.bytes - l.at
