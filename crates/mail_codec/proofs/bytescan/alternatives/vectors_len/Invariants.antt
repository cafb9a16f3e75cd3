use Rattle.std.proofs.Common.{◌==◌, ◌||◌, length, ◌-◌}
use Rattle.mail_codec.specs.Places.{begins, first_place}
use Rattle.mail_codec.proofs.lemmas.Places.{PassedTo}
use Rattle.mail_codec.proofs.bytescan.alternatives.vectors_len.Given as goal

abbrev pub invariant-vectors : goal.invariant-vectors
invariant-vectors l =
    let test = begins (λ b. b == l.first || b == l.second) in
    PassedTo test l.bytes (first_place test l.bytes) l.at

abbrev pub decreases-vectors : goal.decreases-vectors
decreases-vectors l = length l.bytes - l.at
