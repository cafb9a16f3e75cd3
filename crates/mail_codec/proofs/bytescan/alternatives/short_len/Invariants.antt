use Rattle.std.proofs.Common.{◌==◌, ◌||◌}
use Rattle.mail_codec.specs.Places.{begins, first_place}
use Rattle.mail_codec.proofs.lemmas.Places.{PassedTo}
use Rattle.mail_codec.proofs.bytescan.alternatives.short_len.Given as goal

abbrev pub invariant-loop-place : goal.invariant-loop-place
invariant-loop-place l =
    let test = begins (λ b. b == l.first || b == l.second) in
    PassedTo test l.bytes (first_place test l.bytes) l.place
