use Rattle.std.proofs.Common.{◌==◌}
use Rattle.mail_codec.specs.Places.{begins, first_place}
use Rattle.mail_codec.proofs.lemmas.Places.{PassedTo}
use Rattle.mail_codec.proofs.bytescan.single.tail_len.Given as goal

abbrev pub invariant-loop-place : goal.invariant-loop-place
invariant-loop-place l =
    PassedTo (begins (λ b. b == l.wanted)) l.tail (first_place (begins (λ b. b == l.wanted)) l.tail) l.place
