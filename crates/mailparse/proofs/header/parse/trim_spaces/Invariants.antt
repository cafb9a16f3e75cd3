use Rattle.std.proofs.Common.{not, eqb}
use Rattle.mail_codec.specs.Places.{first_place, begins}
use Rattle.mail_codec.proofs.lemmas.Places.{PassedTo}
use Rattle.mailparse.proofs.header.parse.trim_spaces.Given as goal

abbrev pub invariant-loop-place : goal.invariant-loop-place
invariant-loop-place l =
    let test = begins (λ b. not (eqb b 32)) in
    PassedTo test l.bytes (first_place test l.bytes) l.place
