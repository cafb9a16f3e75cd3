use Rattle.std.proofs.Common.{not, eqb, ◌||◌}
use Rattle.mail_codec.specs.Places.{first_place, begins}
use Rattle.mail_codec.proofs.lemmas.Places.{PassedTo}
use Rattle.mailparse.proofs.mail.delimiters.trim_blanks.Given as goal

abbrev pub invariant-loop-place : goal.invariant-loop-place
invariant-loop-place l =
    let test = begins (λ b. not (eqb b 32 || eqb b 9)) in
    PassedTo test l.bytes (first_place test l.bytes) l.place
