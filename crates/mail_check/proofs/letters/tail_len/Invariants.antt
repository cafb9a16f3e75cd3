-- Each byte so far is a letter.
use Rattle.std.specs.Prelude.{not}
use Rattle.mail_codec.specs.Places.{begins, first_place}
use Rattle.mail_codec.proofs.lemmas.Places.{PassedTo}
use Rattle.mail_check.specs.Bodies.{is_letter}
use Rattle.mail_check.proofs.letters.tail_len.Given as goal

abbrev pub invariant-loop-place : goal.invariant-loop-place
invariant-loop-place l = PassedTo (begins (λ b. not (is_letter b))) l.tail (first_place (begins (λ b. not (is_letter b))) l.tail) l.place
