-- Each byte so far is a letter.
use Rattle.std.proofs.Common.{length, ◌-◌}
use Rattle.std.specs.Prelude.{not}
use Rattle.mail_codec.specs.Places.{begins, first_place}
use Rattle.mail_codec.proofs.lemmas.Places.{PassedTo}
use Rattle.mail_check.specs.Bodies.{is_letter}
use Rattle.mail_check.proofs.letters.vectors_len.Given as goal

abbrev pub invariant-vectors : goal.invariant-vectors
invariant-vectors l = PassedTo (begins (λ b. not (is_letter b))) l.bytes (first_place (begins (λ b. not (is_letter b))) l.bytes) l.at

abbrev pub decreases-vectors : goal.decreases-vectors
decreases-vectors l = length l.bytes - l.at
