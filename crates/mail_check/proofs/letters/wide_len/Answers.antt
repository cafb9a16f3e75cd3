use Rattle.std.proofs.Common.{◌≡◌, not, length, refl, sym, take, ◌∙◌, arith}
use Rattle.std.proofs.lemmas.List.{length-take-le}
use Rattle.mail_codec.specs.Places.{begins, first_place}
use Rattle.mail_codec.proofs.lemmas.PlacesSearches.{PassedTo-chunk}
use Rattle.mail_codec.proofs.lemmas.Vectors.{no_match}
use Rattle.mail_check.specs.Bodies.{is_letter}
use Rattle.mail_check.proofs.letters.wide_len.Goals as goal

pub returns-then-wide_others-eq0-clause-passed : goal.returns-then-wide_others-eq0-clause-passed
returns-then-wide_others-eq0-clause-passed c =
    let bytes = c.args.bytes.now in
    let long : length (take 64 bytes) ≡ 64 = length-take-le 64 bytes (omega arith) in
    let none = no_match (λ b. not (is_letter b)) (take 64 bytes) _ c.wide_others.ensures c.if-wide_others-eq0.true in
    let passed = PassedTo-chunk (λ b. not (is_letter b)) bytes (take 64 bytes) (first_place (begins (λ b. not (is_letter b))) bytes) 0 64 (record { within = omega arith; later = omega arith }) (omega arith) refl (sym none ∙ long) in
    omega (arith, passed.later)
