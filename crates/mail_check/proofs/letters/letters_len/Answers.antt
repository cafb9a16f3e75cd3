use Rattle.std.proofs.Common.{◌-◌, not, length, length-drop, drop, ap, arith}
use Rattle.std.proofs.lemmas.List.{take_all}
use Rattle.mail_codec.specs.Places.{begins, first_place}
use Rattle.mail_codec.proofs.lemmas.Places.{first_place-drop}
use Rattle.mail_check.specs.Bodies.{is_letter}
use Rattle.mail_check.proofs.letters.letters_len.Goals as goal

pub returns-clause-least : goal.returns-clause-least
returns-clause-least c =
    let bytes = c.args.bytes.now in
    let wide = c.wide_len-wide.result in
    let all = take_all (length bytes - wide) (drop wide bytes) (omega (arith, length-drop wide bytes)) in
    let rest = ap (first_place (begins (λ b. not (is_letter b)))) all in
    let whole = first_place-drop (begins (λ b. not (is_letter b))) bytes wide c.wide_len-wide.ensures.passed in
    omega (arith, whole, rest, c.vectors_len.ensures.least)
