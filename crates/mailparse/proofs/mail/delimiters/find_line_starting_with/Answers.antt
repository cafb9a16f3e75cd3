use Rattle.std.proofs.Common.{◌≡◌, ◌∷◌, [], Some, List, ℕ, drop, subst, arith}
use Rattle.std.proofs.lemmas.List.{length-drop, take_rest}
use Rattle.mail_codec.specs.Places.{text_place}
use Rattle.mailparse.proofs.lemmas.Delimiters.{pair_within}
use Rattle.mailparse.proofs.mail.delimiters.find_line_starting_with.Goals as goal

pub returns-clause-bounds : goal.returns-clause-bounds
returns-clause-bounds c =
    let within = pair_within 10 c.args.byte c.in_ok-offset.offset (drop c.args.start c.args.raw.now)
    (subst (λ (l : List ℕ). Some c.in_ok-offset.offset ≡ text_place l (10 ∷ c.args.byte ∷ [])) (take_rest c.args.raw.now c.args.start) c.in_ok-offset.ensures) in
    let len = length-drop c.args.start c.args.raw.now in
    (omega arith, omega (arith, within, len))
