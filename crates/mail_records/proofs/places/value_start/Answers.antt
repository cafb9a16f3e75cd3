use Rattle.std.proofs.Common.{◌≡◌, true, eqb, drop, sym, ◌∙◌}
use Rattle.mail_codec.specs.Places.{begins}
use Rattle.mail_records.proofs.lemmas.HeaderLengths.{start-with}
use Rattle.mail_records.proofs.places.value_start.Goals as goal

pub returns : goal.returns
returns c =
    let raw = c.args.raw.now in
    let is : begins (λ b. eqb b 58) (drop c.args.key raw) ≡ true = sym c.is_at.ensures ∙ c.if-not-is_at.false in
    start-with raw c.args.key c.after_spaces.result c.requires is c.after_spaces.ensures
