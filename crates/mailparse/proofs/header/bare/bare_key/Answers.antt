use Rattle.std.proofs.Common.{sym, ◌∙◌, arith}
use Rattle.mailparse.proofs.lemmas.BareKeys.{blanks_all}
use Rattle.mailparse.proofs.header.bare.bare_key.Goals as goal
use Rattle.mailparse.proofs.header.bare.bare_key.Goals.{then-blanks-test+else-is_blank_at, else-blanks-test}

pub returns : goal.returns
returns c = elim c.blanks-test.branch [
  | then-blanks-test+else-is_blank_at w ↦ blanks_all c.args.key.now c.blanks.end c.blanks.invariant (λ some. sym w.is_blank_at.ensures ∙ w.if-is_blank_at.false)
  | else-blanks-test w ↦ blanks_all c.args.key.now c.blanks.end c.blanks.invariant (λ some. absurd (omega (arith, some, w.blanks-test.false)))
]
