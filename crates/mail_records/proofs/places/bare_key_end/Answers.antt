use Rattle.std.proofs.Common.{arith}
use Rattle.mail_records.proofs.lemmas.HeaderLengths.{blanks-done}
use Rattle.mail_records.proofs.places.bare_key_end.Goals as goal

pub returns-after-blanks-clause-value : goal.returns-after-blanks-clause-value
returns-after-blanks-clause-value c =
    blanks-done c.args.raw.now c.args.key c.blanks.end c.requires c.blanks.invariant.blanks (λ some. absurd (omega (arith, some, c.blanks-test.false)))
