use Rattle.std.proofs.Common.{arith}
use Rattle.mail_extract.proofs.lemmas.Fits.{last_other, last_star, more_other, more_star}
use Rattle.mail_extract.proofs.pattern.is_next.Goals as goal

pub returns-then-first-eq42 : goal.returns-then-first-eq42
returns-then-first-eq42 c = λ rest before shorter.
    last_star c.args.first _ rest c.args.text.now _ (omega (arith, c.if-count-eq0.true)) c.if-first-eq42.true (before.each 0 (omega arith))

pub returns-else-first-eq42 : goal.returns-else-first-eq42
returns-else-first-eq42 c = λ rest before shorter.
    last_other c.args.first _ rest c.args.text.now (omega (arith, c.if-count-eq0.true)) c.if-first-eq42.false

pub returns-then-first-eq42-2 : goal.returns-then-first-eq42-2
returns-then-first-eq42-2 c = λ rest before shorter.
    more_star c.args.first _ rest c.args.text.now _ _ (omega (arith, c.if-count-eq0.false)) (omega (arith, c.requires.whole, c.requires.shorter)) c.if-first-eq42-2.true
    (before.each _ (omega (arith, c.requires.whole, c.requires.shorter))) (shorter.each _ (omega (arith, c.if-count-eq0.false)))

pub returns-else-first-eq42-2 : goal.returns-else-first-eq42-2
returns-else-first-eq42-2 c = λ rest before shorter.
    more_other c.args.first _ rest c.args.text.now _ _ (omega (arith, c.if-count-eq0.false)) (omega (arith, c.requires.whole, c.requires.shorter)) c.if-first-eq42-2.false
    c.eq_ignore_ascii_case.ensures (before.each _ (omega (arith, c.requires.whole, c.requires.shorter)))
