use Rattle.mail_codec.proofs.lemmas.Utf7.{unit_first, unit_second, unit_third}
use Rattle.std.proofs.Common.{◌%◌, ◌≡◌, arith}
use Rattle.mail_codec.proofs.charset.utf_7.unit.Goals as goal

pub returns-then-number-eq0 : goal.returns-then-number-eq0
returns-then-number-eq0 c = rw c.four_letters.ensures.value (unit_first c.args.letters.now c.args.number c.if-number-eq0.true)

pub returns-then-number-eq1 : goal.returns-then-number-eq1
returns-then-number-eq1 c = rw c.four_letters-then-number-eq1.ensures.value (unit_second c.args.letters.now c.args.number c.if-number-eq1.true)

pub returns : goal.returns
returns c =
    let last : c.args.number % 3 ≡ 2 = omega arith in rw c.four_letters-2.ensures.value (unit_third c.args.letters.now c.args.number last)
