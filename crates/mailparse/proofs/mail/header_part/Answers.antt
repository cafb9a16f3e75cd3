use Rattle.std.proofs.Common.{true, length, ap, arith}
use Rattle.mailparse.proofs.lemmas.HeaderPart.{header_part-≤}
use Rattle.mailparse.proofs.mail.header_part.Goals as goal

pub returns-clause-within : goal.returns-clause-within
returns-clause-within g c =
    let size = header_part-≤ true c.args.raw.now in
    let same = ap length c.before_dash_line.ensures in
    omega (arith, size, same)
