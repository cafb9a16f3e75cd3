use Rattle.std.proofs.Common.{true, length, ap, arith}
use Rattle.std.proofs.lemmas.Result.{IfOk-weaker}
use Rattle.mailparse.proofs.lemmas.HeaderPart.{header_part-≤}
use Rattle.mailparse.proofs.mail.parse_block.Goals as goal

pub returns-in-Some-clause-bounds : goal.returns-in-Some-clause-bounds
returns-in-Some-clause-bounds g c =
    let size = header_part-≤ true c.args.raw.now in
    let same = ap length c.before_dash_line.ensures in
    c.with_bare_keys.ensures.bounds (length c.args.raw.now) (IfOk-weaker c.parse_headers-in-Some.result _ _ (λ found bounds. (bounds.0, omega (arith, bounds.1, size, same))) c.parse_headers-in-Some.ensures.bounds)
