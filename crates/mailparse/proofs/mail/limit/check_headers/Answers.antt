use Rattle.std.proofs.Common.{ℕ, Option, Ok, ap, ◌∙◌, arith}
use Rattle.mailparse.specs.Block.{header_part, read_block}
use Rattle.mailparse.specs.Limit.{headers_met, limited}
use Rattle.mailparse.proofs.lemmas.HeaderPart.{header_part-≤, read_block-met}
use Rattle.mailparse.proofs.lemmas.Limit.{headers_met-≤, limited-enough}
use Rattle.mailparse.proofs.mail.limit.check_headers.Goals as goal

pub returns-then-raw-most : goal.returns-then-raw-most
returns-then-raw-most g c =
    let lenient = (g.M.ReadingManner.manner c.args.manner.now).lenient_headers in
    let met = headers_met (read_block lenient c.args.raw.now) in
    let same = read_block-met lenient c.args.raw.now in
    let few = headers_met-≤ (header_part lenient c.args.raw.now) in
    let size = header_part-≤ lenient c.args.raw.now in
    let enough = c.if-raw-most.true in
    ap (λ (left : Option ℕ). limited {A = Unit {0}} left met (Ok (tt {0}))) c.in-Some.is
    ∙ limited-enough {A = Unit {0}} c.in-Some.most met (Ok (tt {0})) (omega (arith, same, few, size, enough))
