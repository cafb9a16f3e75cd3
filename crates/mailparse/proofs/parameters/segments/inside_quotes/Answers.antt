use Rattle.std.proofs.Common.{ℕ, List, length, get_or, ap, arith}
use Rattle.std.proofs.lemmas.Str.{lead_after_ascii}
use Rattle.mailparse.proofs.parameters.segments.inside_quotes.Goals as goal

pub range-requires-clause-start_boundary : goal.range-requires-clause-start_boundary
range-requires-clause-start_boundary c some =
    let same = c.as_bytes-bytes.ensures.value in
    let size = ap (λ (xs : List ℕ). length xs) same in
    let first = ap (λ (xs : List ℕ). get_or xs 0 0) same in
    let quote = c.if-bytes-ne34.false in
    (omega (arith, size, c.if-bytes-lt2.false), lead_after_ascii c.args.text.now 0 c.utf8.text (omega (arith, first, quote)))
