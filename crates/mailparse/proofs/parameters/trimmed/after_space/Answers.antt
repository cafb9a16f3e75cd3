use Rattle.std.proofs.Common.{ℕ, List, length, get_or, sym, ap, ◌∙◌, arith}
use Rattle.std.proofs.lemmas.Bool.{eqb-false}
use Rattle.std.proofs.lemmas.Str.{lead_after_ascii}
use Rattle.mailparse.proofs.parameters.trimmed.after_space.Goals as goal

pub range_from-requires : goal.range_from-requires
range_from-requires c some =
    let same = c.as_bytes-bytes.ensures.value in
    let size = ap (λ (xs : List ℕ). length xs) same in
    let first = ap (λ (xs : List ℕ). get_or xs 0 0) same in
    let space = c.if-bytes-ne32.false in
    (omega (arith, size, eqb-false _ 0 (sym c.is_empty.ensures ∙ c.if-is_empty.false)), lead_after_ascii c.args.text.now 0 c.utf8.text (omega (arith, first, space)))
