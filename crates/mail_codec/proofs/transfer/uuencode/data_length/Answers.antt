use Rattle.std.proofs.Common.{◌+◌, min, length, refl, sym, ◌∙◌, arith}
use Rattle.mail_codec.proofs.lemmas.Uuencode.{at_data, at_none, end_data}
use Rattle.mail_codec.proofs.transfer.uuencode.data_length.Goals as goal

pub returns-then-not-is_data-clause-value : goal.returns-then-not-is_data-clause-value
returns-then-not-is_data-clause-value c =
    let none = at_none c.args.text.now c.lines.at c.line_end-end.result (min (c.line_end-end.result + 1) (length c.args.text.now)) (omega (arith, c.lines-test.true)) c.line_end-end.ensures.value refl
    _ refl (sym c.is_data.ensures ∙ c.if-not-is_data.true) in
    omega (arith, none.1, c.lines.invariant.counted)

pub lines-preserved : goal.lines-preserved
lines-preserved c =
    let some = at_data c.args.text.now c.lines.at c.line_end-end.result c.min-next.result (omega (arith, c.lines-test.true)) c.line_end-end.ensures.value c.min-next.ensures
    _ refl (sym c.is_data.ensures ∙ c.if-not-is_data.false) in
    record { within = omega (arith, c.min-next.ensures); counted = omega (arith, some.1, c.lines.invariant.counted) }

pub returns-clause-value : goal.returns-clause-value
returns-clause-value c =
    let none = end_data c.args.text.now c.lines.at (omega (arith, c.lines-test.false)) in
    omega (arith, none.1, c.lines.invariant.counted)
