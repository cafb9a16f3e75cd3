use Rattle.std.proofs.Common.{◌+◌, ◌-◌, min, length, drop, take, refl, sym, ap, ◌∙◌, arith, length-append}
use Rattle.std.proofs.lemmas.Bool.Decides.{nat_tests}
use Rattle.mail_codec.specs.Uuencode.{data_bytes, line_bytes}
use Rattle.mail_codec.proofs.lemmas.Uuencode.{at_data, at_none, end_data, line_bytes-length}
use Rattle.mail_codec.proofs.transfer.uuencode.uudecoded_exceeds.Goals as goal

pub returns-then-not-is_data : goal.returns-then-not-is_data
returns-then-not-is_data c =
    let none = at_none c.args.lines.now c.lines.at c.line_end-end.result (min (c.line_end-end.result + 1) (length c.args.lines.now)) (omega (arith, c.lines-test.true)) c.line_end-end.ensures.value refl
    _ refl (sym c.is_data.ensures ∙ c.if-not-is_data.true) in
    let empty = ap length none.0 in
    grind (arith, nat_tests, empty, c.lines.invariant.counted, c.lines.invariant.less)

pub lines-preserved : goal.lines-preserved
lines-preserved c =
    let some = at_data c.args.lines.now c.lines.at c.line_end-end.result c.min-next.result (omega (arith, c.lines-test.true)) c.line_end-end.ensures.value c.min-next.ensures
    _ refl (sym c.is_data.ensures ∙ c.if-not-is_data.false) in
    let more = ap length some.0 ∙ length-append (line_bytes _) (data_bytes (drop c.min-next.result c.args.lines.now)) in
    let count = line_bytes-length (take (c.line_end-end.result - c.lines.at) (drop c.lines.at c.args.lines.now)) in
    record {
      within = omega (arith, c.min-next.ensures);
      less = omega (arith, c.lines.invariant.less);
      counted = omega (arith, more, count, c.value_at-count.ensures.value, c.lines.invariant.counted, c.if-count-left.false);
    }

pub returns-then-count-left : goal.returns-then-count-left
returns-then-count-left c =
    let some = at_data c.args.lines.now c.lines.at c.line_end-end.result (min (c.line_end-end.result + 1) (length c.args.lines.now)) (omega (arith, c.lines-test.true)) c.line_end-end.ensures.value refl
    _ refl (sym c.is_data.ensures ∙ c.if-not-is_data.false) in
    let more = ap length some.0 ∙ length-append (line_bytes _) (data_bytes _) in
    let count = line_bytes-length (take (c.line_end-end.result - c.lines.at) (drop c.lines.at c.args.lines.now)) in
    grind (arith, nat_tests, more, count, c.value_at-count.ensures.value, c.lines.invariant.counted, c.lines.invariant.less, c.if-count-left.true)

pub returns : goal.returns
returns c =
    let none = end_data c.args.lines.now c.lines.at (omega (arith, c.lines-test.false)) in
    let empty = ap length none.0 in
    grind (arith, nat_tests, empty, c.lines.invariant.counted, c.lines.invariant.less)
