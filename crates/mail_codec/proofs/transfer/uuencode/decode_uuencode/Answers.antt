use Rattle.std.proofs.Common.{ℕ, List, ◌+◌, ◌++◌, drop, min, length, refl, sym, ap, ◌∙◌, arith, append-nil, append_assoc}
use Rattle.mail_codec.specs.Uuencode.{data_bytes, line_bytes}
use Rattle.mail_codec.proofs.lemmas.Uuencode.{at_data, at_none, end_data}
use Rattle.mail_codec.proofs.transfer.uuencode.decode_uuencode.Goals as goal

pub returns-then-not-is_data-clause-bytes : goal.returns-then-not-is_data-clause-bytes
returns-then-not-is_data-clause-bytes c =
    let none = at_none c.args.lines.now c.lines.at c.line_end-end.result (min (c.line_end-end.result + 1) (length c.args.lines.now)) (omega (arith, c.lines-test.true)) c.line_end-end.ensures.value refl
    _ refl (sym c.is_data.ensures ∙ c.if-not-is_data.true) in
    sym (append-nil c.lines.bytes.items) ∙ ap (λ (x : List ℕ). c.lines.bytes.items ++ x) (sym none.0) ∙ c.lines.invariant.so_far

pub returns-then-not-is_data-clause-read : goal.returns-then-not-is_data-clause-read
returns-then-not-is_data-clause-read c =
    let none = at_none c.args.lines.now c.lines.at c.line_end-end.result (min (c.line_end-end.result + 1) (length c.args.lines.now)) (omega (arith, c.lines-test.true)) c.line_end-end.ensures.value refl
    _ refl (sym c.is_data.ensures ∙ c.if-not-is_data.true) in
    omega (arith, none.1, c.lines.invariant.counted)

pub lines-preserved : goal.lines-preserved
lines-preserved c =
    let some = at_data c.args.lines.now c.lines.at c.line_end-end.result c.min-next.result (omega (arith, c.lines-test.true)) c.line_end-end.ensures.value c.min-next.ensures
    _ refl (sym c.is_data.ensures ∙ c.if-not-is_data.false) in
    record {
      within = omega (arith, c.min-next.ensures);
      so_far =
          ap (λ (x : List ℕ). x ++ data_bytes (drop c.min-next.result c.args.lines.now)) c.in_ok-push_line.ensures
          ∙ append_assoc c.lines.bytes.items _ (data_bytes (drop c.min-next.result c.args.lines.now))
          ∙ ap (λ (x : List ℕ). c.lines.bytes.items ++ x) (sym some.0)
          ∙ c.lines.invariant.so_far;
      counted = omega (arith, some.1, c.lines.invariant.counted);
    }

pub returns-clause-bytes : goal.returns-clause-bytes
returns-clause-bytes c =
    let none = end_data c.args.lines.now c.lines.at (omega (arith, c.lines-test.false)) in
    sym (append-nil c.lines.bytes.items) ∙ ap (λ (x : List ℕ). c.lines.bytes.items ++ x) (sym none.0) ∙ c.lines.invariant.so_far

pub returns-clause-read : goal.returns-clause-read
returns-clause-read c =
    let none = end_data c.args.lines.now c.lines.at (omega (arith, c.lines-test.false)) in
    omega (arith, none.1, c.lines.invariant.counted)
