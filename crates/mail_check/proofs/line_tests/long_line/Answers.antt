use Rattle.std.proofs.Common.{ℕ, ◌∙◌, ◌+◌, ◌-◌, take, drop, length, sym, ap, arith, length-drop}
use Rattle.mail_codec.specs.Ascii.{line_feed}
use Rattle.mail_check.specs.Bytes.{byte_at}
use Rattle.mail_check.specs.LineTests.{is_long_line}
use Rattle.mail_check.proofs.lemmas.LineTests.{gone_on, line_within, no_long, onwards}
use Rattle.mail_check.proofs.line_tests.long_line.Goals as goal

pub overflow_add-result : goal.overflow_add-result
overflow_add-result c =
    let low = line_within is_long_line (take (length c.args.bytes.now - c.windows.from) (drop c.windows.from c.args.bytes.now)) c.in-Some.offset (sym c.in-Some.is ∙ c.first_long.ensures) in omega (arith, low)

pub windows-preserved : goal.windows-preserved
windows-preserved c =
    record {
      within = omega (arith, c.lines_size-size.ensures.bounds, c.windows-test.true, c.windows.invariant.within);
      same = gone_on c.args.bytes.now c.windows.from c.lines_size-size.result (omega arith) (omega arith) (omega arith)
          (ap (λ (m : ℕ). byte_at (take m (drop c.windows.from c.args.bytes.now)) (c.lines_size-size.result - 1) line_feed) {x = 999} {y = c.windows.from + 999 - c.windows.from} (omega arith) ∙ c.lines_size-size.ensures.feed (omega arith)) c.windows.invariant.same;
    }

pub returns : goal.returns
returns c =
    let len = length-drop c.windows.from c.args.bytes.now in
    sym (c.windows.invariant.same ∙ ap (onwards c.windows.from) (no_long (drop c.windows.from c.args.bytes.now) (omega arith)))
