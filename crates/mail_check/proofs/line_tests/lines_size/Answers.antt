use Rattle.std.proofs.Common.{◌+◌, ◌≤◌, length, arith, rules}
use Rattle.std.specs.Prelude.{not, ◌==◌}
use Rattle.std.proofs.lemmas.List.Sums.{suffix_len_is}
use Rattle.mail_codec.specs.Ascii.{line_feed}
use Rattle.mail_check.proofs.line_tests.lines_size.Goals as goal

pub returns-in-Some-clause-value : goal.returns-in-Some-clause-value
returns-in-Some-clause-value c =
    let within : c.in-Some.last + 1 ≤ length c.args.window.now = search rules in
    let rest = suffix_len_is (λ b. not (b == line_feed)) c.args.window.now (c.in-Some.last + 1) 0 within (λ k low lt. search rules) (λ _. search rules) in
    omega (arith, rest, within)

pub returns-in-None-clause-value : goal.returns-in-None-clause-value
returns-in-None-clause-value c =
    let all = suffix_len_is (λ b. not (b == line_feed)) c.args.window.now 0 0 (omega arith) (λ k low lt. search rules) (λ lt. absurd (omega arith)) in
    omega (arith, all)
