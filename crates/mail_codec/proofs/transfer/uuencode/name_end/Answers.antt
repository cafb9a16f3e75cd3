use Rattle.std.proofs.Common.{◌+◌, ◌≤◌, length, arith, rules}
use Rattle.std.specs.Char.{is_ascii_whitespace}
use Rattle.std.proofs.lemmas.List.Sums.{suffix_len_is}
use Rattle.mail_codec.proofs.transfer.uuencode.name_end.Goals as goal

pub returns-in-Some-clause-value : goal.returns-in-Some-clause-value
returns-in-Some-clause-value c =
    let within : c.in-Some.last + 1 ≤ length c.args.line.now = search rules in
    let rest = suffix_len_is is_ascii_whitespace c.args.line.now (c.in-Some.last + 1) 0 within (λ k low lt. search rules) (λ _. search rules) in
    omega (arith, rest, within)

pub returns-in-None-clause-value : goal.returns-in-None-clause-value
returns-in-None-clause-value c =
    let all = suffix_len_is is_ascii_whitespace c.args.line.now 0 0 (omega arith) (λ k low lt. search rules) (λ lt. absurd (omega arith)) in
    omega (arith, all)
