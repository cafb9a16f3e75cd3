use Rattle.std.proofs.Common.{◌+◌, ◌≤◌, length, arith, rules}
use Rattle.std.proofs.lemmas.List.Sums.{suffix_len_is}
use Rattle.mail_codec.specs.Ascii.{is_blank}
use Rattle.mail_codec.proofs.transfer.quoted_printable.trimmed_len.Goals as goal

pub returns-in-Some-clause-len : goal.returns-in-Some-clause-len
returns-in-Some-clause-len c =
    let within : c.in-Some.last + 1 ≤ length c.args.content.now = search rules in
    let rest = suffix_len_is is_blank c.args.content.now (c.in-Some.last + 1) 0 within (λ k low lt. search rules) (λ _. search rules) in
    omega (arith, rest, within)

pub returns-in-None-clause-len : goal.returns-in-None-clause-len
returns-in-None-clause-len c =
    let all = suffix_len_is is_blank c.args.content.now 0 0 (omega arith) (λ k low lt. search rules) (λ lt. absurd (omega arith)) in
    omega (arith, all)
