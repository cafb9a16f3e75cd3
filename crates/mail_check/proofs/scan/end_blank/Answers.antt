use Rattle.std.proofs.Common.{◌∙◌, ◌-◌, Some, ap, arith, sym}
use Rattle.mail_check.specs.private.Patterns.{is_blank_feed}
use Rattle.mail_check.proofs.lemmas.Bytes.{offset_some}
use Rattle.mail_check.proofs.lemmas.Patterns.{blank_found, blank_last, blank_of}
use Rattle.mail_check.proofs.scan.end_blank.Goals as goal

pub overflow_sub-result : goal.overflow_sub-result
overflow_sub-result c =
    let bytes = c.args.bytes.now in
    let found = offset_some (is_blank_feed bytes) bytes c.in-Some.feed (sym c.in-Some.is ∙ c.first_match.ensures.value) in
    omega (arith, c.end_offset.ensures, (blank_of bytes c.in-Some.feed found.1).0)

pub returns-in-Some : goal.returns-in-Some
returns-in-Some c =
    ap (λ n. Some (n - 1)) c.end_offset.ensures ∙ blank_found c.args.bytes.now c.in-Some.feed (sym c.in-Some.is ∙ c.first_match.ensures.value)

pub returns-in-None : goal.returns-in-None
returns-in-None c = c.last_blank.ensures ∙ blank_last c.args.bytes.now (sym c.in-None.is ∙ c.first_match.ensures.value)
