use Rattle.std.proofs.Common.{◌∙◌, sym, arith}
use Rattle.mail_check.specs.private.Patterns.{matches_at}
use Rattle.mail_check.proofs.lemmas.Bytes.{offset_some}
use Rattle.mail_check.proofs.line_tests.next_match.Goals as goal

pub overflow_add-result : goal.overflow_add-result
overflow_add-result c =
    let found = offset_some (matches_at c.args.pattern c.args.bytes.now) c.args.bytes.now c.in-Some.place (sym c.in-Some.is ∙ c.first_match.ensures.value) in omega (arith, found.0)
