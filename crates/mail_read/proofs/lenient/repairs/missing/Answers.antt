use Rattle.mail_read.proofs.lemmas.lenient.Repairs.{missing-after}
use Rattle.mail_read.proofs.lenient.repairs.missing.Goals as goal

pub returns-in-AfterWord : goal.returns-in-AfterWord
returns-in-AfterWord c =
    missing-after c.args.is_alone c.args.position c.args.left.now c.chars.result.rest.now c.next.new.self.rest.now c.semicolon_unless.result.now c.in-Some.c
    c.may_follow.result c.utf8.left c.chars.ensures.rest c.in-Some.ensures.steps.0 c.in-AfterWord.is c.may_follow.ensures c.semicolon_unless.ensures
