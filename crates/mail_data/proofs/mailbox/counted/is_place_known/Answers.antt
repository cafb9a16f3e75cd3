use Rattle.std.proofs.Common.{refl}
use Rattle.mail_data.proofs.lemmas.CountedMails.{known-count, known-none, known-past}
use Rattle.mail_data.proofs.mailbox.counted.is_place_known.Goals as goal

pub returns-in_default : goal.returns-in_default
returns-in_default c = known-none c.args.mail.now c.args.count c.in_default.is

pub returns-then-place-mail : goal.returns-then-place-mail
returns-then-place-mail c =
    known-count c.args.mail.now _ c.args.count c.in-Some.count c.block_length.result c.is_known.result c.in-Some.is c.block_length.ensures.value refl c.is_known.ensures

pub returns-else-place-mail : goal.returns-else-place-mail
returns-else-place-mail c =
    known-past c.args.mail.now c.args.count c.in-Some.count c.block_length.result c.in-Some.is c.block_length.ensures.value c.if-place-mail.false
