use Rattle.std.proofs.Common.{sym, ap, ◌∙◌}
use Rattle.std.proofs.lemmas.List.{take_rest}
use Rattle.mail_address.specs.MailboxViews.{parts}
use Rattle.mail_address.specs.private.Plain.{ends_at, separates}
use Rattle.mail_address.proofs.lemmas.Plain.{plain_single}
use Rattle.mail_address.proofs.list.front_single.Goals as goal

pub returns : goal.returns
returns c =
    plain_single c.args.bytes.now (parts c.args.plain.now.parts) c.args.plain.now.len c.requires.front c.args.level
    (ap (ends_at (separates c.args.level)) (sym (take_rest c.args.bytes.now c.args.plain.now.len)) ∙ sym c.ends_single.ensures ∙ c.if-not-ends_single.false)
    c.args.start _ c.mailbox_at.ensures
