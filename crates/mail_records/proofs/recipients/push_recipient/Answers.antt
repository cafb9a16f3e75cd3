use Rattle.mail_data.specs.BounceViews.{delivery}
use Rattle.mail_records.proofs.lemmas.Recipients.{next_recipient}
use Rattle.mail_records.proofs.recipients.push_recipient.Goals as goal

pub returns : goal.returns
returns c = λ deliveries are.
    next_recipient c.args.found.now deliveries (delivery c.args.recipient.now) _ _ _ _ _ _ _ _ _ _ _ c.in_ok-last.ensures.range
    c.in_ok-last.ensures.written c.in_ok-original.ensures.range c.in_ok-original.ensures.written c.in_ok-action.ensures.range
    c.in_ok-action.ensures.written c.in_ok-status.ensures.range c.in_ok-status.ensures.written c.in_ok-diagnostic.ensures.range
    c.in_ok-diagnostic.ensures.written c.in_ok-push.ensures.items are
