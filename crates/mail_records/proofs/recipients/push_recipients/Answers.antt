use Rattle.std.proofs.Common.{◌+◌, [], ◌∷◌, map, drop, ap, arith}
use Rattle.mail_data.specs.BounceViews.{delivery}
use Rattle.mail_read.proofs.lemmas.InnerMails.{drop_next}
use Rattle.mail_records.specs.Recipients.{delivery_record, delivery_text}
use Rattle.mail_records.proofs.lemmas.Rows.{rows-more}
use Rattle.mail_records.proofs.recipients.push_recipients.Goals as goal

pub loop-recipient-preserved : goal.loop-recipient-preserved
loop-recipient-preserved c =
    let before = c.loop-recipient.invariant in
    let item = c.recipient-item.result in
    let left = ap (map delivery) (drop_next c.args.recipients.now c.loop-recipient.recipient-index item (omega arith) c.recipient-item.is) in
    rows-more delivery_record delivery_text c.loop-recipient.found c.push_recipient.new.found before.0 (delivery item ∷ []) _ _ _ left before.1 before.2 c.in_ok-push_recipient.ensures
