-- The recipients so far, and those that are left.
use Rattle.std.proofs.Common.{◌≡◌, List, ◌++◌, map, drop}
use Rattle.mail_data.specs.Bounce.{Delivery}
use Rattle.mail_data.specs.BounceViews.{delivery}
use Rattle.mail_records.specs.Recipients.{delivery_record, delivery_text}
use Rattle.mail_records.specs.Rows.{ListsRows}
use Rattle.mail_records.proofs.recipients.push_recipients.Given as goal

abbrev pub invariant-loop-recipient : goal.invariant-loop-recipient
invariant-loop-recipient l =
    (done : List Delivery) × (done ++ map delivery (drop l.recipient-index l.recipients) ≡ map delivery l.recipients)
    × ListsRows delivery_record delivery_text done l.initial.found l.found
