use Rattle.std.proofs.Common.{refl}
use Rattle.mail_records.specs.RecordViews.{item_view}
use Rattle.mail_records.proofs.lemmas.Records.{part_record-is}
use Rattle.mail_records.proofs.records.record_of.Goals as goal

pub returns : goal.returns
returns g c =
    let known = g.K.KnownCharsets.known c.args.known.now in
    part_record-is known c.args.first (item_view c.args.node.now) _ _ _ _ _ _ _ refl refl c.byte_range-bytes.ensures c.body_range-body.ensures
    c.header_count-count.ensures c.in_ok-encoding.ensures c.in_ok-shown.ensures
