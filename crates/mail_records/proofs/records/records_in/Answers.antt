use Rattle.std.proofs.Common.{◌≡◌, ◌+◌, List, length, map, drop, ap, ◌∙◌, arith, length-append}
use Rattle.std.proofs.lemmas.List.{drop_all}
use Rattle.mail_read.proofs.lemmas.InnerMails.{drop_next}
use Rattle.std.specs.Prelude.{vec_len}
use Rattle.mailparse.specs.Mail.{root}
use Rattle.mail_records.specs.RecordViews.{item_view}
use Rattle.mail_records.specs.Records.{item_headers}
use Rattle.mail_records.specs.declared.records.HeaderRecord.{HeaderRecord}
use Rattle.mail_records.proofs.lemmas.Records.{length-item_headers, more_headers, more_parts, own-at, records_all}
use Rattle.mail_records.proofs.records.records_in.Goals as goal

pub loop-node-preserved : goal.loop-node-preserved
loop-node-preserved g c =
    let known = g.K.KnownCharsets.known c.args.known.now in
    let item = item_view c.node-item.result in
    let rest = map item_view (drop (c.loop-node.node-index + 1) c.args.nodes.now) in
    let left = ap (map item_view) (drop_next c.args.nodes.now c.loop-node.node-index c.node-item.result (omega arith) c.node-item.is) in
    let appended = c.in_ok-push_record.ensures.headers in
    let old = c.loop-node.records.headers in
    let new = c.push_record.new.records.headers in
    let grown = ap (λ (hs : List HeaderRecord). length hs) appended ∙ length-append old.items (item_headers item) in
    let size : vec_len new ≡ vec_len old + length (root item.part).headers = omega (arith, grown, length-item_headers item, old.ok.0, new.ok.0) in
    record {
      parts = more_parts known _ _ _ _ item _ rest _ left c.in_ok-push_record.ensures.parts size c.loop-node.invariant.parts;
      headers = more_headers _ _ item _ rest _ left appended c.loop-node.invariant.headers;
    }

pub returns : goal.returns
returns g c =
    let known = g.K.KnownCharsets.known c.args.known.now in
    let none = ap (map item_view) (drop_all c.loop-node.node-index c.args.nodes.now (omega arith)) in
    records_all known _ _ _ _ _ none c.loop-node.invariant.parts c.loop-node.invariant.headers

pub push_record-requires : goal.push_record-requires
push_record-requires g c =
    own-at c.args.nodes.now c.loop-node.node-index c.node-item.result (drop (c.loop-node.node-index + 1) c.args.nodes.now) c.requires
    (drop_next c.args.nodes.now c.loop-node.node-index c.node-item.result (omega arith) c.node-item.is)
