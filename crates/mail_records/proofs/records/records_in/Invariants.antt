-- The records so far are completed by those of the messages that are left.
use Rattle.std.proofs.Common.{◌≡◌, ◌++◌, map, drop}
use Rattle.std.specs.List.{flat_map}
use Rattle.std.specs.Prelude.{vec_len}
use Rattle.mail_records.specs.RecordViews.{item_view}
use Rattle.mail_records.specs.Records.{item_headers, part_records}
use Rattle.mail_records.proofs.records.records_in.Given as goal

abbrev pub invariant-loop-node : goal.invariant-loop-node
invariant-loop-node g l =
    let known = g.K.KnownCharsets.known l.known in record {
      parts : l.records.parts.items ++ part_records known (vec_len l.records.headers) (map item_view (drop l.node-index l.nodes)) ≡ part_records known 0 (map item_view l.nodes);
      headers : l.records.headers.items ++ flat_map item_headers (map item_view (drop l.node-index l.nodes)) ≡ flat_map item_headers (map item_view l.nodes);
    }
