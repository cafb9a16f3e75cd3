use Rattle.std.proofs.Common.{string_bytes, sym, ap, ◌∙◌}
use Rattle.std.specs.Option.{option_map}
use Rattle.mailparse.specs.Pairs.{text_at}
use Rattle.mailparse.specs.private.Pairs.{pair_view}
use Rattle.mailparse.specs.Segments.{segments_of_rest}
use Rattle.mailparse.proofs.lemmas.Pairs.{stores_pair, stored}
use Rattle.mailparse.proofs.parameters.pairs.pairs.Goals as goal

pub loop-left-preserved-in_ok-insert : goal.loop-left-preserved-in_ok-insert
loop-left-preserved-in_ok-insert c =
    let key = c.in-Some-2.key in
    let value = c.in-Some-2.value in
    stores_pair (text_at c.loop-left.found) (text_at c.insert.new.self) _ (segments_of_rest c.loop-left.left)
    c.cut_segment.result.0.now (segments_of_rest c.cut_segment.result.1) (string_bytes key) (string_bytes value)
    (ap segments_of_rest c.in-Some.is ∙ c.cut_segment.ensures.cut)
    (sym c.in_ok-key.ensures ∙ ap (option_map pair_view) c.in-Some-2.is)
    (stored c.loop-left.found c.insert.new.self key value c.in_ok-insert.ensures.updates)
    c.loop-left.invariant
