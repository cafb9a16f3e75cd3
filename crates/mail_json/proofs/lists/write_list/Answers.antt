use Rattle.std.proofs.Common.{map, ap, arith}
use Rattle.std.proofs.lemmas.List.{drop_all}
use Rattle.mail_json_text.specs.Printed.{text_of}
use Rattle.mail_json_text.proofs.lemmas.JsonText.{drop_next, wrote_all, wrote_more}
use Rattle.mail_json_text.proofs.lemmas.Objects.{list_written}
use Rattle.mail_json.proofs.lists.write_list.Goals as goal

pub loop-item-preserved : goal.loop-item-preserved
loop-item-preserved g c =
    let left = ap (map (g.T.ListItem.value (g.K.KnownCharsets.known c.args.known.now))) (drop_next c.args.items.now c.loop-item.item-index c.item-item.result (omega arith) c.item-item.is) in
    wrote_more text_of _ _ _ _ _ _ _ _ _ left c.loop-item.invariant c.in_ok-write_comma.ensures c.in_ok-write_item.ensures

pub returns : goal.returns
returns g c =
    let none = ap (map (g.T.ListItem.value (g.K.KnownCharsets.known c.args.known.now))) (drop_all c.loop-item.item-index c.args.items.now (omega arith)) in
    list_written _ _ _ _ _ _ c.in_ok-write_word.ensures (wrote_all text_of _ _ _ _ _ none c.loop-item.invariant) c.write_word-2.ensures
