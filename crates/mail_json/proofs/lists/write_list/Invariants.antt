-- What was written after the bracket is completed by the items that are left.
use Rattle.std.proofs.Common.{drop, map}
use Rattle.mail_json_text.specs.Printed.{comma, text_of}
use Rattle.mail_json_text.proofs.lemmas.JsonText.{Wrote}
use Rattle.mail_json.proofs.lists.write_list.Given as goal

abbrev pub invariant-loop-item : goal.invariant-loop-item
invariant-loop-item g l =
    Wrote text_of (g.W.Write.contents l.initial.out) (g.W.Write.contents l.out) (comma l.position)
    (map (g.T.ListItem.value (g.K.KnownCharsets.known l.known)) (drop l.item-index l.items)) (map (g.T.ListItem.value (g.K.KnownCharsets.known l.known)) l.items)
