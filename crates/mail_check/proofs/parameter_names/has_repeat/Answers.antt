use Rattle.std.proofs.Common.{◌+◌, ◌∙◌, true, map, drop, sym, ap, arith}
use Rattle.std.proofs.lemmas.Map.Text.{btree_set_updates_text}
use Rattle.std.specs.BTreeSet.{contains_text}
use Rattle.std.specs.String.{string_bytes}
use Rattle.mail_check.specs.Parameters.{has_repeat}
use Rattle.mail_check.proofs.lemmas.Parameters.{name_next, repeat_next}
use Rattle.mail_check.proofs.parameter_names.has_repeat.Goals as goal

pub loop-name-preserved : goal.loop-name-preserved
loop-name-preserved c =
    let rest = drop (c.loop-name.name-index + 1) c.args.names.now in
    let left = name_next c.args.names.now c.loop-name.name-index c.name-item.result (omega arith) c.name-item.is in
    let key = string_bytes c.in_ok-clone.field-0 in
    repeat_next (contains_text c.loop-name.seen) (contains_text c.insert.new.self) key (string_bytes c.name-item.result) (map string_bytes rest) c.in_ok-insert.field-0
    c.in_ok-clone.ensures.cases c.in_ok-insert.ensures.added c.if-not-branch.false
    (btree_set_updates_text key c.loop-name.seen c.insert.new.self true c.in_ok-insert.ensures.updates)
    ∙ ap (has_repeat (contains_text c.loop-name.seen)) (sym left) ∙ c.loop-name.invariant
