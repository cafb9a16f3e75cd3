use Rattle.std.proofs.Common.{◌≡◌, List, length, map, sym, ap, subst, ◌∙◌}
use Rattle.std.specs.Prelude.{IfOk}
use Rattle.mail_records.specs.RecordViews.{item_view, lists}
use Rattle.mailparse.specs.Views.{tree_of}
use Rattle.mail_records.specs.OwnHeaders.{AllOwn}
use Rattle.mail_records.specs.Records.{Item, none, records_in}
use Rattle.mail_records.specs.declared.records.Node.{Node}
use Rattle.mail_records.proofs.lemmas.Records.{items-alone, items-first, own-added, own-alone}
use Rattle.mail_records.proofs.records.records_of.Goals as goal

pub returns-then-is_leaf : goal.returns-then-is_leaf
returns-then-is_leaf g c =
    let known = g.K.KnownCharsets.known c.args.known.now in
    subst (λ (items : List Item). IfOk c.records_in.result (λ found. lists found ≡ records_in known items))
    (items-alone c.args.mail.now none (sym c.is_leaf.ensures ∙ c.if-is_leaf.true)) c.records_in.ensures

pub returns : goal.returns
returns g c =
    let known = g.K.KnownCharsets.known c.args.known.now in
    let none = c.new-nodes.result.ok.0 ∙ ap (λ (nodes : List Node). length nodes) c.new-nodes.ensures.items in
    let same = ap (map item_view) c.as_slice.ensures.value
    ∙ items-first _ c.push_nodes.new.found.items _ _ _ _ c.new-nodes.ensures.items none c.in_ok-push_nodes.ensures.trees c.in_ok-push_nodes.ensures.ranges
    c.in_ok-push_nodes.ensures.families in
    subst (λ (items : List Item). IfOk c.records_in-2.result (λ found. lists found ≡ records_in known items)) same c.records_in-2.ensures

pub records_in-requires : goal.records_in-requires
records_in-requires g c = own-alone (tree_of c.args.mail.now) c.requires

pub records_in-requires-2 : goal.records_in-requires-2
records_in-requires-2 g c =
    subst (λ (nodes : List Node). AllOwn (map (λ node. tree_of node.part.now) nodes)) (sym c.as_slice.ensures.value)
    (own-added c.new-nodes.result.items c.push_nodes.new.found.items (tree_of c.args.mail.now) c.new-nodes.ensures.items c.in_ok-push_nodes.ensures.trees c.requires)
