use Rattle.std.proofs.Common.{List, nat_eq, nat_le, ap, map, sym, ◌∙◌}
use Rattle.std.proofs.lemmas.List.{length-map}
use Rattle.mail_laws.specs.Render.{depth}
use Rattle.mail_laws.specs.RenderViews.{outline_tree}
use Rattle.mail_laws.specs.declared.render.Outline.{Outline}
use Rattle.mail_laws.proofs.lemmas.RenderViews.{tree_branch}
use Rattle.mail_laws.proofs.lemmas.RenderConditions.{none_within, parts_within}
use Rattle.mail_laws.proofs.render.conditions.+is_within_levels.Goals as goal

pub returns-then-levels-eq0 : goal.returns-then-levels-eq0
returns-then-levels-eq0 t c =
    let parts = c.in-Branch.parts in
    let tree = tree_branch c.args.outline.now c.in-Branch.boundary parts c.in-Branch.is in
    let len = parts.ok.0 ∙ sym (length-map parts.items outline_tree) in
    c.is_empty.ensures
    ∙ ap (λ n. nat_eq n 0) len
    ∙ sym (none_within (map outline_tree parts.items))
    ∙ ap (parts_within (map outline_tree parts.items)) (sym c.if-levels-eq0.true)
    ∙ ap (λ u. nat_le (depth u) c.args.levels) (sym tree)

pub loop-part-init : goal.loop-part-init
loop-part-init t c =
    let tree = tree_branch c.args.outline.now c.in-Branch.boundary c.in-Branch.parts c.in-Branch.is in
    ap (λ u. nat_le (depth u) c.args.levels) tree
    ∙ ap (λ (os : List Outline). parts_within (map outline_tree os) c.args.levels) (sym c.deref-part-items.ensures.value)
