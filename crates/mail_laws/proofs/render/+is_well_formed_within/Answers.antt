use Rattle.std.proofs.Common.{◌≡◌, ◌+◌, true, false, ◌&&◌, not, nat_eq, List, ◌∷◌, map, drop, Ok, ap, sym, ◌∙◌}
use Rattle.std.proofs.lemmas.List.{drop_more, length-map}
use Rattle.mail_laws.specs.Render.{contains_delimiter, is_well_formed_within, rendered}
use Rattle.mail_laws.specs.RenderViews.{headers_seen, outline_tree}
use Rattle.mail_laws.specs.declared.render.Outline.{Outline}
use Rattle.mail_laws.proofs.lemmas.RenderViews.{tree_branch}
use Rattle.mail_laws.proofs.lemmas.RenderConditions.{branch_by, good_boundary, good_parts, ok_bool, part_and_others, some_part}
use Rattle.mail_laws.proofs.render.+is_well_formed_within.Goals as goal

pub returns-then-not-has_boundary : goal.returns-then-not-has_boundary
returns-then-not-has_boundary t c =
    let headers = headers_seen c.args.outline.now.headers in
    let parts = map outline_tree c.in-Branch.parts.items in
    let tree = tree_branch c.args.outline.now c.in-Branch.boundary c.in-Branch.parts c.in-Branch.is in
    let plain = sym c.has_good_headers.ensures ∙ c.if-not-has_good_headers.false in
    let fails = ap (good_boundary headers) (sym c.as_slice.ensures.value) ∙ sym c.has_boundary.ensures ∙ c.if-not-has_boundary.true in
    ap (λ b. Ok b) (ap is_well_formed_within tree ∙ branch_by headers c.in-Branch.boundary.items parts false plain fails)

pub returns-then-is_empty : goal.returns-then-is_empty
returns-then-is_empty t c =
    let headers = headers_seen c.args.outline.now.headers in
    let boundary = c.in-Branch.boundary.items in
    let parts = map outline_tree c.in-Branch.parts.items in
    let tree = tree_branch c.args.outline.now c.in-Branch.boundary c.in-Branch.parts c.in-Branch.is in
    let plain = sym c.has_good_headers.ensures ∙ c.if-not-has_good_headers.false in
    let good = ap (good_boundary headers) (sym c.as_slice.ensures.value) ∙ sym c.has_boundary.ensures ∙ c.if-not-has_boundary.false in
    let len = c.in-Branch.parts.ok.0 ∙ sym (length-map c.in-Branch.parts.items outline_tree) in
    let none = some_part headers boundary parts true (sym (c.if-is_empty.ensures ∙ ap (λ n. nat_eq n 0) len)) in
    ap (λ b. Ok b) (ap is_well_formed_within tree ∙ branch_by headers boundary parts true plain good ∙ ap (λ s. s && good_parts boundary parts) none)

pub loop-part-init : goal.loop-part-init
loop-part-init t c =
    let headers = headers_seen c.args.outline.now.headers in
    let boundary = c.in-Branch.boundary.items in
    let parts = map outline_tree c.in-Branch.parts.items in
    let tree = tree_branch c.args.outline.now c.in-Branch.boundary c.in-Branch.parts c.in-Branch.is in
    let plain = sym c.has_good_headers.ensures ∙ c.if-not-has_good_headers.false in
    let good = ap (good_boundary headers) (sym c.as_slice.ensures.value) ∙ sym c.has_boundary.ensures ∙ c.if-not-has_boundary.false in
    let len = c.in-Branch.parts.ok.0 ∙ sym (length-map c.in-Branch.parts.items outline_tree) in
    let some = some_part headers boundary parts false (sym (c.if-is_empty.ensures ∙ ap (λ n. nat_eq n 0) len)) in
    ap is_well_formed_within tree
    ∙ branch_by headers boundary parts true plain good
    ∙ ap (λ s. s && good_parts boundary parts) some
    ∙ ap (λ (os : List Outline). good_parts boundary (map outline_tree os)) (sym c.deref-part-items.ensures.value)

pub returns-then-not-branch-2 : goal.returns-then-not-branch-2
returns-then-not-branch-2 t c =
    let boundary = c.in-Branch.boundary.items in
    let part = outline_tree c.part-item.result in
    let items = c.deref-part-items.result.now in
    let cut : drop c.loop-part.part-index items ≡ c.part-item.result ∷ drop (c.loop-part.part-index + 1) items =
    drop_more items c.loop-part.part-index c.part-item.result c.loop-part-test.true
    ∙ ap (λ (o : Outline). o ∷ drop (c.loop-part.part-index + 1) items) (sym c.part-item.is) in
    let clear =
    ap (λ bs. not (contains_delimiter bs (rendered part))) (sym c.as_slice-in-loop-part.ensures.value)
    ∙ ok_bool _ _ c.in_ok-is_clear-in-Branch.ensures ∙ c.if-not-branch.false in
    let fails = ok_bool _ _ c.in_ok-is_well_formed_within-in-Branch.ensures ∙ c.if-not-branch-2.true in
    ap (λ b. Ok b)
    (c.loop-part.invariant ∙ ap (λ (os : List Outline). good_parts boundary (map outline_tree os)) cut
    ∙ part_and_others boundary part (map outline_tree (drop (c.loop-part.part-index + 1) items)) false clear fails)
