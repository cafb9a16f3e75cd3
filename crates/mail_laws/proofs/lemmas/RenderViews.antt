-- Lemmas on what a contract sees of an outline, and on its written bytes.
use Rattle.std.proofs.Common.{◌≡◌, ℕ, List, [], ◌∷◌, ◌++◌, map, Result, Ok, Err, OnOk, is_ok, refl, sym, ap, ◌∙◌, append_assoc}
use Rattle.std.specs.Global.{Vec}
use Rattle.std.specs.Prelude.{codes, flat_map, if◌then◌else◌}
use Rattle.mail_codec.specs.QuotedPrintable.{cr_lf}
use Rattle.mailparse.specs.Header.{Header}
use Rattle.mail_laws.specs.Render.{OutlineTree, branch, forest_of, header_line, header_block, dash_boundary, rendered, rendered_parts, written_header, written_headers}
use Rattle.mail_laws.specs.RenderViews.{header_seen, headers_seen, kind_step, outline_step, outline_tree}
use Rattle.mail_laws.specs.declared.render.Outline.{Outline}
use Rattle.mail_laws.specs.declared.render.OutlineKind.{OutlineKind}
use Rattle.mail_laws.specs.declared.render.OutlineKind.TheVariants.{Branch, rolls-Branch}
use Rattle.mail_laws.specs.declared.render.OutlineKind.TheOpen.{OutlineKind-F}
use Rattle.mail_laws.specs.declared.render.OutlineKind.TheViews.{out-Outline}
use Rattle.mail_laws.specs.declared.render.OutlineKind.TheFolds.{fold-OutlineKind, fold-roll-OutlineKind, fold_out-Outline}

-- the body or the parts make an outline of the headers
abbrev pub kind_tree : OutlineKind → List Header → OutlineTree
kind_tree = fold-OutlineKind (List Header → OutlineTree) OutlineTree kind_step outline_step

tree_out : (o : Outline) → outline_tree o ≡ kind_tree (out-Outline o).kind (headers_seen (out-Outline o).headers)
tree_out o = fold_out-Outline (List Header → OutlineTree) OutlineTree kind_step outline_step o

kind_tree-Branch : (boundary : Vec ℕ) (parts : Vec Outline) (headers : List Header)
    → kind_tree (Branch boundary parts) headers ≡ branch headers boundary.items (forest_of (map outline_tree parts.items))
kind_tree-Branch boundary parts headers =
    ap (λ k. kind_tree k headers) (sym (rolls-Branch boundary parts))
    ∙ ap (λ f. f headers) (fold-roll-OutlineKind (List Header → OutlineTree) OutlineTree kind_step outline_step (OutlineKind-F.Branch boundary parts))

-- an outline with parts
pub tree_branch : (o : Outline) (boundary : Vec ℕ) (parts : Vec Outline) → o.kind ≡ Branch boundary parts
    → outline_tree o ≡ branch (headers_seen o.headers) boundary.items (forest_of (map outline_tree parts.items))
tree_branch o boundary parts e =
    tree_out o ∙ ap (λ k. kind_tree k (headers_seen o.headers)) e ∙ kind_tree-Branch boundary parts (headers_seen o.headers)

-- ---- its written bytes

-- the lines of headers, one after another
pub lines_seen : (pairs : List (Vec ℕ × Vec ℕ))
    → flat_map header_line (written_headers (map header_seen pairs)) ≡ flat_map (λ p. header_line (written_header (header_seen p))) pairs
lines_seen [] = refl
lines_seen (p ∷ pairs) = ap (λ rest. header_line (written_header (header_seen p)) ++ rest) (lines_seen pairs)

-- a part with its delimiter and its line end
abbrev pub part_text : List ℕ → OutlineTree → List ℕ
part_text boundary part = (dash_boundary boundary ++ cr_lf) ++ (rendered part ++ cr_lf)

-- the parts, one after another, and the close-delimiter
pub parts_text : (boundary : List ℕ) (parts : List Outline) → rendered_parts boundary (forest_of (map outline_tree parts))
    ≡ flat_map (λ o. part_text boundary (outline_tree o)) parts ++ (dash_boundary boundary ++ (codes "--" ++ cr_lf))
parts_text boundary [] = refl
parts_text boundary (o ∷ parts) =
    let rest = rendered_parts boundary (forest_of (map outline_tree parts)) in
    let here = part_text boundary (outline_tree o) in
    sym (append_assoc (dash_boundary boundary) cr_lf (rendered (outline_tree o) ++ (cr_lf ++ rest)))
    ∙ ap (λ x. (dash_boundary boundary ++ cr_lf) ++ x) (sym (append_assoc (rendered (outline_tree o)) cr_lf rest))
    ∙ sym (append_assoc (dash_boundary boundary ++ cr_lf) (rendered (outline_tree o) ++ cr_lf) rest)
    ∙ ap (λ x. here ++ x) (parts_text boundary parts)
    ∙ sym (append_assoc here (flat_map (λ (o : Outline). part_text boundary (outline_tree o)) parts) (dash_boundary boundary ++ (codes "--" ++ cr_lf)))

-- a claim on a successful call follows from what the call left
pub on_ok : {T E P : Type 0} (r : Result T E) (new whole old : List ℕ) → new ≡ (if is_ok r then whole else old) → (new ≡ whole → P) → OnOk r P
on_ok (Ok x) new whole old e done = done e
on_ok (Err x) new whole old e done = _

-- all headers and the blank line
pub block_written : (old before new : List ℕ) (pairs : List (Vec ℕ × Vec ℕ)) → before ≡ old ++ flat_map (λ p. header_line (written_header (header_seen p))) pairs → new ≡ before ++ cr_lf
    → new ≡ old ++ header_block (written_headers (map header_seen pairs))
block_written old before new pairs b n =
    n ∙ ap (λ x. x ++ cr_lf) (b ∙ ap (λ x. old ++ x) (sym (lines_seen pairs))) ∙ append_assoc old (flat_map header_line (written_headers (map header_seen pairs))) cr_lf

-- all parts and the close-delimiter
pub parts_written : (old before new headers boundary : List ℕ) (parts : List Outline)
    → before ≡ old ++ (headers ++ flat_map (λ o. part_text boundary (outline_tree o)) parts) → new ≡ before ++ (dash_boundary boundary ++ (codes "--" ++ cr_lf))
    → new ≡ old ++ (headers ++ rendered_parts boundary (forest_of (map outline_tree parts)))
parts_written old before new headers boundary parts b n =
    let texts = flat_map (λ (o : Outline). part_text boundary (outline_tree o)) parts in
    let end = dash_boundary boundary ++ (codes "--" ++ cr_lf) in
    n ∙ ap (λ x. x ++ end) b ∙ append_assoc old (headers ++ texts) end ∙ ap (λ x. old ++ x) (append_assoc headers texts end ∙ ap (λ x. headers ++ x) (sym (parts_text boundary parts)))
