-- The recorded ranges of a message and its parts are those of its tree, and the bytes there are theirs.
use Rattle.std.proofs.Common.{◌≡◌, ℕ, suc, ◌+◌, ◌-◌, ◌≤◌, Bool, false, List, [], ◌∷◌, ◌++◌, length, map, take, drop, Ok, Err, refl, sym, ap, ◌∙◌, arith}
use Rattle.std.proofs.lemmas.List.{length-take, length-drop, map-append}
use Rattle.mail_codec.specs.Charset.{Charsets}
use Rattle.mailparse.specs.Manner.{Manner}
use Rattle.mailparse.specs.Refusal.{Reads}
use Rattle.mailparse.specs.Delimiters.{Cut}
use Rattle.mailparse.specs.Mail.{strict, Node, Tree, cut_of_as, nodes, read_mail_as, read_mail_in, root, trees_in, trees_within}
use Rattle.mailparse.specs.Placement.{Placement, placements, placements_as, placements_in_as}
use Rattle.mailparse.specs.Ranges.{Range, Apart, moved, slice}
use Rattle.mailparse.proofs.lemmas.HeaderPart.{read_block-bounded}
use Rattle.mailparse.proofs.lemmas.Ranges.{cut_of_as-apart}
use Rattle.mailparse.proofs.lemmas.Refusal.{read_map}
use Rattle.mail_laws.specs.RangeTree.{RangeNode, RangeTree, range_tree, RangeForest, no_ranges, ranges_and, node_there, tree_there, forest_there, range_node, kept_range, range_levels, ranges_as, ranges_in, wholes_and_bodies, wholes_and_bodies_in}
use Rattle.mail_laws.proofs.lemmas.RangeTree.{Apart-order, FitEach, block-there, levels-fit, ranges_as-there}

-- ---- the places are the ranges

-- all bytes of a range are there
slice-whole : (mail : List ℕ) (whole : Range) → whole.start ≤ whole.end → whole.end ≤ length mail → whole.start + length (slice mail whole) ≡ whole.end
slice-whole mail whole order fits =
    let front = length-take (whole.end - whole.start) (drop whole.start mail) in
    let rest = length-drop whole.start mail in
    omega (arith, front, rest, order, fits)

-- If whole lines are asked for, or not.
module _ (lines : Bool) where
  -- a message that is read at a range is recorded at that range
  abbrev IsPlaced : List ℕ → Range → RangeTree → Type 0
  IsPlaced mail whole t = whole.start ≤ whole.end → whole.end ≤ length mail → placements_as lines whole.start (tree_there mail t) ≡ wholes_and_bodies t

  -- and so each of some parts
  each-placed : (mail : List ℕ) (start gap from : ℕ) (rs : List Range) (to : ℕ) → Apart gap from rs to → start + to ≤ length mail
      → (parts : RangeForest) → FitEach (IsPlaced mail) (map (moved start) rs) parts → placements_in_as lines start rs (forest_there mail parts) ≡ wholes_and_bodies_in parts
  each-placed mail start gap from [] to apart fits no_ranges each = refl
  each-placed mail start gap from [] to apart fits (ranges_and t ts) each = absurd each
  each-placed mail start gap from (r ∷ rs) to apart fits no_ranges each = absurd each
  each-placed mail start gap from (r ∷ rs) to apart fits (ranges_and t ts) each =
      let order = Apart-order gap r.end rs to apart.2 in
      ap (λ (places : List Placement). places ++ placements_in_as lines start rs (forest_there mail ts)) (each.0 (omega (arith, apart.1)) (omega (arith, order, fits)))
      ∙ ap (λ (places : List Placement). wholes_and_bodies t ++ places) (each-placed mail start gap r.end rs to apart.2 fits ts each.1)

  -- a message between two places with this cut
  abbrev placed_there : List ℕ → ℕ → ℕ → Cut → RangeForest → List Placement
  placed_there mail start end cut parts =
      record { whole = record { start = start; end = end }; body = moved start cut.body } ∷ placements_in_as lines start cut.parts (forest_there mail parts)

  -- a message that consists of its body
  abbrev alone : ℕ → ℕ → ℕ → List Placement
  alone start end body = record { whole = record { start = start; end = end }; body = record { start = body; end = end } } ∷ []

  -- a refused message that is kept
  kept-placed : (mail : List ℕ) (whole : Range) → IsPlaced mail whole (kept_range whole)
  kept-placed mail whole order fits =
      let ends = slice-whole mail whole order fits in
      let front = length-take (whole.start - whole.start) (drop whole.start mail) in
      let start : whole.start + length (take (whole.start - whole.start) (drop whole.start mail)) ≡ whole.start = omega (arith, front) in
      ap (λ n. alone whole.start n (whole.start + length (take (whole.start - whole.start) (drop whole.start mail)))) ends
      ∙ ap (alone whole.start whole.end) start

levels-placed : (manner : Manner) (mail : List ℕ) (levels : ℕ) (in_digest : Bool) (whole : Range) (t : RangeTree)
    → range_levels manner mail levels in_digest whole ≡ Ok t → IsPlaced manner.whole_lines mail whole t
levels-placed manner mail = levels-fit manner mail (IsPlaced manner.whole_lines mail) (kept-placed manner.whole_lines mail) (λ whole block ctype read parts each order fits.
    let lines = manner.whole_lines in
    let raw = slice mail whole in
    let cut = cut_of_as lines ctype raw block.index in
    let node = range_node manner.lenient_headers whole raw block ctype cut in
    let index = (read_block-bounded manner.lenient_headers raw block read).index in
    let apart = cut_of_as-apart lines ctype raw block.index index in
    let ends = slice-whole mail whole order fits in
    let size = length-take block.index raw in
    let front : length (slice mail node.block) ≡ block.index = ap length (block-there mail whole block.index index) ∙ omega arith in
    let all = each-placed lines mail whole.start 3 cut.body.end cut.parts (length raw) apart.2 (omega (arith, ends, fits)) parts each in
    ap (λ n. placed_there lines mail whole.start (whole.start + length raw) (cut_of_as lines ctype raw n) parts) front
    ∙ ap (λ n. placed_there lines mail whole.start n cut parts) ends
    ∙ ap (λ (places : List Placement). record { whole = whole; body = node.body } ∷ places) all)

-- ---- the bytes there

module _ (mail : List ℕ) (at : Placement → List ℕ) (of : Node → List ℕ)
    (here : (node : RangeNode) → at (record { whole = node.whole; body = node.body }) ≡ of (node_there mail node)) where
  mutual
    tree-bytes : (t : RangeTree) → map at (wholes_and_bodies t) ≡ map of (nodes (tree_there mail t))
    tree-bytes (range_tree node parts) =
        ap (λ (text : List ℕ). text ∷ map at (wholes_and_bodies_in parts)) (here node)
        ∙ ap (λ (texts : List (List ℕ)). of (node_there mail node) ∷ texts) (forest-bytes parts)

    forest-bytes : (ts : RangeForest) → map at (wholes_and_bodies_in ts) ≡ map of (map root (trees_in (forest_there mail ts)))
    forest-bytes no_ranges = refl
    forest-bytes (ranges_and t ts) =
        map-append at (wholes_and_bodies t) (wholes_and_bodies_in ts)
        ∙ ap (λ (texts : List (List ℕ)). texts ++ map at (wholes_and_bodies_in ts)) (tree-bytes t)
        ∙ ap (λ (texts : List (List ℕ)). map of (nodes (tree_there mail t)) ++ texts) (forest-bytes ts)
        ∙ sym (map-append of (nodes (tree_there mail t)) (map root (trees_in (forest_there mail ts))))
        ∙ ap (map of) (sym (map-append root (trees_within (tree_there mail t)) (trees_in (forest_there mail ts))))

-- ---- of a whole mail

-- Of a mail that is read in a manner.
module _ (manner : Manner) (greatest : ℕ) (mail : List ℕ) (parsed : Tree) (read : read_mail_as manner greatest mail ≡ Ok parsed) where
  parsed-there : (ranges : RangeTree) → ranges_as manner mail greatest ≡ Ok ranges → tree_there mail ranges ≡ parsed
  parsed-there ranges e =
      let there : read_map (tree_there mail) (Ok ranges) ≡ Ok parsed = ap (read_map (tree_there mail)) (sym e) ∙ ranges_as-there manner mail greatest ∙ read in
      cc

  pub placements_as-ranges : (ranges : RangeTree) → ranges_as manner mail greatest ≡ Ok ranges → placements_as manner.whole_lines 0 parsed ≡ wholes_and_bodies ranges
  unfolding ranges_as
  placements_as-ranges ranges e =
      ap (placements_as manner.whole_lines 0) (sym (parsed-there ranges e))
      ∙ levels-placed manner mail (suc greatest) false (record { start = 0; end = length mail }) ranges e (omega arith) (omega arith)

  -- bytes of all messages, if they are those of each message
  nodes-bytes : (at : Placement → List ℕ) (of : Node → List ℕ) → ((node : RangeNode) → at (record { whole = node.whole; body = node.body }) ≡ of (node_there mail node))
      → map at (placements_as manner.whole_lines 0 parsed) ≡ map of (nodes parsed)
  nodes-bytes at of here = by_ranges (ranges_as manner mail greatest) refl (ranges_as-there manner mail greatest ∙ read)
    where
      by_ranges : (found : Reads RangeTree) → ranges_as manner mail greatest ≡ found → read_map (tree_there mail) found ≡ Ok parsed
          → map at (placements_as manner.whole_lines 0 parsed) ≡ map of (nodes parsed)
      by_ranges (Err refusal) e there = absurd (cc)
      by_ranges (Ok ranges) e there =
          ap (map at) (placements_as-ranges ranges e) ∙ tree-bytes mail at of here ranges ∙ ap (λ (t : Tree). map of (nodes t)) (parsed-there ranges e)

  pub placements_as-bytes : map (λ place. slice mail place.whole) (placements_as manner.whole_lines 0 parsed) ≡ map (λ node. node.bytes) (nodes parsed)
  placements_as-bytes = nodes-bytes (λ place. slice mail place.whole) (λ node. node.bytes) (λ node. refl)

  pub placements_as-bodies : map (λ place. slice mail place.body) (placements_as manner.whole_lines 0 parsed) ≡ map (λ node. node.body) (nodes parsed)
  placements_as-bodies = nodes-bytes (λ place. slice mail place.body) (λ node. node.body) (λ node. refl)

-- So it is in the manner of the port.
module _ (known : Charsets) (greatest : ℕ) (mail : List ℕ) (parsed : Tree) (read : read_mail_in known greatest mail ≡ Ok parsed) where
  read-as : read_mail_as (strict known) greatest mail ≡ Ok parsed
  unfolding read_mail_in
  read-as = read

  pub placements-ranges : (ranges : RangeTree) → ranges_in known mail greatest ≡ Ok ranges → placements 0 parsed ≡ wholes_and_bodies ranges
  unfolding ranges_in
  placements-ranges ranges e = placements_as-ranges (strict known) greatest mail parsed read-as ranges e

  pub placements-bytes : map (λ place. slice mail place.whole) (placements 0 parsed) ≡ map (λ node. node.bytes) (nodes parsed)
  placements-bytes = placements_as-bytes (strict known) greatest mail parsed read-as

  pub placements-bodies : map (λ place. slice mail place.body) (placements 0 parsed) ≡ map (λ node. node.body) (nodes parsed)
  placements-bodies = placements_as-bodies (strict known) greatest mail parsed read-as
