-- The ranges of a message and its parts: a message by itself, and its parts one after another.
use Rattle.std.proofs.Common.{◌≡◌, ℕ, Bool, ◌+◌, ◌≤◌, List, [], ◌∷◌, ◌++◌, length, map, take, Option, Some, None, sym, ap, ◌∙◌, arith, append_assoc}
use Rattle.std.specs.List.{flat_map}
use Rattle.std.specs.Option.{option_map_or}
use Rattle.std.proofs.lemmas.List.{map-append, append-nil, length-take}
use Rattle.std.proofs.lemmas.List.Concat.{flat_map-append}
use Rattle.mailparse.specs.Header.{Header}
use Rattle.mailparse.specs.ContentType.{ContentType}
use Rattle.mailparse.specs.Delimiters.{Cut, cut_parts_as, preamble_end_as, first_part_as, next_part_as}
use Rattle.mailparse.specs.Mail.{Tree, tree, Forest, no_parts, part_and, forest, whole_lines_for, cut_of_as, dash_boundary_of}
use Rattle.mailparse.specs.Placement.{Placement, placements_as, placements_in_as}
use Rattle.mailparse.specs.Ranges.{Range, moved}
use Rattle.mailparse.specs.Views.{placements_of, tree_of}
use Rattle.mailparse.specs.declared.mail.message.ParsedMail.{ParsedMail}
use Rattle.mailparse.proofs.lemmas.Delimiters.{part_ranges_as, part_ranges_as-some}
use Rattle.mailparse.proofs.lemmas.Mail.{forest_and, forest_and-push, forest_and-none}

-- the placements that some messages and their parts record, one after another
abbrev pub all_placed : List ParsedMail → List Placement
all_placed parts = flat_map (λ places. places) (map placements_of parts)

all_placed-push : (front : List ParsedMail) (part : ParsedMail) → all_placed (front ++ part ∷ []) ≡ all_placed front ++ placements_of part
all_placed-push front part =
    ap (flat_map (λ places. places)) (map-append placements_of front (part ∷ []))
    ∙ flat_map-append (λ places. places) (map placements_of front) (placements_of part ∷ [])
    ∙ ap (λ places. all_placed front ++ places) (append-nil (placements_of part))

-- If whole lines are asked for, or not.
module _ (whole : Bool) where
  -- a message that is split this way
  abbrev pub placed : ℕ → List ℕ → Cut → Forest → List Placement
  placed offset raw cut parts =
      record { whole = record { start = offset; end = offset + length raw }; body = moved offset cut.body } ∷ placements_in_as whole offset cut.parts parts

  -- a message by itself, whose block ends at an offset
  module _ (offset : ℕ) (raw : List ℕ) (headers : List Header) (index : ℕ) (ctype : ContentType) (body : List ℕ) (within : index ≤ length raw) where
    placed_by : (cut : Cut) (parts : Forest) → cut_of_as whole ctype raw index ≡ cut
        → placed offset raw cut parts ≡ placements_as whole offset (tree (record { bytes = raw; block = take index raw; headers = headers; ctype = ctype; body = body }) parts)
    placed_by cut parts e =
        let size = length-take index raw in
        let same : index ≡ length (take index raw) = omega arith in
        ap (λ (c : Cut). placed offset raw c parts) (sym e) ∙ ap (λ n. placed offset raw (cut_of_as whole ctype raw n) parts) same

    -- without parts, by the type
    pub placed_leaf : dash_boundary_of ctype ≡ None
        → record { whole = record { start = offset; end = offset + length raw }; body = record { start = offset + index; end = offset + length raw } } ∷ []
        ≡ placements_as whole offset (tree (record { bytes = raw; block = take index raw; headers = headers; ctype = ctype; body = body }) no_parts)
    placed_leaf none =
        placed_by (record { body = record { start = index; end = length raw }; parts = [] }) no_parts
        (ap (λ o. option_map_or (λ dash_boundary. cut_parts_as (whole_lines_for whole dash_boundary) dash_boundary raw index) o (record { body = record { start = index; end = length raw }; parts = [] })) none)

    -- with parts, by a dash-boundary
    pub placed_whole : (dash_boundary : List ℕ) (parts : Forest) → dash_boundary_of ctype ≡ Some dash_boundary
        → record { whole = record { start = offset; end = offset + length raw }; body = record { start = offset + index; end = offset + preamble_end_as (whole_lines_for whole dash_boundary) dash_boundary raw index } }
        ∷ placements_in_as whole offset (part_ranges_as (whole_lines_for whole dash_boundary) dash_boundary raw (first_part_as (whole_lines_for whole dash_boundary) dash_boundary raw index)) parts
        ≡ placements_as whole offset (tree (record { bytes = raw; block = take index raw; headers = headers; ctype = ctype; body = body }) parts)
    unfolding cut_parts_as
    placed_whole dash_boundary parts some =
        placed_by (cut_parts_as (whole_lines_for whole dash_boundary) dash_boundary raw index) parts
        (ap (λ o. option_map_or (λ dash_boundary. cut_parts_as (whole_lines_for whole dash_boundary) dash_boundary raw index) o (record { body = record { start = index; end = length raw }; parts = [] })) some)

  -- In a message at this offset that is split by a dash-boundary.
  module _ (offset : ℕ) (dash_boundary raw : List ℕ) where
    abbrev from : Option ℕ → Forest → List Placement
    from next parts = placements_in_as whole offset (part_ranges_as (whole_lines_for whole dash_boundary) dash_boundary raw next) parts

    -- the parts from the first on are placed as those that were read record, followed by those from the next on
    abbrev pub ArePlaced : Option ℕ → Option ℕ → List ParsedMail → Type 0
    ArePlaced first next front =
        (rest : Forest) → placements_in_as whole offset (part_ranges_as (whole_lines_for whole dash_boundary) dash_boundary raw first) (forest_and (map tree_of front) rest)
        ≡ all_placed front ++ placements_in_as whole offset (part_ranges_as (whole_lines_for whole dash_boundary) dash_boundary raw next) rest

    -- one more part
    pub placed_step : (first : Option ℕ) (front : List ParsedMail) (s : ℕ) (after : Option ℕ) (part : ParsedMail) → after ≡ next_part_as (whole_lines_for whole dash_boundary) dash_boundary raw s
        → placements_of part ≡ placements_as whole (offset + s) (tree_of part) → ArePlaced first (Some s) front → ArePlaced first after (front ++ part ∷ [])
    placed_step first front s after part next own before rest =
        let all = from first in
        ap (λ (ts : List Tree). all (forest_and ts rest)) (map-append tree_of front (part ∷ []))
        ∙ ap all (sym (forest_and-push (map tree_of front) (tree_of part) rest))
        ∙ before (part_and (tree_of part) rest)
        ∙ ap (λ (rs : List Range). all_placed front ++ placements_in_as whole offset rs (part_and (tree_of part) rest)) (part_ranges_as-some (whole_lines_for whole dash_boundary) dash_boundary raw s)
        ∙ ap (λ (places : List Placement). all_placed front ++ (places ++ from (next_part_as (whole_lines_for whole dash_boundary) dash_boundary raw s) rest)) (sym own)
        ∙ ap (λ (o : Option ℕ). all_placed front ++ (placements_of part ++ from o rest)) (sym next)
        ∙ sym (append_assoc (all_placed front) (placements_of part) (from after rest))
        ∙ ap (λ (places : List Placement). places ++ from after rest) (sym (all_placed-push front part))

    -- all parts
    pub placed_end : (first : Option ℕ) (front : List ParsedMail) → ArePlaced first None front
        → all_placed front ≡ placements_in_as whole offset (part_ranges_as (whole_lines_for whole dash_boundary) dash_boundary raw first) (forest (map tree_of front))
    placed_end first front before =
        sym (append-nil (all_placed front)) ∙ sym (before no_parts) ∙ ap (from first) (forest_and-none (map tree_of front))
