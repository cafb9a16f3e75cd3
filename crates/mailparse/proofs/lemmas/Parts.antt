-- A message that was read without its parts, and how it is split into them.
use Rattle.std.proofs.Common.{cond, is_ok, ◌≡◌, ℕ, Bool, true, false, ◌+◌, ◌-◌, ◌<◌, List, [], ◌∷◌, ◌++◌, length, map, drop, slice_range, Option, Some, None, IsErr, Ok, Err, refl, sym, ap, ◌∙◌, subst}
use Rattle.std.specs.Prelude.{if◌then◌else◌}
use Rattle.std.specs.List.{flat_map}
use Rattle.std.proofs.lemmas.List.{map-append}
use Rattle.mailparse.specs.Delimiters.{end_from_as, first_part_as, next_part_as, preamble_end_as}
use Rattle.mailparse.specs.Block.{HeaderList, read_block}
use Rattle.mailparse.specs.Limit.{items_met}
use Rattle.mailparse.specs.Mail.{Tree, tree, root, Forest, forest, dash_boundary_of, whole_lines_for, kept_if_refused, or_kept, read_levels}
use Rattle.mailparse.specs.Manner.{Manner}
use Rattle.mailparse.specs.Outcome.{IsRefusalOrMemory}
use Rattle.mailparse.specs.Placement.{Placement, placements_as, placements_in_as}
use Rattle.mailparse.specs.Refusal.{Reads}
use Rattle.mailparse.specs.Views.{in_digest, placement_of, placements_of, placements_step, tree_of}
use Rattle.mailparse.specs.declared.error.MailParseError.{MailParseError}
use Rattle.mailparse.specs.declared.mail.Split.{Split}
use Rattle.mailparse.specs.declared.mail.message.ParsedMail.{ParsedMail}
use Rattle.mailparse.specs.declared.mail.message.ParsedMail.TheFolds.{fold_out-ParsedMail}
use Rattle.mailparse.specs.declared.mail.message.ParsedMail.TheViews.{out-ParsedMail}
use Rattle.mailparse.specs.private.Delimiters.{IsLineDelimiter}
use Rattle.mailparse.specs.private.Parts.{HasParts, IsBegun, IsRead, IsSplit, reading_left}
use Rattle.mailparse.proofs.lemmas.Delimiters.{part_ranges_as}
use Rattle.mailparse.proofs.lemmas.Limit.{Leaves, leaves_after, leaves_end, leaves_read, leaves_two, limited-read, limited-refused, met_from, met_from-none, met_from-some, items_met-whole}
use Rattle.mailparse.proofs.lemmas.Mail.{IsLineDelimiter-of, line_delimiter_some, with_trees, parts_from, parts_step, parts_refused, parts_end, reading, reading-refused, reading-whole, read_levels-step, read_levels-read, read_levels-refused}
use Rattle.mailparse.proofs.lemmas.Outcome.{IsRefusalOrMemory-along}
use Rattle.mailparse.proofs.lemmas.Placement.{ArePlaced, placed_step, placed_end, placed_whole}
use Rattle.mailparse.proofs.lemmas.Refusal.{read_map}

-- the placement of a message is the first of those of it and its parts
pub placement_first : (mail : ParsedMail) (place : Placement) (places : List Placement) → placements_of mail ≡ place ∷ places → placement_of mail ≡ place
placement_first mail place places e =
    let all : placements_of mail ≡ placement_of mail ∷ flat_map (λ places. places) (map placements_of (out-ParsedMail mail).subparts.items) = fold_out-ParsedMail (List Placement) placements_step mail in
    let same : placement_of mail ∷ flat_map (λ places. places) (map placements_of (out-ParsedMail mail).subparts.items) ≡ place ∷ places = sym all ∙ e in
    cc

-- a message that is refused for its own headers, and not kept, is not read
pub begun_refused : (manner : Manner) (limit left : Option ℕ) (levels : ℕ) (digest : Bool) (raw : List ℕ) (offset : ℕ) (split : Option Split) (mail : ParsedMail)
    → IsBegun manner limit left levels digest raw offset split mail → manner.keeps_refused ≡ false → 0 < levels → IsErr (read_block manner.lenient_headers raw) → ⊥
begun_refused manner limit left levels digest raw offset (Some split) mail is refuses some refused =
    let clash : false ≡ true = subst (λ (r : Reads HeaderList). IsErr r) is.read refused in
    absurd (cc)
begun_refused manner limit left levels digest raw offset None mail is refuses some refused = by_block (read_block manner.lenient_headers raw) refl refused
  where
    by_block : (block : Reads HeaderList) → read_block manner.lenient_headers raw ≡ block → IsErr block → ⊥
    by_block (Ok block) e h = let clash : false ≡ true = h in absurd (cc)
    by_block (Err r) e h =
        let own = limited-read limit (items_met manner levels digest raw) (read_levels manner levels digest raw) (tree_of mail) is.read in
        let none : read_levels manner levels digest raw ≡ Err r =
        read_levels-step manner levels digest raw some
        ∙ ap (or_kept manner raw) (reading-refused manner levels digest raw r e)
        ∙ ap (λ (k : Bool). if k then kept_if_refused raw (Err r) else Err r) refuses in
        let clash : ◌≡◌ {A = Reads Tree} (Ok (tree_of mail)) (Err r) = sym own ∙ none in
        absurd (cc)

-- A message that is split into parts.
module _ (manner : Manner) (limit left : Option ℕ) (levels : ℕ) (digest : Bool) (raw : List ℕ) (offset : ℕ) (split : Split) (mail : ParsedMail)
    (is : IsSplit manner limit left levels digest raw offset split mail) where
  abbrev dash_boundary : List ℕ
  dash_boundary = drop 1 split.line_delimiter.items

  abbrev lines : Bool
  lines = whole_lines_for manner.whole_lines dash_boundary

  first : split.first ≡ first_part_as lines dash_boundary raw is.index
  first = is.first ∙ ap (λ (t : Bool). first_part_as t dash_boundary raw is.index) is.lines

  ends : preamble_end_as split.whole dash_boundary raw is.index ≡ preamble_end_as lines dash_boundary raw is.index
  ends = ap (λ (t : Bool). preamble_end_as t dash_boundary raw is.index) is.lines

  -- its line delimiter
  pub split_delimiter : IsLineDelimiter split.line_delimiter.items
  split_delimiter = IsLineDelimiter-of split.line_delimiter.items is.ctype is.delimiter

  -- its reading, by those of its parts
  pub split_reading : reading manner levels digest raw
      ≡ read_map (tree (root (tree_of mail))) (parts_from manner (levels - 1) (in_digest split.inner) dash_boundary raw split.first)
  split_reading =
      reading-whole manner levels digest raw is.headers is.index is.ctype split.line_delimiter.items (in_digest split.inner)
      (preamble_end_as split.whole dash_boundary raw is.index) is.read is.type is.delimiter is.inner ends
      ∙ ap (λ (t : Tree). read_map (tree (root t)) (parts_from manner (levels - 1) (in_digest split.inner) dash_boundary raw (first_part_as lines dash_boundary raw is.index))) (sym is.message)
      ∙ ap (λ (o : Option ℕ). read_map (tree (root (tree_of mail))) (parts_from manner (levels - 1) (in_digest split.inner) dash_boundary raw o)) (sym first)

  -- what is still to be met
  pub split_met : Leaves limit (items_met manner levels digest raw) left (met_from manner (levels - 1) (in_digest split.inner) dash_boundary raw split.first)
  split_met =
      let rest = met_from manner (levels - 1) (in_digest split.inner) dash_boundary raw in
      leaves_two limit (items_met manner levels digest raw) is.own left (length is.headers) (rest split.first)
      (items_met-whole manner levels digest raw is.headers is.index is.ctype is.some is.read is.type split.line_delimiter.items (in_digest split.inner) is.delimiter is.inner
      ∙ ap (λ (o : Option ℕ). 1 + (length is.headers + rest o)) (sym first))
      is.one is.more

  -- its placement and those of its parts
  pub split_placed : (parts : Forest)
      → placement_of mail ∷ placements_in_as manner.whole_lines offset (part_ranges_as lines dash_boundary raw split.first) parts
      ≡ placements_as manner.whole_lines offset (tree (root (tree_of mail)) parts)
  split_placed parts =
      let rest = λ (o : Option ℕ). placements_in_as manner.whole_lines offset (part_ranges_as lines dash_boundary raw o) parts in
      let own : ℕ → Placement = λ end. record { whole = record { start = offset; end = offset + length raw }; body = record { start = offset + is.index; end = offset + end } } in
      ap (λ (place : Placement). place ∷ rest split.first) is.placement
      ∙ ap (λ n. own n ∷ rest split.first) ends
      ∙ ap (λ (o : Option ℕ). own (preamble_end_as lines dash_boundary raw is.index) ∷ rest o) first
      ∙ placed_whole manner.whole_lines offset raw is.headers is.index is.ctype (slice_range raw is.index (preamble_end_as split.whole dash_boundary raw is.index)) is.within
      dash_boundary parts (line_delimiter_some split.line_delimiter.items (dash_boundary_of is.ctype) is.delimiter).0
      ∙ ap (λ (t : Tree). placements_as manner.whole_lines offset (tree (root t) parts)) (sym is.message)

  -- a part of it is refused, after some that were read
  module _ (now : Option ℕ) (front : List Tree) (start part_end : ℕ) (after : Option ℕ)
      (part_ends : part_end ≡ end_from_as lines dash_boundary raw start (length raw)) (next : after ≡ next_part_as lines dash_boundary raw start)
      (before : with_trees front (parts_from manner (levels - 1) (in_digest split.inner) dash_boundary raw (Some start)) ≡ parts_from manner (levels - 1) (in_digest split.inner) dash_boundary raw split.first)
      (counted : Leaves limit (items_met manner levels digest raw) now (met_from manner (levels - 1) (in_digest split.inner) dash_boundary raw (Some start))) where
    pub split_refused : (e : MailParseError) → IsRefusalOrMemory e (reading_left manner now (levels - 1) (in_digest split.inner) (slice_range raw start part_end))
        → IsRefusalOrMemory e (reading_left manner limit levels digest raw)
    split_refused e h =
        let bytes = slice_range raw start part_end in
        let own = read_levels manner levels digest raw in
        let all = parts_from manner (levels - 1) (in_digest split.inner) dash_boundary raw split.first in
        let met = items_met manner (levels - 1) (in_digest split.inner) bytes in
        let part = read_levels manner (levels - 1) (in_digest split.inner) bytes in
        let more = met_from manner (levels - 1) (in_digest split.inner) dash_boundary raw after in
        let left : Leaves limit (items_met manner levels digest raw) now (met + cond (is_ok part) more 0) =
        subst (Leaves limit (items_met manner levels digest raw) now) (met_from-some manner (levels - 1) (in_digest split.inner) dash_boundary raw start part_end after part_ends next) counted in
        IsRefusalOrMemory-along e (reading_left manner now (levels - 1) (in_digest split.inner) bytes) (reading_left manner limit levels digest raw)
        (λ r refused. left.read own ∙ limited-refused now met more part own r refused (λ e. read_levels-refused manner levels digest raw r (in_digest split.inner) bytes is.some e
        (split_reading ∙ ap (read_map (tree (root (tree_of mail)))) (parts_refused manner (levels - 1) (in_digest split.inner) dash_boundary raw front all start part_end r part_ends e before))))
        h

  -- all its parts were read
  pub split_whole : (now : Option ℕ) (parts : List ParsedMail)
      → with_trees (map tree_of parts) (parts_from manner (levels - 1) (in_digest split.inner) dash_boundary raw None) ≡ parts_from manner (levels - 1) (in_digest split.inner) dash_boundary raw split.first
      → Leaves limit (items_met manner levels digest raw) now (met_from manner (levels - 1) (in_digest split.inner) dash_boundary raw None)
      → ArePlaced manner.whole_lines offset dash_boundary raw split.first None parts
      → (whole : ParsedMail) → HasParts mail parts whole → IsRead manner limit now levels digest raw offset whole
  split_whole now parts done counted placed whole has =
      let all = parts_from manner (levels - 1) (in_digest split.inner) dash_boundary raw split.first in
      let left = subst (Leaves limit (items_met manner levels digest raw) now) (met_from-none manner (levels - 1) (in_digest split.inner) dash_boundary raw) counted in
      record {
        read = leaves_read limit (items_met manner levels digest raw) now (read_levels manner levels digest raw) left
            ∙ read_levels-read manner levels digest raw (tree (root (tree_of mail)) (forest (map tree_of parts))) is.some
            (split_reading ∙ ap (read_map (tree (root (tree_of mail)))) (parts_end manner (levels - 1) (in_digest split.inner) dash_boundary raw (map tree_of parts) all done))
            ∙ ap Ok (sym has.0);
        spent = leaves_end limit (items_met manner levels digest raw) now left;
        places = has.1
            ∙ ap (λ (places : List Placement). placement_of mail ∷ places) (placed_end manner.whole_lines offset dash_boundary raw split.first parts placed)
            ∙ split_placed (forest (map tree_of parts))
            ∙ ap (placements_as manner.whole_lines offset) (sym has.0);
      }

-- A part was read after some others.
module _ (manner : Manner) (levels : ℕ) (digest : Bool) (dash_boundary raw : List ℕ) (start part_end : ℕ) (after left now : Option ℕ) (offset : ℕ) (part : ParsedMail)
    (ends : part_end ≡ end_from_as (whole_lines_for manner.whole_lines dash_boundary) dash_boundary raw start (length raw))
    (next : after ≡ next_part_as (whole_lines_for manner.whole_lines dash_boundary) dash_boundary raw start)
    (is : IsRead manner left now levels digest (slice_range raw start part_end) (offset + start) part) where
  read : read_levels manner levels digest (slice_range raw start part_end) ≡ Ok (tree_of part)
  read = limited-read left (items_met manner levels digest (slice_range raw start part_end)) (read_levels manner levels digest (slice_range raw start part_end)) (tree_of part) is.read

  -- what is still to be met after it
  pub part_met : (limit : Option ℕ) (all : ℕ) → Leaves limit all left (met_from manner levels digest dash_boundary raw (Some start)) → Leaves limit all now (met_from manner levels digest dash_boundary raw after)
  part_met limit all before =
      let bytes = slice_range raw start part_end in
      let met = items_met manner levels digest bytes in
      let more = met_from manner levels digest dash_boundary raw after in
      let here : met_from manner levels digest dash_boundary raw (Some start) ≡ met + more =
      met_from-some manner levels digest dash_boundary raw start part_end after ends next ∙ ap (λ (r : Reads Tree). met + cond (is_ok r) more 0) read in
      leaves_after limit all left now met more (read_levels manner levels digest bytes) (tree_of part) (subst (Leaves limit all left) here before) is.read is.spent

  module _ (front parts : List ParsedMail) (pushed : parts ≡ front ++ part ∷ []) where
    -- the readings
    pub part_all : (all : Reads Forest) → with_trees (map tree_of front) (parts_from manner levels digest dash_boundary raw (Some start)) ≡ all
        → with_trees (map tree_of parts) (parts_from manner levels digest dash_boundary raw after) ≡ all
    part_all all before =
        ap (λ (ts : List Tree). with_trees ts (parts_from manner levels digest dash_boundary raw after)) (ap (map tree_of) pushed ∙ map-append tree_of front (part ∷ []))
        ∙ parts_step manner levels digest dash_boundary raw (map tree_of front) all start part_end after (tree_of part) ends next read before

    -- the placements
    pub part_placed : (first : Option ℕ) → ArePlaced manner.whole_lines offset dash_boundary raw first (Some start) front → ArePlaced manner.whole_lines offset dash_boundary raw first after parts
    part_placed first before =
        subst (ArePlaced manner.whole_lines offset dash_boundary raw first after) (sym pushed)
        (placed_step manner.whole_lines offset dash_boundary raw first front start after part next is.places before)
