-- The parts read so far, followed by those of the rest, are all parts; so are their placements.
use Rattle.std.proofs.Common.{◌≡◌, ◌≤◌, ◌-◌, ℕ, suc, drop, length, map, Option, Some, None, IfSome}
use Rattle.mailparse.specs.Views.{in_digest, tree_of}
use Rattle.mailparse.proofs.lemmas.Mail.{with_trees, parts_from}
use Rattle.mailparse.proofs.lemmas.Limit.{Leaves, met_from}
use Rattle.mailparse.proofs.lemmas.Placement.{ArePlaced}
use Rattle.mailparse.proofs.mail.«+read_parts».Given as goal

abbrev pub decreases-read_parts : goal.decreases-read_parts
decreases-read_parts g l = l.levels

-- the number of bytes left
abbrev left : ℕ → Option ℕ → ℕ
left size None = 0
left size (Some start) = suc (size - start)

abbrev pub invariant-loop-next : goal.invariant-loop-next
invariant-loop-next g l = record {
  within : IfSome l.next (λ s. s ≤ length l.source.raw.now);
  all : with_trees (map tree_of l.parts.items) (parts_from (g.M.ReadingManner.manner l.manner) (l.levels - 1) (in_digest l.split.inner) (drop 1 l.split.line_delimiter.items) l.source.raw.now l.next)
      ≡ parts_from (g.M.ReadingManner.manner l.manner) (l.levels - 1) (in_digest l.split.inner) (drop 1 l.split.line_delimiter.items) l.source.raw.now l.split.first;
  counted : (limit : Option ℕ) (all : ℕ) → Leaves limit all l.fn.left (met_from (g.M.ReadingManner.manner l.manner) (l.levels - 1) (in_digest l.split.inner) (drop 1 l.split.line_delimiter.items) l.source.raw.now l.split.first)
      → Leaves limit all l.left (met_from (g.M.ReadingManner.manner l.manner) (l.levels - 1) (in_digest l.split.inner) (drop 1 l.split.line_delimiter.items) l.source.raw.now l.next);
  placed : ArePlaced (g.M.ReadingManner.manner l.manner).whole_lines l.source.offset (drop 1 l.split.line_delimiter.items) l.source.raw.now l.split.first l.next l.parts.items;
}

abbrev pub decreases-loop-next : goal.decreases-loop-next
decreases-loop-next g l = left (length l.source.raw.now) l.next
