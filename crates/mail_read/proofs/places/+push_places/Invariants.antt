-- The places so far, and then those of the remaining parts, are the old places and then those of the message.
use Rattle.std.proofs.Common.{◌≡◌, ◌++◌, suc, map, drop}
use Rattle.mailparse.specs.Mail.{forest}
use Rattle.mailparse.specs.Views.{placements_of, tree_of}
use Rattle.mailparse.proofs.lemmas.Placement.{all_placed}
use Rattle.mail_read.specs.Files.{parts_with_paths, with_paths}
use Rattle.mail_read.specs.PlaceViews.{numbered_view, placement_view}
use Rattle.mail_read.proofs.places.«+push_places».Given as goal

abbrev pub invariant-loop-part : goal.invariant-loop-part
invariant-loop-part l = record {
  count : l.number ≡ l.part-index;
  paths : map numbered_view l.found.items ++ parts_with_paths l.path (suc l.part-index) (forest (map tree_of (drop l.part-index l.part-items)))
      ≡ map numbered_view l.fn.found.items ++ with_paths l.path (tree_of l.mail);
  ranges : map placement_view l.found.items ++ all_placed (drop l.part-index l.part-items) ≡ map placement_view l.fn.found.items ++ placements_of l.mail;
}
