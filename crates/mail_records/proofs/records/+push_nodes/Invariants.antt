-- The messages so far, and then the remaining parts and theirs, are the old ones and then those of the message.
use Rattle.std.proofs.Common.{◌≡◌, ◌≤◌, ◌+◌, ◌++◌, suc, length, map, drop}
use Rattle.std.specs.Prelude.{vec_len}
use Rattle.mailparse.specs.Mail.{forest, trees_in, trees_within}
use Rattle.mailparse.specs.Views.{placement_of, placements_of, tree_of}
use Rattle.mailparse.proofs.lemmas.Placement.{all_placed}
use Rattle.mail_records.specs.RecordViews.{family_view}
use Rattle.mail_records.specs.Records.{families, families_in}
use Rattle.mail_records.proofs.records.«+push_nodes».Given as goal

abbrev pub invariant-loop-part : goal.invariant-loop-part
invariant-loop-part l = record {
  trees : map (λ node. tree_of node.part.now) l.found.items ++ trees_in (forest (map tree_of (drop l.part-index l.part-items)))
      ≡ map (λ node. tree_of node.part.now) l.fn.found.items ++ trees_within (tree_of l.mail);
  ranges : map (λ node. placement_of node.part.now) l.found.items ++ all_placed (drop l.part-index l.part-items)
      ≡ map (λ node. placement_of node.part.now) l.fn.found.items ++ placements_of l.mail;
  families : map family_view l.found.items ++ families_in (vec_len l.found) (vec_len l.fn.found) (suc l.level) (forest (map tree_of (drop l.part-index l.part-items)))
      ≡ map family_view l.fn.found.items ++ families (vec_len l.fn.found) l.parent l.level (tree_of l.mail);
  len : vec_len l.found + length (trees_in (forest (map tree_of (drop l.part-index l.part-items)))) ≡ vec_len l.fn.found + length (trees_within (tree_of l.mail));
  deeper : suc l.level ≤ vec_len l.found;
}
