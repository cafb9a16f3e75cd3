-- How many messages a strict mail has, and how deep they are nested; the project's own rule.
use Rattle.std.specs.Prelude.{ℕ, zero, suc, ◌≤◌, length, ⊤}
use Rattle.mailparse.specs.Mail.{Forest, Tree, tree, no_parts, part_and, trees_within}

abbrev mutual
  -- a message and its parts have at most this number of levels
  pub HasLevels : ℕ → Tree → Type 0
  HasLevels zero t = ⊥
  HasLevels (suc most) (tree node parts) = HaveLevels most parts

  -- each of some parts does
  pub HaveLevels : ℕ → Forest → Type 0
  HaveLevels most no_parts = ⊤
  HaveLevels most (part_and t ts) = HasLevels most t × HaveLevels most ts

-- a mail has at most 10 levels, and at most 100 messages, itself and its parts
pub record IsSmall (mail : Tree) : Type 0 where
  pub levels : HasLevels 10 mail
  pub messages : length (trees_within mail) ≤ 100
