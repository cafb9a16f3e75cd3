-- The ranges of a message and its parts in the mail that was parsed, counted from its first byte; the project's own terms.
use Rattle.std.specs.Prelude.{ℕ, Bool, false, ◌+◌, List, [], ◌∷◌, ◌++◌, length}
use Rattle.mailparse.specs.Mail.{Tree, tree, Forest, no_parts, part_and, cut_of_as}
use Rattle.mailparse.specs.Ranges.{Range, moved}

-- the ranges of one message: of all its bytes, and of its body
pub record Placement : Type 0 where
  pub whole : Range
  pub body : Range

-- if whole lines are asked for, or not
module _ (whole : Bool) where
  abbrev mutual
    -- a message at this offset, then its parts, each before its own parts (preorder); its type determines how it is split
    pub placements_as : ℕ → Tree → List Placement
    placements_as start (tree node parts) =
        let cut = cut_of_as whole node.ctype node.bytes (length node.block) in
        record { whole = record { start = start; end = start + length node.bytes }; body = moved start cut.body } ∷ placements_in_as start cut.parts parts

    -- the same for parts at these ranges of a message at this offset
    pub placements_in_as : ℕ → List Range → Forest → List Placement
    placements_in_as start ranges no_parts = []
    placements_in_as start [] (part_and t ts) = []
    placements_in_as start (range ∷ ranges) (part_and t ts) = placements_as (start + range.start) t ++ placements_in_as start ranges ts

-- the same if whole lines are not asked for
abbrev pub placements : ℕ → Tree → List Placement
placements start t = placements_as false start t

abbrev pub placements_in : ℕ → List Range → Forest → List Placement
placements_in start ranges parts = placements_in_as false start ranges parts
