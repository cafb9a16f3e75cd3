-- The places of a mail and its parts, with their paths; the project's own words.
use Rattle.std.specs.Prelude.{ℕ, List, [], ◌∷◌}
use Rattle.mailparse.specs.Mail.{Tree}
use Rattle.mailparse.specs.Placement.{Placement}
use Rattle.mail_read.specs.Files.{whole_path, with_paths}

-- a message with its path and its place
pub record Place : Type 0 where
  pub path : List ℕ
  pub part : Tree
  pub placement : Placement

-- messages with paths, each with its place
abbrev pub placed : List (List ℕ × Tree) → List Placement → List Place
placed [] placements = []
placed (m ∷ messages) [] = []
placed (m ∷ messages) (placement ∷ placements) =
    record { path = m.0; part = m.1; placement = placement } ∷ placed messages placements

-- a whole mail and then its parts, each before its own parts, given their places in this order
abbrev pub places : Tree → List Placement → List Place
places mail placements = placed (with_paths (whole_path mail) mail) placements
