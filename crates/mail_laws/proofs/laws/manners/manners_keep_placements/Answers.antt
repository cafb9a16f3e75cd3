use Rattle.mail_laws.proofs.lemmas.Placement.{placements_as-ranges, placements_as-bytes, placements_as-bodies}
use Rattle.mail_laws.proofs.laws.manners.manners_keep_placements.Goals as goal

pub returns : goal.returns
returns c = record {
  ranges = λ manner greatest mail parsed ranges read found. placements_as-ranges manner greatest mail parsed read ranges found;
  messages = placements_as-bytes;
  bodies = placements_as-bodies;
}
