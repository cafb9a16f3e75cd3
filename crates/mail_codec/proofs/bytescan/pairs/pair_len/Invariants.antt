use Rattle.std.proofs.Common.{◌-◌, ◌∷◌, [], length}
use Rattle.mail_codec.specs.Places.{first_place, has_prefix}
use Rattle.mail_codec.proofs.lemmas.Places.{PassedTo}
use Rattle.mail_codec.proofs.bytescan.pairs.pair_len.Given as goal

abbrev pub invariant-vectors : goal.invariant-vectors
invariant-vectors l = PassedTo (has_prefix (l.first ∷ l.second ∷ [])) l.bytes (first_place (has_prefix (l.first ∷ l.second ∷ [])) l.bytes) l.at

abbrev pub decreases-vectors : goal.decreases-vectors
decreases-vectors l = length l.bytes - l.at
