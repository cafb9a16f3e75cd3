-- What the pairs of the rest make of the map is what the pairs of the whole text make.
use Rattle.std.proofs.Common.{◌≡◌}
use Rattle.mailparse.specs.Pairs.{last_of, pairs_in, text_at}
use Rattle.mailparse.specs.Segments.{segments_of_rest}
use Rattle.mailparse.proofs.lemmas.Pairs.{stores, rest_length}
use Rattle.mailparse.proofs.parameters.pairs.pairs.Given as goal

abbrev pub invariant-loop-left : goal.invariant-loop-left
invariant-loop-left l = stores (text_at l.found) (pairs_in (segments_of_rest l.left)) ≡ last_of (pairs_in (segments_of_rest l.fn.rest))

abbrev pub decreases-loop-left : goal.decreases-loop-left
decreases-loop-left l = rest_length l.left
