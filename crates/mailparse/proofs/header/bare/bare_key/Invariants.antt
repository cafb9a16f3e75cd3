use Rattle.mailparse.proofs.lemmas.BareKeys.{AreBlanks}
use Rattle.mailparse.proofs.header.bare.bare_key.Given as goal

abbrev pub invariant-blanks : goal.invariant-blanks
invariant-blanks l = AreBlanks l.key l.end

abbrev pub decreases-blanks : goal.decreases-blanks
decreases-blanks l = l.end
