-- Whether more blocks follow an offset than are left says whether the text has more than the limit.
use Rattle.mail_parts.proofs.lemmas.Reading.{Searched}
use Rattle.mail_parts.proofs.reading.has_many_blocks.Given as goal

abbrev pub invariant-search : goal.invariant-search
invariant-search l = Searched l.limit l.text l.left l.at

abbrev pub decreases-search : goal.decreases-search
decreases-search l = l.left
