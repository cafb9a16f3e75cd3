-- The size so far and that of the rest are the size of all.
use Rattle.std.proofs.Common.{length}
use Rattle.mail_read.proofs.lemmas.FileNames.{SizedTo}
use Rattle.mail_read.proofs.files.names.size.Given as goal

abbrev pub invariant-characters : goal.invariant-characters
invariant-characters l = SizedTo l.characters l.size l.rest

abbrev pub decreases-characters : goal.decreases-characters
decreases-characters l = length l.rest
