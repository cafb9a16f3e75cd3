-- The characters so far fit, and then those of the rest that fit.
use Rattle.std.proofs.Common.{length}
use Rattle.mail_read.proofs.lemmas.FileNames.{CountsTo}
use Rattle.mail_read.proofs.files.names.front_len.Given as goal

abbrev pub invariant-characters : goal.invariant-characters
invariant-characters l = CountsTo l.capacity l.characters l.left l.rest

abbrev pub decreases-characters : goal.decreases-characters
decreases-characters l = length l.rest
