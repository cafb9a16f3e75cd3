use Rattle.std.proofs.Common.{length}
use Rattle.mailparse.proofs.lemmas.Header.{TrimmedTo}
use Rattle.mailparse.proofs.header.parse.trim_line_ends.Given as goal

abbrev pub invariant-loop-last : goal.invariant-loop-last
invariant-loop-last l = TrimmedTo l.bytes l.rest

abbrev pub decreases-loop-last : goal.decreases-loop-last
decreases-loop-last l = length l.rest
