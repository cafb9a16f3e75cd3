-- What was made so far, and then the segments of the rest, is the whole text.
use Rattle.std.proofs.Common.{◌≡◌, ◌++◌}
use Rattle.std.specs.String.{string_bytes}
use Rattle.mailparse.specs.Segments.{segments, segments_of_rest}
use Rattle.mailparse.proofs.lemmas.Pairs.{rest_length}
use Rattle.mail_read.specs.lenient.Quoting.{joined, quoted_segments}
use Rattle.mail_read.proofs.lenient.quoting.joined.Given as goal

abbrev pub invariant-loop-left : goal.invariant-loop-left
invariant-loop-left l = string_bytes l.made ++ quoted_segments (segments_of_rest l.left) ≡ joined (segments l.text)

abbrev pub decreases-loop-left : goal.decreases-loop-left
decreases-loop-left l = rest_length l.left
