use Rattle.std.proofs.Common.{length, ◌-◌}
use Rattle.mail_codec.specs.Places.{first_place, has_prefix}
use Rattle.mail_codec.proofs.lemmas.Places.{PassedTo}
use Rattle.mail_codec.proofs.bytescan.find.Given as goal

abbrev pub invariant-candidates : goal.invariant-candidates
invariant-candidates l = PassedTo (has_prefix l.needle) l.haystack (first_place (has_prefix l.needle) l.haystack) l.at

abbrev pub decreases-candidates : goal.decreases-candidates
decreases-candidates l = length l.haystack - l.at
