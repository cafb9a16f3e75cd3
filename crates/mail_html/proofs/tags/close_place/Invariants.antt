use Rattle.std.proofs.Common.{length, ◌-◌}
use Rattle.mail_codec.specs.Places.{first_place}
use Rattle.mail_codec.proofs.lemmas.Places.{PassedTo}
use Rattle.mail_html.specs.Tags.{closes_comment}
use Rattle.mail_html.proofs.tags.close_place.Given as goal

abbrev pub invariant-hyphens : goal.invariant-hyphens
invariant-hyphens l = PassedTo closes_comment l.bytes (first_place closes_comment l.bytes) l.at

abbrev pub decreases-hyphens : goal.decreases-hyphens
decreases-hyphens l = length l.bytes - l.at
