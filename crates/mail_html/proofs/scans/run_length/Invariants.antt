use Rattle.std.proofs.Common.{length, ◌-◌}
use Rattle.mail_codec.specs.Places.{first_place}
use Rattle.mail_codec.proofs.lemmas.Places.{PassedTo}
use Rattle.mail_html.specs.private.Runs.{begins_gap}
use Rattle.mail_html.proofs.scans.run_length.Given as goal

abbrev pub invariant-bytes : goal.invariant-bytes
invariant-bytes l = PassedTo begins_gap l.bytes (first_place begins_gap l.bytes) l.at

abbrev pub decreases-bytes : goal.decreases-bytes
decreases-bytes l = length l.bytes - l.at
