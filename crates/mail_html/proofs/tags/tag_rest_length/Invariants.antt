use Rattle.std.proofs.Common.{◌-◌, length}
use Rattle.mail_html.proofs.lemmas.Tags.{RestFrom}
use Rattle.mail_html.proofs.tags.tag_rest_length.Given as goal

abbrev pub invariant-pieces : goal.invariant-pieces
invariant-pieces l = RestFrom l.bytes l.at

abbrev pub decreases-pieces : goal.decreases-pieces
decreases-pieces l = length l.bytes - l.at
