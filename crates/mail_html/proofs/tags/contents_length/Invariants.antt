use Rattle.std.proofs.Common.{length, ◌-◌}
use Rattle.mail_codec.specs.Places.{first_place}
use Rattle.mail_codec.proofs.lemmas.Places.{PassedTo}
use Rattle.mail_html.specs.Tags.{is_end_tag}
use Rattle.mail_html.proofs.tags.contents_length.Given as goal

abbrev pub invariant-tags : goal.invariant-tags
invariant-tags l = PassedTo (is_end_tag l.name) l.bytes (first_place (is_end_tag l.name) l.bytes) l.at

abbrev pub decreases-tags : goal.decreases-tags
decreases-tags l = length l.bytes - l.at
