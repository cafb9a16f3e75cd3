use Rattle.std.proofs.Common.{length, ◌-◌}
use Rattle.mail_codec.specs.Escapes.{may_need_escape}
use Rattle.mail_codec.specs.Places.{begins, first_place}
use Rattle.mail_codec.proofs.lemmas.Places.{PassedTo}
use Rattle.mail_codec.proofs.bytescan.escapes.vectors_len.Given as goal

abbrev pub invariant-vectors : goal.invariant-vectors
invariant-vectors l = PassedTo (begins may_need_escape) l.bytes (first_place (begins may_need_escape) l.bytes) l.at

abbrev pub decreases-vectors : goal.decreases-vectors
decreases-vectors l = length l.bytes - l.at
