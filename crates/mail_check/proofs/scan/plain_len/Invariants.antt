-- Such a character is searched from the offset that the vectors have reached.
use Rattle.std.proofs.Common.{◌-◌, length}
use Rattle.mail_codec.specs.Places.{begins, first_place}
use Rattle.mail_codec.proofs.lemmas.Places.{PassedTo}
use Rattle.mail_check.specs.Bytes.{is_control}
use Rattle.mail_check.proofs.scan.plain_len.Given as goal

abbrev pub invariant-vectors : goal.invariant-vectors
invariant-vectors l = PassedTo (begins is_control) l.bytes (first_place (begins is_control) l.bytes) l.at

abbrev pub decreases-vectors : goal.decreases-vectors
decreases-vectors l = length l.bytes - l.at
