use Rattle.mail_codec.specs.Escapes.{may_need_escape}
use Rattle.mail_codec.specs.Places.{begins, first_place}
use Rattle.mail_codec.proofs.lemmas.Places.{PassedTo}
use Rattle.mail_codec.proofs.bytescan.escapes.short_len.Given as goal

abbrev pub invariant-loop-place : goal.invariant-loop-place
invariant-loop-place l =
    PassedTo (begins may_need_escape) l.bytes (first_place (begins may_need_escape) l.bytes) l.place
