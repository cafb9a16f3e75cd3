-- The offset found in the rest, after the bytes seen so far, is the offset in the bytes.
use Rattle.std.proofs.Common.{◌≡◌, ◌+◌, false, drop}
use Rattle.mail_address.specs.Tokens.{unquoted_place}
use Rattle.mail_address.proofs.tokens.unquoted_place.Given as goal

abbrev pub invariant-loop-place : goal.invariant-loop-place
invariant-loop-place l = l.place + unquoted_place l.one l.other l.is_quoted (drop l.place l.bytes) ≡ unquoted_place l.one l.other false l.bytes
