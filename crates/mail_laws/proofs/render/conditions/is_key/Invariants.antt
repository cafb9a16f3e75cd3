-- The answer depends on the remaining bytes.
use Rattle.std.proofs.Common.{◌≡◌, drop}
use Rattle.std.specs.List.{list_all}
use Rattle.mail_laws.specs.Render.{is_key_byte}
use Rattle.mail_laws.proofs.render.conditions.is_key.Given as goal

abbrev pub invariant-loop-byte : goal.invariant-loop-byte
invariant-loop-byte l = list_all is_key_byte l.key ≡ list_all is_key_byte (drop l.byte-index l.key)
