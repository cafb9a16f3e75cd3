-- The answer depends on the remaining bytes.
use Rattle.std.proofs.Common.{◌≡◌, drop}
use Rattle.std.specs.List.{list_all}
use Rattle.std.specs.Char.{is_ascii_alphanumeric}
use Rattle.mail_laws.proofs.render.conditions.is_plain_boundary.Given as goal

abbrev pub invariant-loop-byte : goal.invariant-loop-byte
invariant-loop-byte l = list_all is_ascii_alphanumeric l.boundary ≡ list_all is_ascii_alphanumeric (drop l.byte-index l.boundary)
