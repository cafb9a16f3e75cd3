-- The name is among those that are left exactly if it is among all.
use Rattle.std.proofs.Common.{◌≡◌, drop, map}
use Rattle.std.specs.String.{string_bytes}
use Rattle.mail_check.specs.Parameters.{is_among}
use Rattle.mail_check.proofs.parameter_names.is_among.Given as goal

abbrev pub invariant-loop-other : goal.invariant-loop-other
invariant-loop-other l = is_among l.name (map string_bytes (drop l.other-index l.names)) ≡ is_among l.name (map string_bytes l.names)
