-- A name that is left was seen or is repeated exactly if one of all is repeated.
use Rattle.std.proofs.Common.{◌≡◌, drop, map}
use Rattle.std.specs.BTreeSet.{contains_text}
use Rattle.std.specs.String.{string_bytes}
use Rattle.mail_check.specs.Parameters.{has_repeat, none_seen}
use Rattle.mail_check.proofs.parameter_names.has_repeat.Given as goal

abbrev pub invariant-loop-name : goal.invariant-loop-name
invariant-loop-name l = has_repeat (contains_text l.seen) (map string_bytes (drop l.name-index l.names)) ≡ has_repeat none_seen (map string_bytes l.names)
