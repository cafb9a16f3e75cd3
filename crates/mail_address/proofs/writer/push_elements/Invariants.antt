-- The bytes so far, and then those of the rest, are all.
use Rattle.std.proofs.Common.{◌≡◌, ◌++◌, drop}
use Rattle.std.specs.Prelude.{flat_map}
use Rattle.mail_address.specs.Writer.{next_element}
use Rattle.mail_address.proofs.writer.push_elements.Given as goal

abbrev pub invariant-loop-address : goal.invariant-loop-address
invariant-loop-address l = l.out.items ++ flat_map next_element (drop l.address-index l.addresses) ≡ l.fn.out.items ++ flat_map next_element l.addresses
