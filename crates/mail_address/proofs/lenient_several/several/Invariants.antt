-- The addresses so far, and then those of the rest, are all of them.
use Rattle.std.proofs.Common.{length, map}
use Rattle.mail_address.specs.AddressViews.{element_view}
use Rattle.mail_address.specs.Lenient.{several_at, several_len}
use Rattle.mail_address.proofs.lemmas.Addresses.{MadeTo}
use Rattle.mail_address.proofs.lenient_several.several.Given as goal

abbrev pub invariant-addresses : goal.invariant-addresses
invariant-addresses l =
    MadeTo (several_at l.has_angles) (several_len l.has_angles) l.unknown.start l.unknown.text.now (map element_view l.list.items) l.start l.rest

abbrev pub decreases-addresses : goal.decreases-addresses
decreases-addresses l = length l.rest
