-- The elements so far, and then those of the rest, are all elements.
use Rattle.std.proofs.Common.{length, map}
use Rattle.mail_address.specs.Addresses.{element_at, element_len}
use Rattle.mail_address.specs.AddressViews.{element_view}
use Rattle.mail_address.proofs.lemmas.Addresses.{MadeTo}
use Rattle.mail_address.proofs.list.read_addresses.Given as goal

abbrev pub invariant-elements : goal.invariant-elements
invariant-elements l = MadeTo element_at element_len 0 l.raw (map element_view l.list.items) l.start l.rest

abbrev pub decreases-elements : goal.decreases-elements
decreases-elements l = length l.rest
