-- The members so far, as elements.
use Rattle.std.proofs.Common.{◌≡◌, map, take}
use Rattle.mail_address.specs.Addresses.{single}
use Rattle.mail_address.specs.AddressViews.{element_view, member_view}
use Rattle.mail_address.proofs.lenient_members.elements_of.Given as goal

abbrev pub invariant-loop-member : goal.invariant-loop-member
invariant-loop-member l = map element_view l.list.items ≡ map single (map member_view (take l.member-index l.members))
