-- The members before, and then those so far, read leniently.
use Rattle.std.proofs.Common.{◌≡◌, ◌++◌, map, take}
use Rattle.mail_address.specs.AddressViews.{element_view, member_view}
use Rattle.mail_address.specs.Lenient.{lenient_members}
use Rattle.mail_address.proofs.lenient_members.push_each.Given as goal

abbrev pub invariant-loop-element : goal.invariant-loop-element
invariant-loop-element l =
    map member_view l.list.items ≡ map member_view l.initial.list.items ++ lenient_members (map element_view (take l.element-index l.elements))
