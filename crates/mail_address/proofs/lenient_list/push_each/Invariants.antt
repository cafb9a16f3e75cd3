-- The elements before, and then those so far, read leniently.
use Rattle.std.proofs.Common.{◌≡◌, ◌++◌, map, take}
use Rattle.mail_address.specs.AddressViews.{element_view}
use Rattle.mail_address.specs.Lenient.{lenient_elements}
use Rattle.mail_address.proofs.lenient_list.push_each.Given as goal

abbrev pub invariant-loop-element : goal.invariant-loop-element
invariant-loop-element l =
    map element_view l.list.items ≡ map element_view l.initial.list.items ++ lenient_elements l.raw (map element_view (take l.element-index l.elements))
