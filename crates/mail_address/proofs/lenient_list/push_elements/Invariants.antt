-- The elements before, and then those so far, read leniently.
use Rattle.std.proofs.Common.{◌≡◌, ◌++◌, map, take}
use Rattle.std.specs.Prelude.{flat_map}
use Rattle.mail_address.specs.AddressViews.{element_view}
use Rattle.mail_address.specs.Lenient.{parted, refined}
use Rattle.mail_address.proofs.lenient_list.push_elements.Given as goal

abbrev pub invariant-loop-element : goal.invariant-loop-element
invariant-loop-element l =
    map element_view l.list.items ≡ map element_view l.initial.list.items ++ flat_map parted (map (refined l.raw) (map element_view (take l.element-index l.elements)))
