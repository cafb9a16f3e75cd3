-- The elements so far, and then those of the rest, are all of them.
use Rattle.std.proofs.Common.{◌≡◌, ◌++◌, ◌≤◌, length, map}
use Rattle.mail_address.specs.AddressViews.{element_view}
use Rattle.mail_address.specs.Lenient.{joined, lenient_elements}
use Rattle.mail_address.proofs.lenient_list.push_joined.Given as goal

abbrev pub invariant-fronts : goal.invariant-fronts
invariant-fronts l = record {
  pushed : map element_view l.list.items ++ lenient_elements l.raw (joined l.raw (map element_view l.rest))
      ≡ map element_view l.initial.list.items ++ lenient_elements l.raw (joined l.raw (map element_view l.elements));
  bounds : length l.rest ≤ length l.elements;
}

abbrev pub decreases-fronts : goal.decreases-fronts
decreases-fronts l = length l.rest
