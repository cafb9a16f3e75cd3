-- The members so far, and then those of the rest, are all of them.
use Rattle.std.proofs.Common.{◌≡◌, ◌++◌, ◌≤◌, length, map}
use Rattle.mail_address.specs.AddressViews.{element_view, member_view}
use Rattle.mail_address.specs.Lenient.{joined, lenient_members}
use Rattle.mail_address.proofs.lenient_members.push_joined.Given as goal

abbrev pub invariant-fronts : goal.invariant-fronts
invariant-fronts l = record {
  pushed : map member_view l.list.items ++ lenient_members (joined l.raw (map element_view l.rest))
      ≡ map member_view l.initial.list.items ++ lenient_members (joined l.raw (map element_view l.elements));
  bounds : length l.rest ≤ length l.elements;
}

abbrev pub decreases-fronts : goal.decreases-fronts
decreases-fronts l = length l.rest
