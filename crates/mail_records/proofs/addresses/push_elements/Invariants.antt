-- The entries so far, and those of the elements that are left.
use Rattle.std.proofs.Common.{◌≡◌, List, [], ◌++◌, length, map, drop}
use Rattle.mail_address.specs.AddressViews.{element_view}
use Rattle.mail_records.specs.AddressRecords.{AreRecords, Entry, entries_from}
use Rattle.mail_records.proofs.addresses.push_elements.Given as goal

abbrev pub invariant-loop-element : goal.invariant-loop-element
invariant-loop-element g l =
    let known = g.K.KnownCharsets.known l.known in
    (done : List Entry)
    × (done ++ entries_from known (length done) (map element_view (drop l.element-index l.list)) ≡ entries_from known 0 (map element_view l.list))
    × (AreRecords [] l.initial.found → AreRecords done l.found)
