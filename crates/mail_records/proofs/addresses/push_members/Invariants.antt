-- The entries so far, and those of the members that are left.
use Rattle.std.proofs.Common.{◌≡◌, List, ◌++◌, map, drop}
use Rattle.mail_address.specs.AddressViews.{member_view}
use Rattle.mail_records.specs.AddressRecords.{AppendsRecords, Entry, single_entry}
use Rattle.mail_records.proofs.addresses.push_members.Given as goal

abbrev pub invariant-loop-member : goal.invariant-loop-member
invariant-loop-member g l =
    let entry = single_entry (g.K.KnownCharsets.known l.known) l.group in
    (done : List Entry) × (done ++ map entry (map member_view (drop l.member-index l.members)) ≡ map entry (map member_view l.members))
    × AppendsRecords done l.initial.found l.found
