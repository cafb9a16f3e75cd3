-- The members so far, and then those of the rest, are all members.
use Rattle.std.proofs.Common.{length, map}
use Rattle.mail_address.specs.Addresses.{member_at, member_len}
use Rattle.mail_address.specs.AddressViews.{member_view}
use Rattle.mail_address.proofs.lemmas.Addresses.{MadeTo}
use Rattle.mail_address.proofs.list.members_at.Given as goal

abbrev pub invariant-members : goal.invariant-members
invariant-members l = MadeTo member_at member_len l.fn.start l.bytes (map member_view l.list.items) l.start l.rest

abbrev pub decreases-members : goal.decreases-members
decreases-members l = length l.rest
