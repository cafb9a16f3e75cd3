-- The bytes so far, and then those of the rest, are all.
use Rattle.std.proofs.Common.{◌≡◌, ◌++◌, drop}
use Rattle.std.specs.Prelude.{flat_map}
use Rattle.mail_address.specs.Writer.{next_mailbox}
use Rattle.mail_address.proofs.writer.push_mailboxes.Given as goal

abbrev pub invariant-loop-member : goal.invariant-loop-member
invariant-loop-member l = l.out.items ++ flat_map next_mailbox (drop l.member-index l.members) ≡ l.fn.out.items ++ flat_map next_mailbox l.members
