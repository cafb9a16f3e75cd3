-- Such a character is among the bytes that are left exactly if it is among all.
use Rattle.std.proofs.Common.{◌≡◌, None, drop}
use Rattle.mail_check.specs.Disputed.{has_disputed_after, table_of}
use Rattle.mail_check.proofs.disputed.has_disputed_in.Given as goal

abbrev pub invariant-loop-byte : goal.invariant-loop-byte
invariant-loop-byte l =
    has_disputed_after (table_of l.singles l.bytes l.pairs l.more_pairs) l.before (drop l.byte-index l.octets)
    ≡ has_disputed_after (table_of l.singles l.bytes l.pairs l.more_pairs) None l.octets
