use Rattle.std.proofs.Common.{◌≡◌, ◌++◌, ◌<◌}
use Rattle.mail_codec.specs.Uuencode.{bytes_of}
use Rattle.mail_codec.proofs.transfer.uuencode.push_bytes.Given as goal

-- the bytes so far, and then those of the letters left, are all
abbrev pub invariant-groups : goal.invariant-groups
invariant-groups l = l.bytes.items ++ bytes_of l.left l.rest ≡ l.initial.bytes.items ++ bytes_of l.count l.letters

abbrev pub decreases-groups : goal.decreases-groups
decreases-groups l = l.left
