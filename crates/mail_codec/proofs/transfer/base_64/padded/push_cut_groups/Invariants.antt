use Rattle.std.proofs.Common.{◌≡◌, ◌*◌, ◌++◌, drop}
use Rattle.mail_codec.specs.private.Padded.{cut_groups}
use Rattle.mail_codec.proofs.transfer.base_64.padded.push_cut_groups.Given as goal

-- the bytes appended, then those cut from the groups left, are all
abbrev pub invariant-groups : goal.invariant-groups
invariant-groups l = l.bytes.items ++ cut_groups (drop (4 * l.number) l.letters) (drop (3 * l.number) l.decoded) ≡ l.initial.bytes.items ++ cut_groups l.letters l.decoded
