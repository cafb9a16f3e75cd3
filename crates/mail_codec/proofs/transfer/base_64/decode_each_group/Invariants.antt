use Rattle.std.proofs.Common.{◌≡◌, ◌+◌, ◌*◌, drop}
use Rattle.mail_codec.specs.Base64.{groups_from, prepend}
use Rattle.mail_codec.proofs.transfer.base_64.decode_each_group.Given as goal

-- the bytes appended, then the groups left, are all
abbrev pub invariant-groups : goal.invariant-groups
invariant-groups l =
    prepend l.bytes.items (groups_from (l.first + l.number) (drop (4 * l.number) l.letters))
    ≡ prepend l.initial.bytes.items (groups_from l.first l.letters)
