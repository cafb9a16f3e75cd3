use Rattle.std.proofs.Common.{◌≡◌, ◌*◌, ◌++◌, drop}
use Rattle.mail_codec.specs.private.Padded.{filled}
use Rattle.mail_codec.proofs.transfer.base_64.padded.fill_up.Given as goal

-- the groups filled in so far, then those left, are all
abbrev pub invariant-groups : goal.invariant-groups
invariant-groups l = l.full.items ++ filled (drop (4 * l.number) l.letters) ≡ filled l.letters
