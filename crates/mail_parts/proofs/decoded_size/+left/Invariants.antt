-- How deep mails are searched falls; what is left after the remaining parts is left after all.
use Rattle.std.proofs.Common.{◌≡◌, ◌-◌, ◌+◌, ◌*◌, sum_by}
use Rattle.mailparse.specs.Mail.{trees_within}
use Rattle.mailparse.specs.Views.{tree_of, trees_left}
use Rattle.mail_parts.specs.DecodedSize.{bytes_left, decoded_size, part_size}
use Rattle.mail_parts.proofs.decoded_size.«+left».Given as goal

abbrev pub decreases-left_after_mails : goal.decreases-left_after_mails
decreases-left_after_mails g l = 2 * l.most

abbrev pub decreases-left_after_part : goal.decreases-left_after_part
decreases-left_after_part g l = 2 * l.most + 1

abbrev pub invariant-left_after_mails-loop-part : goal.invariant-left_after_mails-loop-part
invariant-left_after_mails-loop-part g l =
    let known = g.K.KnownCharsets.known l.known in
    let size = part_size known l.limit (decoded_size known l.limit (l.most - 1)) in
    bytes_left l.rest (sum_by size (trees_left l.part-iterator)) ≡ bytes_left l.left (sum_by size (trees_within (tree_of l.mail)))
