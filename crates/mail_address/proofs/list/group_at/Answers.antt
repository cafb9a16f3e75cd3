use Rattle.std.proofs.Common.{arith, suc, length-drop}
use Rattle.mail_address.specs.Addresses.{name_len}
use Rattle.mail_address.proofs.lemmas.Addresses.{is_group-within}
use Rattle.mail_address.proofs.list.group_at.Goals as goal

pub overflow_add-start-2 : goal.overflow_add-start-2
overflow_add-start-2 c =
    let low = (is_group-within c.args.bytes.now c.requires.group).0 in
    omega (arith, low, c.name_len-len.ensures.value, c.requires.fits)

pub members_at-requires : goal.members_at-requires
members_at-requires c =
    let low = (is_group-within c.args.bytes.now c.requires.group).0 in
    let cut = length-drop (suc (name_len c.args.bytes.now)) c.args.bytes.now in
    omega (arith, low, cut, c.name_len-len.ensures.value, c.inner_len.ensures.bounds, c.split_at.ensures.front_len, c.requires.fits)
