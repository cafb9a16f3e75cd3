use Rattle.std.proofs.Common.{arith, ap, length}
use Rattle.mail_address.proofs.lemmas.Addresses.{is_group-within}
use Rattle.mail_address.proofs.list.group_len.Goals as goal

pub split_at-requires : goal.split_at-requires
split_at-requires c =
    let low = (is_group-within c.args.bytes.now c.requires).1 in
    let same = ap length c.after_name.ensures in
    omega (arith, c.inner_len-inner.ensures.value)
