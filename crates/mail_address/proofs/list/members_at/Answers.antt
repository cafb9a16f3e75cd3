use Rattle.std.proofs.Common.{refl}
use Rattle.std.proofs.lemmas.List.{take_rest}
use Rattle.mail_address.proofs.lemmas.Addresses.{MadeTo-more, MadeTo-end, member_len-some, some_bytes, no_bytes}
use Rattle.mail_address.proofs.list.members_at.Goals as goal

pub members-preserved : goal.members-preserved
members-preserved c =
    MadeTo-more member_len-some c.members.invariant (some_bytes c.members.rest.now c.is_empty.ensures c.members-test.true) c.in_ok-len.ensures.pushed c.in_ok-len.ensures.len
    c.in_ok-len.ensures.bounds (take_rest c.members.rest.now c.in_ok-len.len) refl

pub returns : goal.returns
returns c = MadeTo-end c.members.invariant (no_bytes c.members.rest.now c.is_empty.ensures c.members-test.false)
