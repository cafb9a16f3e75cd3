use Rattle.std.proofs.Common.{refl}
use Rattle.std.proofs.lemmas.List.{take_rest}
use Rattle.mail_address.proofs.lemmas.Addresses.{MadeTo-more, MadeTo-end, element_len-some, some_bytes, no_bytes}
use Rattle.mail_address.proofs.list.read_addresses.Goals as goal

pub elements-preserved : goal.elements-preserved
elements-preserved c =
    MadeTo-more element_len-some c.elements.invariant (some_bytes c.elements.rest.now c.is_empty.ensures c.elements-test.true) c.in_ok-len.ensures.pushed c.in_ok-len.ensures.len
    c.in_ok-len.ensures.bounds (take_rest c.elements.rest.now c.in_ok-len.len) refl

pub returns : goal.returns
returns c = MadeTo-end c.elements.invariant (no_bytes c.elements.rest.now c.is_empty.ensures c.elements-test.false)
