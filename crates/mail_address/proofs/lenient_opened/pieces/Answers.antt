use Rattle.std.proofs.Common.{refl}
use Rattle.std.proofs.lemmas.List.{take_rest}
use Rattle.mail_address.proofs.lemmas.Addresses.{MadeTo-more, MadeTo-end, some_bytes, no_bytes}
use Rattle.mail_address.proofs.lemmas.LenientLists.{piece_len_some}
use Rattle.mail_address.proofs.lenient_opened.pieces.Goals as goal

pub pieces-preserved : goal.pieces-preserved
pieces-preserved c =
    MadeTo-more piece_len_some c.pieces.invariant (some_bytes c.pieces.rest.now c.is_empty.ensures c.pieces-test.true) c.in_ok-len.ensures.pushed c.in_ok-len.ensures.len
    c.in_ok-len.ensures.bounds (take_rest c.pieces.rest.now c.in_ok-len.len) refl

pub returns : goal.returns
returns c = MadeTo-end c.pieces.invariant (no_bytes c.pieces.rest.now c.is_empty.ensures c.pieces-test.false)
