use Rattle.std.proofs.Common.{refl, ap, ◌∙◌}
use Rattle.std.proofs.lemmas.List.{take_rest}
use Rattle.mail_address.specs.Addresses.{items}
use Rattle.mail_address.specs.Lenient.{several, several_at, several_len}
use Rattle.mail_address.proofs.lemmas.Addresses.{MadeTo-more, MadeTo-end, some_bytes, no_bytes}
use Rattle.mail_address.proofs.lemmas.LenientLists.{several_len_some}
use Rattle.mail_address.proofs.lenient_several.several.Goals as goal

pub addresses-preserved : goal.addresses-preserved
addresses-preserved c =
    MadeTo-more (several_len_some _) c.addresses.invariant (some_bytes c.addresses.rest.now c.is_empty.ensures c.addresses-test.true) c.in_ok-len.ensures.pushed
    c.in_ok-len.ensures.len c.in_ok-len.ensures.bounds (take_rest c.addresses.rest.now c.in_ok-len.len) refl

pub returns : goal.returns
unfolding several
returns c =
    MadeTo-end c.addresses.invariant (no_bytes c.addresses.rest.now c.is_empty.ensures c.addresses-test.false)
    ∙ ap (λ angles. items (several_at angles) (several_len angles) c.args.unknown.now.start c.args.unknown.now.text.now) c.has_brackets-has_angles.ensures
