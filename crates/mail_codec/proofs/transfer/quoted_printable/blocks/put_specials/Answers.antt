use Rattle.std.proofs.Common.{◌-◌, take, drop, arith}
use Rattle.mail_codec.specs.private.QuotedPrintable.{is_special}
use Rattle.mail_codec.proofs.lemmas.Vectors.{no_match}
use Rattle.mail_codec.proofs.lemmas.QuotedPrintableSpecials.{at_special, plain-to_end}
use Rattle.mail_codec.proofs.transfer.quoted_printable.blocks.put_specials.Goals as goal

pub prove-unreachable-requires : goal.prove-unreachable-requires
prove-unreachable-requires c =
    let found = at_special c.args.text.now c.specials.output c.specials.block c.args.end _ _ c.specials.invariant.block c.first_match-count.ensures.least c.matches_after-rest.ensures in
    omega (arith, found.inside, c.if-prove.true)

pub put_special-block-requires-clause-block : goal.put_special-block-requires-clause-block
put_special-block-requires-clause-block c =
    let found = at_special c.args.text.now c.specials.output c.specials.block c.args.end _ _ c.specials.invariant.block c.first_match-count.ensures.least c.matches_after-rest.ensures in
    found.block

pub put_special-block-requires-clause-special : goal.put_special-block-requires-clause-special
put_special-block-requires-clause-special c =
    let found = at_special c.args.text.now c.specials.output c.specials.block c.args.end _ _ c.specials.invariant.block c.first_match-count.ensures.least c.matches_after-rest.ensures in
    found.sign

pub put_rest-requires-clause-plain : goal.put_rest-requires-clause-plain
put_rest-requires-clause-plain c =
    let text = c.args.text.now in
    let end = c.args.end in
    let next = c.specials.block.next in
    let h = c.specials.invariant.block in
    plain-to_end text c.specials.block.read.at next end (omega (arith, c.requires.within)) h.is_plain (no_match is_special (take (end - next) (drop next text)) c.specials.block.rest h.left c.specials-test.false)
