use Rattle.std.proofs.Common.{◌-◌, refl, arith}
use Rattle.mail_codec.proofs.lemmas.QuotedPrintableSpecials.{in_block, matches_later, plain-joined, plain-sign}
use Rattle.mail_codec.proofs.transfer.quoted_printable.blocks.put_sign.Goals as goal

pub returns-then-after-found-clause-block : goal.returns-then-after-found-clause-block
returns-then-after-found-clause-block c =
    let h = c.requires.block in
    let ahead = h.ahead in
    record {
      reading = h.reading;
      ahead = omega arith;
      inside = omega (arith, c.requires.within);
      is_plain = plain-joined _ _ _ _ h.is_plain (plain-sign c.args.text.now c.args.found.next c.requires.sign c.requires.none);
      left = matches_later c.args.text.now c.args.found.next c.args.end 1 _ _ _ refl c.matches_after-rest.ensures h.left;
      near = h.near;
      capacity = h.capacity;
    }

pub returns-clause-block : goal.returns-clause-block
returns-clause-block c =
    let h = c.requires.block in
    let soft = c.put_soft_break-read.ensures in
    let after = c.after_soft_break-after.result in
    let low = c.after_soft_break-after.ensures.bounds.0 in
    in_block h soft.after.0 low c.put_soft_break-read.auto.output (omega (arith, soft.fits, soft.after.1, low, c.if-after-found.false)) soft.reading
    (matches_later c.args.text.now c.args.found.next c.args.end (after - c.args.found.next) after _ _ (omega (arith, low)) c.matches_after-rest-2.ensures h.left)
