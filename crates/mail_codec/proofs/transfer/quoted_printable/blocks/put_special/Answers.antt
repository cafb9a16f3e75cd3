use Rattle.std.proofs.Common.{refl, arith}
use Rattle.mail_codec.proofs.lemmas.QuotedPrintableSpecials.{in_block, matches_later}
use Rattle.mail_codec.proofs.transfer.quoted_printable.blocks.put_special.Goals as goal

pub returns-then-text-found-eq10-clause-block : goal.returns-then-text-found-eq10-clause-block
returns-then-text-found-eq10-clause-block c =
    let h = c.requires.block in
    let line = c.put_line_end-read.ensures in
    in_block h line.after.0 (omega arith) c.put_line_end-read.auto.output (omega (arith, line.fits, line.after.1)) line.reading
    (matches_later c.args.text.now c.args.found.next c.args.end 1 _ _ _ refl c.matches_after-rest.ensures h.left)
