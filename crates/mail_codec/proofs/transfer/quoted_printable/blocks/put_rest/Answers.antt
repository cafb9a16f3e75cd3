use Rattle.std.proofs.Common.{take, drop, refl, arith}
use Rattle.mail_codec.proofs.lemmas.QuotedPrintableSpecials.{after_vector}
use Rattle.mail_codec.proofs.transfer.quoted_printable.blocks.put_rest.Goals as goal

pub returns-clause-reading : goal.returns-clause-reading
returns-clause-reading c =
    let read = c.args.read in
    let text = c.args.text.now in
    rw c.copied_to.ensures (after_vector text read.from c.args.output.now read.len read.plain read.at c.requires.reading 64 c.args.end (take 64 (drop read.at text)) refl (omega (arith, c.if-read-end.false)) (omega (arith, c.requires.near))
    (omega (arith, c.requires.within, c.if-read-end.false)) (omega (arith, c.requires.capacity, c.requires.reading.start, c.if-read-end.false)) c.requires.plain)
