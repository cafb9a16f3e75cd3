use Rattle.std.proofs.Common.{arith}
use Rattle.mail_codec.proofs.lemmas.QuotedPrintableSpecials.{after_escape}
use Rattle.mail_codec.proofs.transfer.quoted_printable.blocks.put_escape.Goals as goal

pub returns-clause-reading : goal.returns-clause-reading
returns-clause-reading c =
    let read = c.args.read in
    let h = c.put_plain.ensures.reading in
    after_escape c.args.text.now read.from c.put_plain.new.output read.len read.plain c.args.special h c.args.byte (omega (arith, c.put_plain.auto.output, c.requires.capacity, h.start)) (omega (arith, c.requires.within)) c.requires.escape
