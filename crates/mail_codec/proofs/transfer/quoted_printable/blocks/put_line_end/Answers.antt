use Rattle.std.proofs.Common.{arith}
use Rattle.mail_codec.proofs.lemmas.QuotedPrintableSpecials.{after_line, copy-no_escape}
use Rattle.mail_codec.proofs.transfer.quoted_printable.blocks.put_line_end.Goals as goal

pub put_ended_line-requires-clause-plain : goal.put_ended_line-requires-clause-plain
put_ended_line-requires-clause-plain c =
    copy-no_escape c.args.text.now c.args.read.from c.put_plain.new.output c.args.read.len c.args.read.plain c.args.special c.put_plain.ensures.reading

pub returns-clause-reading : goal.returns-clause-reading
returns-clause-reading c =
    let read = c.args.read in
    let h = c.put_plain.ensures.reading in
    after_line c.args.text.now read.from c.put_plain.new.output read.len read.plain c.args.special h c.put_ended_line.result c.put_ended_line.new.output c.put_ended_line.auto.output
    (omega (arith, c.put_plain.auto.output, c.requires.capacity, h.start)) (omega (arith, c.requires.within)) c.requires.line_end c.put_ended_line.ensures.bounds c.put_ended_line.ensures.written
