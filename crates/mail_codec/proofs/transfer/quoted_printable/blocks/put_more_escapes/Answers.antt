use Rattle.mail_codec.proofs.lemmas.QuotedPrintableSpecials.{after_none, after_escapes}
use Rattle.mail_codec.proofs.transfer.quoted_printable.blocks.put_more_escapes.Goals as goal

pub returns-then-count-eq0-clause-reading : goal.returns-then-count-eq0-clause-reading
returns-then-count-eq0-clause-reading c =
    let read = c.args.read in
    after_none c.args.text.now read.from c.args.output.now read.len read.plain read.at c.requires.reading c.put_escapes-count.result c.put_escapes-count.new.output c.put_escapes-count.auto.output c.if-count-eq0.true

pub returns-clause-reading : goal.returns-clause-reading
returns-clause-reading c =
    let read = c.args.read in
    let escapes = c.put_escapes-count.ensures in
    after_escapes c.args.text.now read.from c.args.output.now read.len read.plain read.at c.requires.reading c.put_escapes-count.result c.put_escapes-count.new.output c.put_escapes-count.auto.output
    escapes.fits c.if-count-eq0.false escapes.first escapes.bounds escapes.read
