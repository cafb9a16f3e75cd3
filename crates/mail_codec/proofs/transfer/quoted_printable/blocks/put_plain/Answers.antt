use Rattle.std.proofs.Common.{◌-◌, take, refl, ap, ◌∙◌, arith}
use Rattle.std.proofs.lemmas.List.{take_rest}
use Rattle.mail_codec.proofs.lemmas.QuotedPrintableSpecials.{after_copy}
use Rattle.mail_codec.proofs.transfer.quoted_printable.blocks.put_plain.Goals as goal

pub returns : goal.returns
returns c =
    let read = c.args.read in
    record {
      reading =
          after_copy c.args.text.now read.from c.args.output.now read.len read.plain read.at c.requires.reading (c.args.to - read.at) c.put_vectors.new.output c.put_vectors.auto.output c.args.to refl c.requires.ahead
          (omega (arith, c.requires.within)) (omega (arith, c.requires.capacity, c.requires.ahead, c.requires.reading.start)) c.requires.plain
          (c.put_vectors.ensures.written ∙ ap (take (c.args.to - read.at)) (take_rest c.args.text.now read.at));
    }
