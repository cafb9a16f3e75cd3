use Rattle.std.proofs.Common.{arith}
use Rattle.mail_codec.proofs.lemmas.CharsetSingleByte.{IsAscii-block}
use Rattle.mail_codec.proofs.charset.decoder.ascii_blocks_length.Goals as goal

pub loop-at-preserved : goal.loop-at-preserved
loop-at-preserved c = (omega arith, IsAscii-block c.args.bytes.now c.loop-at.at 16 c.loop-at.invariant.1 c.if-is_ascii.ensures.cases)
