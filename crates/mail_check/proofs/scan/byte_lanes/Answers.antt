use Rattle.std.proofs.Common.{arith}
use Rattle.mail_codec.proofs.lemmas.Vectors.{equal_mask}
use Rattle.mail_check.proofs.scan.byte_lanes.Goals as goal

pub returns : goal.returns
returns c = equal_mask 16 c.args.byte c.args.bytes (omega arith) c.fits-bytes.0
