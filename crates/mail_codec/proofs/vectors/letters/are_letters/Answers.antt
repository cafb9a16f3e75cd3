use Rattle.std.proofs.Common.{arith}
use Rattle.mail_codec.proofs.lemmas.VectorsLetters.{all_letters, others_mask}
use Rattle.mail_codec.proofs.vectors.letters.are_letters.Goals as goal

pub returns : goal.returns
returns c = all_letters c.args.bytes _ c.fits-bytes.0 (others_mask 64 (omega arith) c.args.bytes c.wide_faults.result c.fits-bytes c.wide_faults.ensures)
