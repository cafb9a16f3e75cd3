use Rattle.std.proofs.Common.{refl, arith}
use Rattle.mail_codec.proofs.lemmas.VectorsLetters.{faults_are, lower_ok, upper_ok}
use Rattle.mail_codec.proofs.vectors.letters.faults.Goals as goal

pub swizzle-upper : goal.swizzle-upper
swizzle-upper c = upper_ok 1 16 refl (omega arith) c.args.bytes c.fits-bytes

pub swizzle-lower : goal.swizzle-lower
swizzle-lower c = lower_ok 1 16 refl (omega arith) c.args.bytes c.fits-bytes

pub returns : goal.returns
returns c = faults_are 1 16 refl (omega arith) c.args.bytes c.fits-bytes
