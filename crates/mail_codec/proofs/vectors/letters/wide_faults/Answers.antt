use Rattle.std.proofs.Common.{refl, arith}
use Rattle.mail_codec.proofs.lemmas.VectorsLetters.{faults_are, lower_ok, upper_ok}
use Rattle.mail_codec.proofs.vectors.letters.wide_faults.Goals as goal

pub swizzle-upper : goal.swizzle-upper
swizzle-upper c = upper_ok 4 64 refl (omega arith) c.args.bytes c.fits-bytes

pub swizzle-lower : goal.swizzle-lower
swizzle-lower c = lower_ok 4 64 refl (omega arith) c.args.bytes c.fits-bytes

pub returns : goal.returns
returns c = faults_are 4 64 refl (omega arith) c.args.bytes c.fits-bytes
