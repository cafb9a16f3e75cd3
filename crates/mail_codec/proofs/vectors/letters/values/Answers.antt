use Rattle.std.proofs.Common.{refl, arith}
use Rattle.mail_codec.proofs.lemmas.VectorsLetters.{additions_ok, values_are}
use Rattle.mail_codec.proofs.vectors.letters.values.Goals as goal

pub swizzle-additions : goal.swizzle-additions
swizzle-additions c = additions_ok 1 16 refl (omega arith) c.args.letters c.fits-letters

pub returns : goal.returns
returns c = values_are 1 16 refl (omega arith) c.args.letters c.fits-letters
