use Rattle.std.proofs.Common.{refl, arith}
use Rattle.mail_codec.proofs.lemmas.VectorsLetters.{additions_ok, values_are}
use Rattle.mail_codec.proofs.vectors.letters.wide_values.Goals as goal

pub swizzle-additions : goal.swizzle-additions
swizzle-additions c = additions_ok 4 64 refl (omega arith) c.args.letters c.fits-letters

pub returns : goal.returns
returns c = values_are 4 64 refl (omega arith) c.args.letters c.fits-letters
