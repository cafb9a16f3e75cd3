use Rattle.std.proofs.lemmas.Simd.{dot4_Fits}
use Rattle.mail_codec.specs.declared.vectors.letters.TheConstants.{FIRST_PAIR, LAST_PAIR}
use Rattle.mail_codec.proofs.lemmas.VectorsLetters.{numbers_are}
use Rattle.mail_codec.proofs.vectors.letters.wide_numbers.Goals as goal

pub dot4-first : goal.dot4-first
dot4-first c = (dot4_Fits c.args.values FIRST_PAIR c.fits-values.1 tt, tt)

pub dot4-last : goal.dot4-last
dot4-last c = (dot4_Fits c.args.values LAST_PAIR c.fits-values.1 tt, tt)

pub returns : goal.returns
returns c = numbers_are 16 c.args.values c.fits-values.0 c.fits-values.1
