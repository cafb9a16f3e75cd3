use Rattle.std.proofs.Common.{◌∷◌, [], refl}
use Rattle.mail_codec.proofs.lemmas.VectorsLetters.{in_order}
use Rattle.mail_codec.proofs.vectors.letters.packed.Goals as goal

pub returns-clause-groups : goal.returns-clause-groups
returns-clause-groups c =
    in_order 4 c.args.letters c.values.result c.numbers.result c.fits-letters.0 c.fits-letters.1 c.values.ensures c.numbers.ensures
    (2 ∷ 1 ∷ 0 ∷ 6 ∷ 5 ∷ 4 ∷ 10 ∷ 9 ∷ 8 ∷ 14 ∷ 13 ∷ 12 ∷ 3 ∷ 7 ∷ 11 ∷ 15 ∷ []) refl refl refl
