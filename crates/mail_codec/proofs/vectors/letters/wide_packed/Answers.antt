use Rattle.std.proofs.Common.{◌∷◌, [], refl}
use Rattle.mail_codec.proofs.lemmas.VectorsLetters.{in_order}
use Rattle.mail_codec.proofs.vectors.letters.wide_packed.Goals as goal

pub returns-clause-groups : goal.returns-clause-groups
returns-clause-groups c =
    in_order 16 c.args.letters c.wide_values.result c.wide_numbers.result c.fits-letters.0 c.fits-letters.1 c.wide_values.ensures c.wide_numbers.ensures
    (2 ∷ 1 ∷ 0 ∷ 6 ∷ 5 ∷ 4 ∷ 10 ∷ 9 ∷ 8 ∷ 14 ∷ 13 ∷ 12 ∷ 18 ∷ 17 ∷ 16 ∷ 22 ∷ 21 ∷ 20 ∷ 26 ∷ 25 ∷ 24 ∷ 30 ∷ 29 ∷ 28 ∷ 34 ∷ 33 ∷ 32 ∷ 38 ∷ 37 ∷ 36 ∷ 42 ∷ 41 ∷ 40 ∷ 46 ∷ 45 ∷ 44 ∷ 50 ∷ 49 ∷ 48 ∷ 54 ∷ 53 ∷ 52 ∷ 58 ∷ 57 ∷ 56 ∷ 62 ∷ 61 ∷ 60 ∷ 48 ∷ 49 ∷ 50 ∷ 51 ∷ 52 ∷ 53 ∷ 54 ∷ 55 ∷ 56 ∷ 57 ∷ 58 ∷ 59 ∷ 60 ∷ 61 ∷ 62 ∷ 63 ∷ []) refl refl refl
