use Rattle.std.proofs.Common.{arith}
use Rattle.mail_codec.proofs.lemmas.Vectors.{lowest_match, match_within}
use Rattle.mail_codec.proofs.vectors.masks.first_match.Goals as goal

pub returns-clause-least : goal.returns-clause-least
returns-clause-least c test bytes few is =
    let first = lowest_match test bytes c.args.mask few is c.requires in
    (first, omega (arith, first, match_within test bytes c.args.mask is c.requires))
