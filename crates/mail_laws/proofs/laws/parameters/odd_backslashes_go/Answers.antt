use Rattle.std.proofs.Common.{refl}
use Rattle.mail_laws.proofs.lemmas.Escapes.{half_stays, odd_backslashes_go}
use Rattle.mail_laws.proofs.laws.parameters.odd_backslashes_go.Goals as goal

pub returns : goal.returns
returns c = record { places = odd_backslashes_go; runs = λ n rest h. half_stays n 0 rest h refl }
