use Rattle.mail_laws.proofs.lemmas.CharsetSources.{greatest, own}
use Rattle.mail_laws.proofs.laws.parameters.charset_source_is_the_greatest.Goals as goal

pub returns : goal.returns
returns c = record { greatest = greatest; own = own }
