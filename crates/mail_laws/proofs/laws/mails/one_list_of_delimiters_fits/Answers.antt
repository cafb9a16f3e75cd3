use Rattle.mail_laws.proofs.lemmas.DelimiterPlaces.{cut-fits, cut-is}
use Rattle.mail_laws.proofs.laws.mails.one_list_of_delimiters_fits.Goals as goal

pub returns : goal.returns
returns c = record { fits = cut-fits; only = λ d bytes body places whole h. (cut-is d bytes body h).0; only_parts = λ d bytes body places whole h. (cut-is d bytes body h).1 }
